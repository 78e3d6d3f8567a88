-- What a query's text says.
use Rattle.std.specs.Prelude.{ℕ, ◌-◌, ◌==◌, ◌&&◌, nat_le, List, [], ◌∷◌, ◌++◌, length, pos, Bool, true, false, if◌then◌else◌, Option, Some, None, option_map, option_and_then, Result, Ok, Err, ok_or, codes}
use Rattle.std.specs.List.{count_by}
use Rattle.serde_json.specs.Data.{Data}
use Rattle.tp_types.specs.Spelling.{is_name, number_of}
use Rattle.tp_types.specs.declared.scenario.Operand.TheVariants.{Constant, Register}
use Rattle.tp_model.specs.Words.{Query, Term}
use Rattle.tp_types.specs.declared.scenario.Query.TheVariants.{Read, Write}
use Rattle.tp_model.specs.Limits.{is_from_to, terms_limit}
use Rattle.tp_model.specs.Valid.{has_constant}
use Rattle.tp_scenario.specs.declared.fault.Fault.{Fault}
use Rattle.tp_scenario.specs.declared.path.Path.{Path}
use Rattle.tp_scenario.specs.Chain.{◌>>=◌}
use Rattle.tp_scenario.specs.Faults.{range, shape}
use Rattle.tp_model.specs.Ids.{same_name}
use Rattle.tp_scenario.specs.Names.{Names}
use Rattle.tp_scenario.specs.Values.{place_or_unknown, text_at}
use Rattle.tp_model.specs.Queries.{only}
use Rattle.tp_scenario.specs.Words.{words_of}

-- ---- terms

abbrev pub is_register_digit : ℕ → Bool
is_register_digit byte = is_from_to 49 57 byte

-- `r` and a digit from 1 to 9
unfoldable pub register_of : List ℕ → Option ℕ
register_of [] = None
register_of (letter ∷ []) = None
register_of (letter ∷ digit ∷ []) =
    if (letter == 114) && is_register_digit digit then Some (digit - 48) else None
register_of (letter ∷ digit ∷ other ∷ bytes) = None

unfoldable pub constant_term : Bool → List ℕ → Option Term
constant_term negated digits =
    option_map (λ n. record { minus = negated; operand = Constant (pos n) }) (number_of digits)

abbrev pub term_at : Bool → List ℕ → Option ℕ → Option Term
term_at negated word (Some register) =
    Some (record { minus = negated; operand = Register register })
term_at negated word None = constant_term negated word

-- a register or a number
unfoldable pub term_of : Bool → List ℕ → Option Term
term_of negated word = term_at negated word (register_of word)

-- the first term: a number may have `-` directly before it
unfoldable pub first_term : List ℕ → Option Term
first_term [] = None
first_term (byte ∷ bytes) =
    if byte == 45 then constant_term true bytes else term_of false (byte ∷ bytes)

-- a sign: `-` takes the next term away
unfoldable pub sign_of : List ℕ → Option Bool
sign_of word =
    if same_name word (codes "+") then Some false
    else (if same_name word (codes "-") then Some true else None)

-- a sign, and the term behind it
unfoldable pub signed_term : List ℕ → List ℕ → Option Term
signed_term sign word = option_and_then (λ negated. term_of negated word) (sign_of sign)

-- further terms, each behind its sign
abbrev pub terms_after : List Term → List (List ℕ) → Option (List Term)
terms_after made [] = Some made
terms_after made (sign ∷ []) = None
terms_after made (sign ∷ word ∷ words) =
    option_and_then (λ term. terms_after (made ++ term ∷ []) words) (signed_term sign word)

abbrev pub sum_of : List (List ℕ) → Option (List Term)
sum_of [] = None
sum_of (word ∷ words) = option_and_then (λ term. terms_after (term ∷ []) words) (first_term word)

-- ---- queries as they are spelled

pub data Asked : Type 0 where
  reads : List ℕ → ℕ → Asked
  writes : List ℕ → List Term → Asked

-- `ITEM into rK`
unfoldable pub read_of : List (List ℕ) → Option Asked
read_of [] = None
read_of (name ∷ []) = None
read_of (name ∷ into ∷ words) =
    if is_name name && same_name into (codes "into")
    then option_map (reads name) (option_and_then register_of (only words))
    else None

-- `ITEM := TERM` and further terms
unfoldable pub write_of : List (List ℕ) → Option Asked
write_of (name ∷ sign ∷ words) =
    if is_name name && same_name sign (codes ":=") then option_map (writes name) (sum_of words)
    else None
write_of _ = None

abbrev pub asked_by : List ℕ → List (List ℕ) → Option Asked
asked_by verb words =
    if same_name verb (codes "read") then read_of words
    else (if same_name verb (codes "write") then write_of words else None)

abbrev pub asked_in : List (List ℕ) → Option Asked
asked_in [] = None
asked_in (verb ∷ words) = asked_by verb words

-- the query that a text spells
unfoldable pub asked_of : List ℕ → Option Asked
asked_of text = asked_in (words_of text)

-- ---- queries

-- at most five terms, and at most one constant
abbrev pub is_short : List Term → Bool
is_short expr = nat_le (length expr) terms_limit && nat_le (count_by has_constant expr) 1

unfoldable pub read_from : Path → Names → List ℕ → ℕ → Result Query Fault
read_from path items name register = do
  place ← place_or_unknown path items name
  Ok (Read (record { 0 = place }) register)

unfoldable pub write_to : Path → Names → List ℕ → List Term → Result Query Fault
write_to path items name expr = do
  place ← place_or_unknown path items name
  Ok (Write (record { 0 = place }) expr)

abbrev pub query_for : Path → Names → Asked → Result Query Fault
query_for path items (reads name register) = read_from path items name register
query_for path items (writes name expr) =
    if is_short expr then write_to path items name expr else Err (range path)

-- a query: how it is spelled, its counts, and the item that it names
unfoldable pub query_at : Path → Names → Data → Result Query Fault
query_at path items d = do
  text ← text_at path (Some d)
  asked ← ok_or (asked_of text) (shape path)
  query_for path items asked
