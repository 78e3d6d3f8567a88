-- What may come next in a text, as a tree of choices. A token leads from a tree to at most one other, so tokens that lead to a place lead to no
-- other one.
use Rattle.std.proofs.Common.{◌≡◌, ◌≤◌, ◌<◌, ◌^◌, ℕ, ◌==◌, ◌&&◌, nat_lt, Bool, true, false, if◌then◌else◌, List, [], ◌∷◌, ◌++◌, Option, Some, None, option_map, option_and_then, zero, suc, ℤ, pos, negsuc, refl, ap, ◌∙◌, arith, decimal}
use Rattle.std.specs.Cmp.Lexicographic.{pointwise}
use Rattle.std.specs.List.{list_all}
use Rattle.std.specs.Option.{option_or}
use Rattle.std.specs.Str.Parse.{digits_value}
use Rattle.std.proofs.lemmas.Bool.{and_from}
use Rattle.std.proofs.lemmas.Bool.Decides.{nat_tests}
use Rattle.tp_types.specs.Spelling.{is_digit}
use Rattle.tp_model.specs.Printable.{is_i128}
use Rattle.tp_report.specs.Tokens.{Token}
use Rattle.tp_report.proofs.reading.Words.{is_clean}

-- ---- words

abbrev pub same_bytes : List ℕ → List ℕ → Bool
same_bytes one other = pointwise ◌==◌ one other

abbrev pub same_token : Token → Token → Bool
same_token one other = same_bytes one.word other.word && one.ending == other.ending

-- the place of a word among names
abbrev pub place_of : List (List ℕ) → List ℕ → Option ℕ
place_of [] bytes = None
place_of (name ∷ names) bytes = if same_bytes name bytes then Some 0 else option_map suc (place_of names bytes)

-- the number, where the bytes are its decimal form
abbrev pub number_of : List ℕ → Option ℕ
number_of [] = None
number_of (first ∷ bytes) =
    if is_digit first && same_bytes (decimal (digits_value 10 (first ∷ bytes))) (first ∷ bytes) then Some (digits_value 10 (first ∷ bytes)) else None

-- the number behind these first bytes
abbrev pub number_behind : List ℕ → List ℕ → Option ℕ
number_behind [] bytes = number_of bytes
number_behind (byte ∷ front) [] = None
number_behind (byte ∷ front) (first ∷ bytes) = if byte == first then number_behind front bytes else None

abbrev pub below : ℕ → ℕ → Option ℕ
below bound n = if nat_lt n bound then Some n else None

-- a minus stands before a number from 1 on
abbrev pub negative : ℕ → Option ℤ
negative zero = None
negative (suc n) = Some (negsuc n)

abbrev pub in_range : ℤ → Option ℤ
in_range value = if is_i128 value then Some value else None

abbrev pub value_of : List ℕ → Option ℤ
value_of [] = None
value_of (first ∷ bytes) = if first == 45 then option_and_then negative (number_of bytes) else option_map pos (number_of (first ∷ bytes))

-- ---- trees

pub data Tree (H : Type 0) : Type 0 where
  Nothing : Tree H
  -- a place where lists come round, which stands for its own tree
  At : H → Tree H
  -- this token
  Exactly : Token → Tree H → Tree H
  -- one of these names, and this ending
  Named : List (List ℕ) → ℕ → (ℕ → Tree H) → Tree H
  -- these bytes, a number below the bound, and this ending
  Numbered : List ℕ → ℕ → ℕ → (ℕ → Tree H) → Tree H
  -- a number with its sign, and a newline
  Valued : (ℤ → Tree H) → Tree H
  -- the first, else the second
  Either : Tree H → Tree H → Tree H

abbrev pub where_ended : {H : Type 0} → ℕ → Token → Option (Tree H) → Option (Tree H)
where_ended ending token next = if token.ending == ending then next else None

-- the tree to which a token leads, if it may come
abbrev pub step : {H : Type 0} → Tree H → Token → Option (Tree H)
step Nothing token = None
step (At hub) token = None
step (Exactly wanted rest) token = if same_token wanted token then Some rest else None
step (Named names ending rest) token = where_ended ending token (option_map rest (place_of names token.word))
step (Numbered front bound ending rest) token = where_ended ending token (option_map rest (option_and_then (below bound) (number_behind front token.word)))
step (Valued rest) token = where_ended 10 token (option_map rest (option_and_then in_range (value_of token.word)))
step (Either first other) token = option_or (step first token) (step other token)

-- a place stands for its own tree
abbrev pub opened : {H : Type 0} → (H → Tree H) → Tree H → Tree H
opened hub (At place) = hub place
opened hub tree = tree

abbrev pub take : {H : Type 0} → (H → Tree H) → Tree H → Token → Option (Tree H)
take hub tree token = step (opened hub tree) token

abbrev pub follow : {H : Type 0} → (H → Tree H) → Tree H → List Token → Option (Tree H)
follow hub tree [] = Some tree
follow hub tree (token ∷ tokens) = option_and_then (λ next. follow hub next tokens) (take hub tree token)

-- ---- ways

-- a clean token that leads from a tree to another
pub record Takes {H : Type 0} (hub : H → Tree H) (tree : Tree H) (token : Token) (next : Tree H) : Type 0 where
  pub clean : is_clean token ≡ true
  pub leads : take hub tree token ≡ Some next

-- clean tokens that lead from a tree to another
pub data Leads {H : Type 0} (hub : H → Tree H) : Tree H → List Token → Tree H → Type 0 where
  Done : {tree : Tree H} → Leads hub tree [] tree
  Then : {tree next last : Tree H} {token : Token} {tokens : List Token} → Takes hub tree token next → Leads hub next tokens last → Leads hub tree (token ∷ tokens) last

-- one way behind the other
pub joined : {H : Type 0} {hub : H → Tree H} {tree next last : Tree H} {tokens others : List Token} → Leads hub tree tokens next → Leads hub next others last → Leads hub tree (tokens ++ others) last
joined Done way = way
joined (Then takes rest) way = Then takes (joined rest way)

pub followed : {H : Type 0} {hub : H → Tree H} {tree last : Tree H} {tokens : List Token} → Leads hub tree tokens last → follow hub tree tokens ≡ Some last
followed Done = refl
followed {H} {hub} (Then {tokens = tokens} takes rest) = ap (option_and_then (λ (next : Tree H). follow hub next tokens)) takes.leads ∙ followed rest

pub clean_all : {H : Type 0} {hub : H → Tree H} {tree last : Tree H} {tokens : List Token} → Leads hub tree tokens last → list_all is_clean tokens ≡ true
clean_all Done = refl
clean_all (Then takes rest) = and_from _ _ takes.clean (clean_all rest)
