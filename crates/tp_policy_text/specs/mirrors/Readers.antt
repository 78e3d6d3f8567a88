-- The readers of the policy language, as functions on texts. Each production has one, and the program's readers are promised to be these.
use Rattle.std.specs.Prelude.{◌⊎◌, ℕ, ◌==◌, ◌&&◌, ◌||◌, not, zero, suc, List, [], ◌∷◌, ◌++◌, length, nat_lt, Bool, true, false, Option, Some, None, if◌then◌else◌, ℤ, pos, neg_ℤ, codes, Result, Ok, Err}
use Rattle.std.proofs.Math.Logic.{inl, inr}
use Rattle.tp_types.specs.declared.policy.Action.{Action}
use Rattle.tp_types.specs.declared.policy.Action.TheVariants as action
use Rattle.tp_types.specs.declared.policy.Cond.{Cond}
use Rattle.tp_types.specs.declared.policy.Cond.TheVariants as cond
use Rattle.tp_types.specs.declared.policy.Op.{Op}
use Rattle.tp_types.specs.declared.policy.Op.TheVariants as op
use Rattle.tp_types.specs.declared.policy.Pattern.{Pattern}
use Rattle.tp_types.specs.declared.policy.Pattern.TheVariants as pattern
use Rattle.tp_types.specs.declared.policy.Rule.{Rule}
use Rattle.tp_types.specs.declared.policy.Value.{Value}
use Rattle.tp_types.specs.declared.policy.Value.TheVariants as value
use Rattle.tp_types.specs.Spelling.{is_digit, is_letter, is_name_byte, spelled_from}
use Rattle.tp_types.specs.declared.policy.Policy.{Policy}
use Rattle.tp_policy_text.specs.declared.halt.Stop.{Stop}
use Rattle.tp_policy_text.specs.declared.production.Permitted.{Permitted}
use Rattle.tp_policy_text.specs.declared.halt.Stop.TheVariants as stop
use Rattle.tp_policy_text.specs.Grammar.{and_of, or_of}
use Rattle.tp_policy_text.specs.Lexis.{in_word, skip}
use Rattle.tp_policy_text.specs.mirrors.Readings.{Reader, choice, is_open, link, machine, mapped, stopped, unopened, Reading, read}

-- ---- words and signs: the state is what is still to come of the token

abbrev pub word_step : List ℕ → ℕ → Option (List ℕ)
word_step [] byte = None
word_step (wanted ∷ others) byte = if byte == wanted then Some others else None

abbrev pub word_end : {A : Type 0} → Bool → A → List ℕ → Option ℕ → Option A
word_end apart a [] next = if apart && in_word next then None else Some a
word_end apart a (wanted ∷ others) next = None

abbrev pub token_at : {A : Type 0} → Bool → List ℕ → A → Reader A
token_at apart token a = machine word_step (word_end apart a) token

-- ---- names: the state is what was read of the name

abbrev pub is_some_text : List ℕ → Bool
is_some_text [] = false
is_some_text (byte ∷ others) = true

-- the byte may come after this beginning of a name
abbrev pub goes_on : List ℕ → ℕ → Bool
goes_on [] byte = is_letter byte
goes_on (head ∷ others) byte = is_name_byte byte && nat_lt (length others) 31

abbrev pub name_step : List ℕ → ℕ → Option (List ℕ)
name_step name byte = if goes_on name byte then Some (name ++ byte ∷ []) else None

abbrev pub name_end : List ℕ → Option ℕ → Option (List ℕ)
name_end name next = if is_some_text name && not (in_word next) then Some name else None

abbrev pub name_at : Reader (List ℕ)
name_at = machine name_step name_end []

-- ---- integers: whether a `-` was read, and the digits

pub record Digits : Type 0 where
  pub negative : Bool
  pub digits : List ℕ

-- the digit may come after these: no other after a 0, no 0 after a `-`, and fifteen in all
abbrev pub takes_digit : Bool → List ℕ → ℕ → Bool
takes_digit negative [] byte = is_digit byte && not (negative && (byte == 48))
takes_digit negative (head ∷ others) byte =
    is_digit byte && not (head == 48) && nat_lt (length others) 14

abbrev pub int_step : Digits → ℕ → Option Digits
int_step d byte =
    if takes_digit d.negative d.digits byte then Some (record {
      negative = d.negative;
      digits = d.digits ++ byte ∷ [];
    })
    else (if (byte == 45) && not d.negative && not (is_some_text d.digits)
    then Some (record { negative = true; digits = [] })
    else None)

abbrev pub int_of : Digits → ℤ
int_of d =
    if d.negative then neg_ℤ (pos (spelled_from 0 d.digits)) else pos (spelled_from 0 d.digits)

abbrev pub int_end : Digits → Option ℕ → Option ℤ
int_end d next = if is_some_text d.digits && not (in_word next) then Some (int_of d) else None

abbrev pub int_at : Reader ℤ
int_at = machine int_step int_end (record { negative = false; digits = [] })

-- ---- the head of an atom: the word true, or an issuer and an attribute

pub record Head : Type 0 where
  pub issuer : List ℕ
  pub attr : Option (List ℕ)

abbrev pub attr_step : List ℕ → Option (List ℕ) → Option Head
attr_step issuer None = None
attr_step issuer (Some attr) = Some (record { issuer = issuer; attr = Some attr })

abbrev pub issuer_step : Option (List ℕ) → Option Head
issuer_step None = None
issuer_step (Some issuer) = Some (record { issuer = issuer; attr = None })

abbrev pub head_on : List ℕ → Option (List ℕ) → ℕ → Option Head
head_on issuer None byte =
    if (byte == 46) && is_some_text issuer then Some (record { issuer = issuer; attr = Some [] })
    else issuer_step (name_step issuer byte)
head_on issuer (Some attr) byte = attr_step issuer (name_step attr byte)

abbrev pub head_step : Head → ℕ → Option Head
head_step h byte = head_on h.issuer h.attr byte

abbrev pub same_text : List ℕ → List ℕ → Bool
same_text [] [] = true
same_text (x ∷ xs) (y ∷ ys) = (x == y) && same_text xs ys
same_text _ _ = false

-- None stands for the word true
abbrev pub head_of : List ℕ → Option (List ℕ) → Option ℕ → Option (Option Head)
head_of issuer None next =
    if same_text issuer (codes "true") && not (in_word next) then Some None else None
head_of issuer (Some attr) next =
    if is_some_text attr && not (in_word next)
    then Some (Some (record { issuer = issuer; attr = Some attr }))
    else None

abbrev pub head_end : Head → Option ℕ → Option (Option Head)
head_end h next = head_of h.issuer h.attr next

abbrev pub head_at : Reader (Option Head)
head_at = machine head_step head_end (record { issuer = []; attr = None })

-- ---- patterns other than `*`: a name, and whether a `*` was read behind it

pub record Starred : Type 0 where
  pub name : List ℕ
  pub starred : Bool

abbrev pub unstarred : Option (List ℕ) → Option Starred
unstarred None = None
unstarred (Some name) = Some (record { name = name; starred = false })

abbrev pub starred_step : Starred → ℕ → Option Starred
starred_step p byte =
    if p.starred then None
    else (if (byte == 42) && is_some_text p.name then Some (record { name = p.name; starred = true })
    else unstarred (name_step p.name byte))

abbrev pub starred_end : Starred → Option ℕ → Option Pattern
starred_end p next =
    if p.starred then Some (pattern.Prefix p.name)
    else (if is_some_text p.name && not (in_word next) then Some (pattern.Exact p.name) else None)

abbrev pub starred_at : Reader Pattern
starred_at = machine starred_step starred_end (record { name = []; starred = false })

-- ---- productions

-- the byte comes next
abbrev pub comes : ℕ → Option ℕ → Bool
comes byte None = false
comes byte (Some other) = other == byte

-- one reader and another, whatever comes next
abbrev pub both : {A : Type 0} {B : Type 0} {C : Type 0} → (A → B → C) → Reader A → Reader B
    → Reader C
both f r q = link (λ a o. inr (f a)) r q

-- a value behind something that says nothing
abbrev pub second : {A : Type 0} {B : Type 0} → A → B → B
second a b = b

abbrev pub earlier : {A : Type 0} {B : Type 0} → A → B → A
earlier a b = a

abbrev pub word_at : {A : Type 0} → List ℕ → A → Reader A
word_at token a = token_at true token a

abbrev pub sign_at : {A : Type 0} → List ℕ → A → Reader A
sign_at token a = token_at false token a

-- an operator with what it compares to
pub record Compared : Type 0 where
  pub op : Op
  pub wanted : Value

abbrev pub with_op : Op → Value → Compared
with_op compares wanted = record { op = compares; wanted = wanted }

abbrev pub with_number : Op → ℤ → Compared
with_number compares z = record { op = compares; wanted = value.Number z }

-- an integer begins with a digit or a `-`
abbrev pub begins_int : Option ℕ → Bool
begins_int None = false
begins_int (Some byte) = is_digit byte || (byte == 45)

abbrev pub value_at : Reader Value
value_at =
    choice begins_int (λ s. mapped value.Number (int_at s)) (λ s. mapped value.Word (name_at s))

abbrev pub equal_at : Reader Compared
equal_at = both with_op (sign_at (codes "=") op.Equal) value_at

abbrev pub bound_at : List ℕ → Op → Reader Compared
bound_at sign compares = both with_number (sign_at sign compares) int_at

abbrev pub compared_at : Reader Compared
compared_at =
    choice (comes 61) equal_at
    (choice (comes 62) (bound_at (codes ">=") op.AtLeast) (bound_at (codes "<=") op.AtMost))

abbrev pub atom_of : Option Head → Option ℕ → Cond ⊎ (Compared → Cond)
atom_of None next = inl cond.True
atom_of (Some head) next =
    inr (λ compared. cond.Atom head.issuer (attr_of head.attr) compared.op compared.wanted)
  where
    attr_of : Option (List ℕ) → List ℕ
    attr_of None = []
    attr_of (Some attr) = attr

abbrev pub atom_at : Reader Cond
atom_at = link atom_of head_at compared_at

-- one or more with a word between two of them, of which the next byte is the first. Each takes one turn
abbrev pub more_of : {A : Type 0} → ℕ → A → Option ℕ → List A ⊎ (List A → List A)
more_of byte a next = if comes byte next then inr (λ others. a ∷ others) else inl (a ∷ [])

abbrev pub joined_at : {A : Type 0} → ℕ → ℕ → List ℕ → Reader A → Reader (List A)
joined_at zero byte word r = stopped stop.Spent
joined_at (suc fuel) byte word r =
    link (more_of byte) r (both second (word_at word (tt {0})) (joined_at fuel byte word r))

abbrev pub in_parentheses : Reader Cond → Reader Cond
in_parentheses r =
    both second (sign_at (codes "(") (tt {0})) (both earlier r (sign_at (codes ")") (tt {0})))

-- how many parentheses may still be opened
abbrev pub part_at : ℕ → Reader Cond → Reader Cond
part_at zero inner = unopened atom_at
part_at (suc depth) inner = choice is_open (in_parentheses inner) atom_at

abbrev pub conj_at : ℕ → ℕ → Reader Cond → Reader Cond
conj_at fuel depth inner s =
    mapped and_of (joined_at fuel 97 (codes "and") (part_at depth inner) s)

abbrev pub disj_at : ℕ → ℕ → Reader Cond → Reader Cond
disj_at fuel depth inner s =
    mapped or_of (joined_at fuel 111 (codes "or") (conj_at fuel depth inner) s)

abbrev pub cond_at : ℕ → ℕ → Reader Cond
cond_at fuel zero = disj_at fuel zero (stopped stop.Deep)
cond_at fuel (suc depth) = disj_at fuel (suc depth) (cond_at fuel depth)

-- what may stand in parentheses, where so many may be opened
abbrev pub inner_at : ℕ → ℕ → Reader Cond
inner_at fuel zero = stopped stop.Deep
inner_at fuel (suc depth) = cond_at fuel depth

-- ---- rules

abbrev pub action_at : Reader (Option Action)
action_at =
    choice (comes 114) (word_at (codes "read") (Some action.Read))
    (choice (comes 119) (word_at (codes "write") (Some action.Write)) (word_at (codes "any") None))

abbrev pub pattern_at : Reader Pattern
pattern_at = choice (comes 42) (sign_at (codes "*") pattern.All) starred_at

-- what a rule says behind its `on`
abbrev pub permitted : Pattern → Cond → Permitted
permitted matching c = record { pattern = matching; cond = c }

abbrev pub rule_of : Option Action → Permitted → Rule
rule_of acts p = record { action = acts; pattern = p.pattern; cond = p.cond }

abbrev pub permitted_at : ℕ → ℕ → Reader Permitted
permitted_at fuel depth =
    both permitted pattern_at
    (both second (word_at (codes "if") (tt {0}))
    (both earlier (cond_at fuel depth) (sign_at (codes ";") (tt {0}))))

abbrev pub rule_at : ℕ → ℕ → Reader Rule
rule_at fuel depth =
    both second (word_at (codes "allow") (tt {0}))
    (both rule_of action_at
    (both second (word_at (codes "on") (tt {0})) (permitted_at fuel depth)))

abbrev pub rules_at : ℕ → ℕ → ℕ → Reader (List Rule)
rules_at zero fuel depth = stopped stop.Spent
rules_at (suc left) fuel depth =
    link (more_of 97) (rule_at fuel depth) (rules_at left fuel depth)

-- ---- a whole text

abbrev pub whole_of : Result (List Rule) Stop → List ℕ → Reading Policy
whole_of (Ok rules) [] = read (record { rules = rules }) []
whole_of (Ok rules) (byte ∷ others) = stopped stop.Syntax (byte ∷ others)
whole_of (Err why) left = stopped why left

abbrev pub rules_only : ℕ → ℕ → Reader Policy
rules_only fuel depth text =
    whole_of (rules_at fuel fuel depth text).outcome (rules_at fuel fuel depth text).left

abbrev pub policy_from : ℕ → ℕ → List ℕ → Reading Policy
policy_from fuel depth [] = read (record { rules = [] }) []
policy_from fuel depth (byte ∷ others) = rules_only fuel depth (byte ∷ others)

-- blanks, rules, and the end
abbrev pub policy_at : ℕ → ℕ → Reader Policy
policy_at fuel depth text = policy_from fuel depth (skip text)
