-- Readings: what a reader makes of a text. A reading is an outcome and what is left of the text, whatever the outcome.
use Rattle.std.specs.Prelude.{◌⊎◌, ℕ, ◌==◌, false, List, [], ◌∷◌, Bool, Option, Some, None, Result, Ok, Err, if◌then◌else◌}
use Rattle.std.proofs.Math.Logic.{inl, inr}
use Rattle.tp_policy_text.specs.declared.halt.Stop.{Stop}
use Rattle.tp_policy_text.specs.declared.halt.Stop.TheVariants as stop
use Rattle.tp_policy_text.specs.Lexis.{first, skip}

pub record Reading (A : Type 0) : Type 0 where
  pub outcome : Result A Stop
  pub left : List ℕ

abbrev pub read : {A : Type 0} → A → List ℕ → Reading A
read a left = record { outcome = Ok a; left = left }

abbrev pub stopped : {A : Type 0} → Stop → List ℕ → Reading A
stopped why left = record { outcome = Err why; left = left }

-- one reader after another
abbrev pub go_on : {A : Type 0} {B : Type 0} → (A → List ℕ → Reading B) → Result A Stop → List ℕ
    → Reading B
go_on next (Ok a) left = next a left
go_on next (Err why) left = stopped why left

abbrev pub seq : {A : Type 0} {B : Type 0} → Reading A → (A → List ℕ → Reading B) → Reading B
seq reading next = go_on next reading.outcome reading.left

-- with another value
abbrev pub carried : {A : Type 0} {B : Type 0} → (A → B) → Result A Stop → Result B Stop
carried f (Ok a) = Ok (f a)
carried f (Err why) = Err why

abbrev pub mapped : {A : Type 0} {B : Type 0} → (A → B) → Reading A → Reading B
mapped f reading = record { outcome = carried f reading.outcome; left = reading.left }

abbrev pub Reader : Type 0 → Type 0
Reader A = List ℕ → Reading A

-- a reader, and then by its value and by the byte that comes next either the end or another reader
abbrev pub pick : {B : Type 0} {C : Type 0} → Reader B → C ⊎ (B → C) → List ℕ → Reading C
pick q (inl c) m = read c m
pick q (inr g) m = mapped g (q m)

abbrev pub link : {A : Type 0} {B : Type 0} {C : Type 0} → (A → Option ℕ → C ⊎ (B → C)) → Reader A
    → Reader B → Reader C
link k r q s = seq (r s) (λ a m. pick q (k a (first m)) m)

-- one of two readers, by the byte that comes next
abbrev pub choice : {A : Type 0} → (Option ℕ → Bool) → Reader A → Reader A → Reader A
choice asks r q s = if asks (first s) then r s else q s

-- an opening parenthesis comes next
abbrev pub is_open : Option ℕ → Bool
is_open None = false
is_open (Some byte) = byte == 40

-- a parenthesis here is one too many
abbrev pub unopened : {A : Type 0} → Reader A → Reader A
unopened q s = if is_open (first s) then stopped stop.Deep s else q s

-- ---- tokens

-- the end of a token: with a value the blanks behind it go with it, and without one the text cannot go on
abbrev pub ended : {A : Type 0} → Option A → List ℕ → Reading A
ended None after = stopped stop.Syntax after
ended (Some a) after = read a (skip after)

abbrev pub taken : {S : Type 0} {A : Type 0} → Option S → Reading A → (S → Reading A) → Reading A
taken None here further = here
taken (Some next) here further = further next

-- a token is read byte by byte, as far as the state takes the next byte
abbrev pub machine : {S : Type 0} {A : Type 0} → (S → ℕ → Option S) → (S → Option ℕ → Option A) → S
    → Reader A
machine step final state [] = ended (final state None) []
machine step final state (byte ∷ others) =
    taken (step state byte) (ended (final state (Some byte)) (byte ∷ others))
    (λ next. machine step final next others)
