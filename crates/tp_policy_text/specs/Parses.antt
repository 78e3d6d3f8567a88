-- What reading a text answers, within the limits of a text.
use Rattle.std.specs.Prelude.{◌≡◌, ℕ, ◌≤◌, ◌<◌, List, length, Result, Ok, Err}
use Rattle.tp_types.specs.declared.policy.Policy.{Policy}
use Rattle.tp_policy_text.specs.declared.halt.Stop.{Stop}
use Rattle.tp_policy_text.specs.declared.halt.Stop.TheVariants as stop
use Rattle.tp_policy_text.specs.declared.parsing.ParseError.{ParseError}
use Rattle.tp_policy_text.specs.declared.parsing.ParseError.TheVariants as refusal
use Rattle.tp_policy_text.specs.Grammar.{IsTooDeep, IsWithin, SpellsWithin, Stops}

-- the most bytes of a text
abbrev pub length_max : ℕ
length_max = 4096

-- how many parentheses may stand within one another
abbrev pub depth_max : ℕ
depth_max = 16

-- a parenthesis too many stands at the place, and before it the text can go on
pub record StandsTooDeep (text : List ℕ) (place : ℕ) : Type 0 where
  pub before : List ℕ
  pub is : IsTooDeep depth_max text before
  pub place_is : place ≡ length before

-- the text has no reading of any depth, and goes on as some text of the grammar up to the place; no parenthesis too many stands there
pub record StopsAtPlace (text : List ℕ) (place : ℕ) : Type 0 where
  pub before : List ℕ
  pub is : Stops text before
  pub within : IsWithin depth_max before
  pub place_is : place ≡ length before

-- the one answer that a text has
abbrev pub Answers : List ℕ → Result Policy ParseError → Type 0
Answers text (Ok policy) = (length text ≤ length_max) × SpellsWithin depth_max policy text
Answers text (Err refusal.TooLong) = length_max < length text
Answers text (Err (refusal.TooDeep place)) = (length text ≤ length_max) × StandsTooDeep text place
Answers text (Err (refusal.Syntax place)) = (length text ≤ length_max) × StopsAtPlace text place
Answers text (Err refusal.NoMemory) = ⊥

-- memory was refused
abbrev pub IsOutOfMemory : Result Policy ParseError → Type 0
IsOutOfMemory result = result ≡ Err refusal.NoMemory

-- the refusal at a place where a reader stops; no reader of a whole text is spent
abbrev pub refusal_of : Stop → ℕ → ParseError
refusal_of stop.Deep place = refusal.TooDeep place
refusal_of stop.Syntax place = refusal.Syntax place
refusal_of stop.Spent place = refusal.TooLong

-- every text has an answer
abbrev pub HasAnswer : Type 0
HasAnswer = (text : List ℕ) → (answer : Result Policy ParseError) × Answers text answer

-- and no text has two
abbrev pub HasOneAnswer : Type 0
HasOneAnswer =
    (text : List ℕ) (one other : Result Policy ParseError) → Answers text one → Answers text other
    → one ≡ other
