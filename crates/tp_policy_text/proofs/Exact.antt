-- Exact readers: what is kept of a reader beside the language that it reads.
use Rattle.std.proofs.Common.{◌≡◌, ◌⊎◌, ℕ, ◌+◌, ◌<◌, List, ◌∷◌, ◌++◌, length, Bool, true, false, Option, Some, Result, Ok, Err, []}
use Rattle.tp_policy_text.specs.declared.halt.Stop.{Stop}
use Rattle.tp_policy_text.specs.declared.halt.Stop.TheVariants as stop
use Rattle.tp_policy_text.specs.Grammar.{IsWithin}
use Rattle.tp_policy_text.specs.Lexis.{count, first, is_blank}
use Rattle.tp_policy_text.specs.mirrors.Readings.{Reader, Reading, read, stopped}
use Rattle.tp_policy_text.proofs.Texts.{IsTight}

-- what a text says, and what is left of it
abbrev pub Language : Type 0 → Type 1
Language A = A → List ℕ → List ℕ → Type 0

pub record Front (s left : List ℕ) : Type 0 where
  pub before : List ℕ
  pub parts : s ≡ before ++ left

-- a beginning of some text of the language, before anything that begins with no blank
pub record Ends {A : Type 0} (L : Language A) (x : List ℕ) : Type 0 where
  pub more : List ℕ
  pub value : A
  pub ends : (u : List ℕ) → IsTight u → L value (x ++ (more ++ u)) u

-- some text of the language, which begins with no blank
pub record Starts {A : Type 0} (L : Language A) : Type 0 where
  pub byte : ℕ
  pub others : List ℕ
  pub value : A
  pub tight : is_blank byte ≡ false
  pub ends : (u : List ℕ) → IsTight u → L value (byte ∷ (others ++ u)) u

abbrev pub left_at : {A : Type 0} → Result A Stop → List ℕ → Reading A
left_at outcome left = record { outcome = outcome; left = left }

-- where d parentheses may still be opened, e may after the text
abbrev pub IsLevel : ℕ → ℕ → List ℕ → Type 0
IsLevel d e x = count 40 x + e ≡ count 41 x + d

-- no parenthesis of the text is one too many
abbrev pub IsShallow : ℕ → List ℕ → Type 0
IsShallow = IsWithin

-- the parenthesis that comes next is one too many
abbrev pub IsDeep : ℕ → List ℕ → List ℕ → Type 0
IsDeep d x t = (first t ≡ Some 40) × (count 40 x ≡ count 41 x + d)

-- the reader says nothing of the text
abbrev pub GivesUp : {A : Type 0} → Result A Stop → Type 0
GivesUp (Ok a) = ⊥
GivesUp (Err stop.Deep) = Unit {0}
GivesUp (Err stop.Syntax) = ⊥
GivesUp (Err stop.Spent) = Unit {0}

-- L is what the reader reads within its depth, W the same within any; F is what may come next; n is more bytes than a text has that it
-- reads to the end
pub record Exact {A : Type 0} (L W : Language A) (F : Option ℕ → Bool) (d e n : ℕ) (r : Reader A) : Type 0 where
  pub front : (s : List ℕ) → Front s (r s).left
  -- it looks at one byte behind what it reads
  pub local : (x t u : List ℕ) (o : Result A Stop) → r (x ++ t) ≡ left_at o t → first t ≡ first u → r (x ++ u) ≡ left_at o u
  -- a blank may follow
  pub spaced : (x t u : List ℕ) (a : A) → r (x ++ t) ≡ read a t → IsTight u → F (first u) ≡ true → r (x ++ (32 ∷ u)) ≡ read a u
  pub takes : (s t : List ℕ) (a : A) → r s ≡ read a t → L a s t
  pub wide : (s t : List ℕ) (a : A) → L a s t → W a s t
  pub again : (s t : List ℕ) (a : A) → W a s t → F (first t) ≡ true → (r s ≡ read a t) ⊎ GivesUp (r s).outcome
  pub full : (s t : List ℕ) (a : A) → L a s t → F (first t) ≡ true → length s < n → r s ≡ read a t
  pub lasts : (s : List ℕ) → length s < n → (r s).outcome ≡ Err stop.Spent → ⊥
  -- it stops where some text goes on
  pub viable : (x t : List ℕ) (why : Stop) → r (x ++ t) ≡ stopped why t → Ends L x
  pub some : Starts L
  pub solid : (t : List ℕ) (a : A) → r t ≡ read a t → ⊥
  pub level : (x t : List ℕ) (a : A) → r (x ++ t) ≡ read a t → IsLevel d e x
  pub deep : (x t : List ℕ) → r (x ++ t) ≡ stopped stop.Deep t → IsDeep d x t
  -- some text goes on with the parenthesis
  pub opens : (x t : List ℕ) → r (x ++ t) ≡ stopped stop.Deep t → Ends W (x ++ (40 ∷ []))
  pub shallow : (x t : List ℕ) (o : Result A Stop) → r (x ++ t) ≡ left_at o t → IsShallow d x
