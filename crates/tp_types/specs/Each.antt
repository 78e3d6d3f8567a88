-- What holds of each member of a list, and of each place of a list or a table.
use Rattle.std.specs.Prelude.{List, Option, Some, [], slice_get, ℕ, ◌∷◌, ◌≡◌}
use Rattle.std.specs.Option.{option_flatten}

-- P holds of each member
abbrev pub Each : {A : Type 0} → (A → Type 0) → List A → Type 0
Each P [] = Unit {0}
Each P (x ∷ xs) = P x × Each P xs

-- P holds of each place of a table that is not empty, and what stands there
abbrev pub EachPlaced : {A : Type 0} → (ℕ → A → Type 0) → List (Option A) → Type 0
EachPlaced {A} P table =
    (n : ℕ) (found : A) → option_flatten (slice_get table n) ≡ Some found → P n found

-- P holds of each place of a list, and its member
abbrev pub EachAt : {A : Type 0} → (ℕ → A → Type 0) → List A → Type 0
EachAt {A} P xs = (n : ℕ) (found : A) → slice_get xs n ≡ Some found → P n found
