-- A flag for each number, which says whether it is pending.
use Rattle.std.specs.Prelude.{ℕ, ◌+◌, List, [], ◌∷◌, Bool, true, false}

-- the numbers of the flags that are set, the first flag having this number
abbrev pub marked : ℕ → List Bool → List ℕ
marked first [] = []
marked first (true ∷ flags) = first ∷ marked (first + 1) flags
marked first (false ∷ flags) = marked (first + 1) flags
