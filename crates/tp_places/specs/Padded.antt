-- A table of which only the first places are in memory.
use Rattle.std.specs.Prelude.{ℕ, ◌-◌, ◌++◌, List, length, replicate, Option, None}

-- these places, and empty ones behind them up to so many in all
abbrev pub padded : {A : Type 0} → List (Option A) → ℕ → List (Option A)
padded made count = made ++ replicate (count - length made) None
