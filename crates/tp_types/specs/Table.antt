-- Tables with a place for each number, of which some are empty.
use Rattle.std.specs.Prelude.{Bool, true, false, Option, Some, None}

-- the place is there and empty
abbrev pub is_unset : {A : Type 0} → Option (Option A) → Bool
is_unset (Some None) = true
is_unset _ = false
