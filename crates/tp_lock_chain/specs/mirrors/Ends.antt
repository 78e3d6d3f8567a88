-- The ends of rings, of which some were written, and all others have no node.
use Rattle.std.specs.Prelude.{ℕ, ◌+◌, List, [], ◌∷◌, map, Option, None, Some}
use Rattle.std.specs.List.{range_with_len}
use Rattle.tp_lock_chain.specs.declared.links.Pair.{Pair}
use Rattle.tp_lock_chain.specs.declared.links.Spot.TheVariants.{End}

abbrev pub lone : ℕ → Pair
lone ring = record { before = End ring; after = End ring }

abbrev pub lone_from : ℕ → ℕ → List Pair
lone_from start count = map lone (range_with_len start count)

abbrev pub ends : ℕ → List Pair
ends count = lone_from 0 count

-- what was written of an end, or else the end with no node
abbrev pub end_or_lone : ℕ → Option Pair → Pair
end_or_lone ring None = lone ring
end_or_lone ring (Some pair) = pair

-- the ends from this number on, of which these were written
abbrev pub filled : ℕ → List (Option Pair) → List Pair
filled ring [] = []
filled ring (place ∷ places) = end_or_lone ring place ∷ filled (ring + 1) places
