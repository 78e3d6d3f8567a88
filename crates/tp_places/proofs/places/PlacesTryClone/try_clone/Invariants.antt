use Rattle.std.proofs.Common.{◌≡◌, take}
use Rattle.tp_places.proofs.places.PlacesTryClone.try_clone.Given as goal

-- what is made so far equals the front of the places in memory
abbrev pub invariant-loop-place : goal.invariant-loop-place
invariant-loop-place g l = l.made ≡ take l.place-index l.place-items
