use Rattle.std.proofs.Common.{◌≡◌, ◌≤◌, take, vec_capacity}
use Rattle.tp_places.proofs.overlay.OverlayTryClone.try_clone.Given as goal

-- what is made so far equals the front of the places in memory, and there is room for all
abbrev pub invariant-loop-place : goal.invariant-loop-place
invariant-loop-place g l =
    record {
      front : l.made.items ≡ take l.place-index l.place-items;
      room : l.self-inside.count ≤ vec_capacity l.made;
    }
