use Rattle.std.proofs.Common.{◌≡◌, ◌-◌, ◌≤◌, length}
use Rattle.tp_places.specs.Padded.{padded}
use Rattle.tp_places.proofs.places.Places.put.Given as goal

-- the table stays, while its front grows up to the place
abbrev pub invariant-loop-self : goal.invariant-loop-self
invariant-loop-self g l =
    record {
      count : l.self-inside.count ≡ l.initial.self-inside.count;
      front : length l.self-inside.made ≤ l.at;
      table : padded l.self-inside.made l.self-inside.count ≡ padded l.initial.self-inside.made l.initial.self-inside.count;
    }

abbrev pub decreases-loop-self : goal.decreases-loop-self
decreases-loop-self g l = l.at - length l.self-inside.made
