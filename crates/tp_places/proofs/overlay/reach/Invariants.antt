use Rattle.std.proofs.Common.{◌≡◌, ◌≤◌, ◌+◌, ◌-◌, vec_len, vec_capacity}
use Rattle.tp_places.specs.Padded.{padded}
use Rattle.tp_places.proofs.overlay.reach.Given as goal

-- the table stays, while places are made
abbrev pub invariant-loop-made : goal.invariant-loop-made
invariant-loop-made g l =
    record {
      table : padded l.made.items l.count ≡ padded l.initial.made.items l.count;
      few : vec_len l.made ≤ l.count;
      room : vec_capacity l.made ≡ vec_capacity l.initial.made;
    }

abbrev pub decreases-loop-made : goal.decreases-loop-made
decreases-loop-made g l = l.place + 1 - vec_len l.made
