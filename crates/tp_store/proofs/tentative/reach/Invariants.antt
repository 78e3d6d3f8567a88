use Rattle.std.proofs.Common.{◌≡◌, ◌+◌, ◌-◌, length}
use Rattle.tp_store.specs.mirrors.Places.{padded}
use Rattle.tp_store.proofs.tentative.reach.Given as goal

-- the table is the same
abbrev pub invariant-loop-made : goal.invariant-loop-made
invariant-loop-made l = padded l.made l.txns ≡ padded l.initial.made l.txns

abbrev pub decreases-loop-made : goal.decreases-loop-made
decreases-loop-made l = l.at + 1 - length l.made
