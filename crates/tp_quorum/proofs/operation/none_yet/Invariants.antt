use Rattle.std.proofs.Common.{◌≡◌, false, replicate}
use Rattle.tp_quorum.proofs.operation.none_yet.Given as goal

-- there are so many flags so far
abbrev pub invariant-loop-replica : goal.invariant-loop-replica
invariant-loop-replica l = l.answered ≡ replicate l._replica false
