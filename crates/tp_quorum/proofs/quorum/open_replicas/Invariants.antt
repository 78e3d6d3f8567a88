use Rattle.std.proofs.Common.{◌≡◌, replicate}
use Rattle.tp_quorum.specs.Machine.{opened_replica}
use Rattle.tp_quorum.proofs.quorum.open_replicas.Given as goal

-- there are so many replicas so far
abbrev pub invariant-loop-replica : goal.invariant-loop-replica
invariant-loop-replica l = l.replicas ≡ replicate l._replica (opened_replica l.fn.admins)
