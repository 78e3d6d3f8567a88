use Rattle.std.proofs.Common.{◌≡◌, drop}
use Rattle.tp_quorum.specs.Machine.{first_where, is_replica_down}
use Rattle.tp_quorum.proofs.running.lowest_down.Given as goal

-- none so far passes
abbrev pub invariant-loop-replica : goal.invariant-loop-replica
invariant-loop-replica l = record {
  rest : first_where is_replica_down l.replica-index (drop l.replica-index l.replicas) ≡ first_where is_replica_down 0 l.replicas;
  numbered : l.number ≡ l.replica-index;
}
