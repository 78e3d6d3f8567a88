use Rattle.std.proofs.Common.{◌≡◌, drop}
use Rattle.tp_quorum.specs.Machine.{first_where}
use Rattle.tp_quorum.specs.Operations.{is_running}
use Rattle.tp_quorum.proofs.running.first_running.Given as goal

-- none so far passes
abbrev pub invariant-loop-operation : goal.invariant-loop-operation
invariant-loop-operation l = record {
  rest : first_where is_running l.operation-index (drop l.operation-index l.ops) ≡ first_where is_running 0 l.ops;
  numbered : l.number ≡ l.operation-index;
}
