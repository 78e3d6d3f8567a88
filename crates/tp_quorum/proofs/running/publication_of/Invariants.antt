use Rattle.std.proofs.Common.{◌≡◌, drop}
use Rattle.tp_quorum.specs.Machine.{first_where, is_by_publisher}
use Rattle.tp_quorum.proofs.running.publication_of.Given as goal

-- none so far passes
abbrev pub invariant-loop-operation : goal.invariant-loop-operation
invariant-loop-operation l = record {
  rest : first_where (is_by_publisher l.fn.admin) l.operation-index (drop l.operation-index l.ops) ≡ first_where (is_by_publisher l.fn.admin) 0 l.ops;
  numbered : l.number ≡ l.operation-index;
}
