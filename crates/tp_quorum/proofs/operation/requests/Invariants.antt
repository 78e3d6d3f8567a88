use Rattle.std.proofs.Common.{◌≡◌, ◌++◌, drop}
use Rattle.tp_quorum.specs.Operations.{requests}
use Rattle.tp_quorum.proofs.operation.requests.Given as goal

-- those so far, and those of the flags that are left, are all
abbrev pub invariant-loop-flag : goal.invariant-loop-flag
invariant-loop-flag l = record {
  all : l.sent ++ requests l.op l.asked l.flag-index (drop l.flag-index l.answered) ≡ requests l.op l.asked 0 l.answered;
  numbered : l.replica ≡ l.flag-index;
}
