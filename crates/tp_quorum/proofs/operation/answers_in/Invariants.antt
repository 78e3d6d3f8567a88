use Rattle.std.proofs.Common.{◌≡◌, ◌+◌, ◌≤◌, drop}
use Rattle.tp_quorum.specs.Operations.{answers_in}
use Rattle.tp_quorum.proofs.operation.answers_in.Given as goal

-- those so far, and those of the flags that are left, are all
abbrev pub invariant-loop-flag : goal.invariant-loop-flag
invariant-loop-flag l = record {
  all : l.count + answers_in (drop l.flag-index l.answered) ≡ answers_in l.answered;
  few : l.count ≤ l.flag-index;
}
