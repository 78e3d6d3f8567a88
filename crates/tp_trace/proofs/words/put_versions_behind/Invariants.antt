use Rattle.std.proofs.Common.{◌≡◌, ◌+◌, ◌++◌, drop}
use Rattle.tp_trace.specs.Words.{versions_behind}
use Rattle.tp_trace.proofs.words.put_versions_behind.Given as goal

-- what is put so far, and the words of what is left, make the whole
abbrev pub invariant-loop-before : goal.invariant-loop-before
invariant-loop-before l = l.out.items ++ versions_behind l.scenario (l.before + 1) (drop l.before l.others) ≡ l.initial.out.items ++ versions_behind l.scenario 1 l.others
