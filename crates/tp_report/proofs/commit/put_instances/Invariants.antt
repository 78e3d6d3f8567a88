use Rattle.std.proofs.Common.{◌≡◌, ◌+◌, ◌++◌, drop}
use Rattle.tp_report.specs.ReportText.{instances_tokens}
use Rattle.tp_report.specs.Tokens.{text_of}
use Rattle.tp_report.proofs.commit.put_instances.Given as goal

-- what is put so far, and the words of what is left, make the whole
abbrev pub invariant-loop-before : goal.invariant-loop-before
invariant-loop-before l = l.out.items ++ text_of (instances_tokens l.scenario (l.before + 1) (drop l.before l.instances)) ≡ l.initial.out.items ++ text_of (instances_tokens l.scenario 1 l.instances)
