use Rattle.std.proofs.Common.{◌≡◌, ◌+◌, ◌++◌, drop}
use Rattle.tp_trace.specs.Lines.{lines_text}
use Rattle.tp_trace.specs.Told.{instances_because}
use Rattle.tp_trace.proofs.told.put_instances.Given as goal

-- what is put so far, and the lines of what is left, make the whole
abbrev pub invariant-loop-before : goal.invariant-loop-before
invariant-loop-before l = l.out.items ++ lines_text (instances_because l.scenario l.place (l.before + 1) (drop l.before l.instances)) ≡ l.initial.out.items ++ lines_text (instances_because l.scenario l.place 1 l.instances)
