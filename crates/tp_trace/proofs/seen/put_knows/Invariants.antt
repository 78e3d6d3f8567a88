use Rattle.std.proofs.Common.{◌≡◌, ◌++◌, drop}
use Rattle.tp_trace.specs.Lines.{lines_text}
use Rattle.tp_trace.specs.Seen.{knows_from}
use Rattle.tp_trace.proofs.seen.put_knows.Given as goal

-- what is put so far, and the lines of what is left, make the whole
abbrev pub invariant-loop-admin : goal.invariant-loop-admin
invariant-loop-admin l = l.out.items ++ lines_text (knows_from l.scenario l.place l.at l.admin l.before (drop l.admin l.after)) ≡ l.initial.out.items ++ lines_text (knows_from l.scenario l.place l.at 0 l.before l.after)
