use Rattle.std.proofs.Common.{◌≡◌, ◌++◌, drop}
use Rattle.tp_trace.specs.Lines.{lines_text}
use Rattle.tp_trace.specs.Seen.{frees_from}
use Rattle.tp_trace.proofs.seen.put_frees.Given as goal

-- what is put so far, and the lines of what is left, make the whole
abbrev pub invariant-loop-number : goal.invariant-loop-number
invariant-loop-number l = l.out.items ++ lines_text (frees_from l.scenario l.place l.at l.number l.before l.after (drop l.number l.items)) ≡ l.initial.out.items ++ lines_text (frees_from l.scenario l.place l.at 0 l.before l.after l.items)
