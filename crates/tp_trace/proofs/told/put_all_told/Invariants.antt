use Rattle.std.proofs.Common.{◌≡◌, ◌++◌, drop}
use Rattle.tp_trace.specs.Lines.{lines_text}
use Rattle.tp_trace.specs.Told.{all_told}
use Rattle.tp_trace.proofs.told.put_all_told.Given as goal

-- what is put so far, and the lines of what is left, make the whole
abbrev pub invariant-loop-fact : goal.invariant-loop-fact
invariant-loop-fact l = l.out.items ++ lines_text (all_told l.scenario l.facts (drop l.fact-index l.news)) ≡ l.initial.out.items ++ lines_text (all_told l.scenario l.facts l.news)
