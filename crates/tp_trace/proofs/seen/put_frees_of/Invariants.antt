use Rattle.std.proofs.Common.{◌≡◌, ◌++◌, drop}
use Rattle.std.specs.List.{flat_map}
use Rattle.tp_trace.specs.Lines.{lines_text}
use Rattle.tp_trace.specs.Seen.{free_if}
use Rattle.tp_trace.proofs.seen.put_frees_of.Given as goal

-- what is put so far, and the lines of what is left, make the whole
abbrev pub invariant-loop-entry : goal.invariant-loop-entry
invariant-loop-entry l = l.out.items ++ lines_text (flat_map (free_if l.scenario l.place l.at l.item l.after) (drop l.entry-index l.before)) ≡ l.initial.out.items ++ lines_text (flat_map (free_if l.scenario l.place l.at l.item l.after) l.before)
