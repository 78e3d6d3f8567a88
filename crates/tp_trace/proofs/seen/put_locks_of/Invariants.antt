use Rattle.std.proofs.Common.{◌≡◌, ◌++◌, drop}
use Rattle.std.specs.List.{flat_map}
use Rattle.tp_trace.specs.Lines.{lines_text}
use Rattle.tp_trace.specs.Seen.{lock_if}
use Rattle.tp_trace.proofs.seen.put_locks_of.Given as goal

-- what is put so far, and the lines of what is left, make the whole
abbrev pub invariant-loop-entry : goal.invariant-loop-entry
invariant-loop-entry l = l.out.items ++ lines_text (flat_map (lock_if l.scenario l.place l.at l.item l.before) (drop l.entry-index l.after)) ≡ l.initial.out.items ++ lines_text (flat_map (lock_if l.scenario l.place l.at l.item l.before) l.after)
