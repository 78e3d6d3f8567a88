use Rattle.std.proofs.Common.{◌≡◌, ◌++◌, drop, map}
use Rattle.tp_trace.specs.Lines.{lines_text}
use Rattle.tp_trace.specs.Told.{deed_because}
use Rattle.tp_trace.proofs.told.put_deeds.Given as goal

-- what is put so far, and the lines of what is left, make the whole
abbrev pub invariant-loop-deed : goal.invariant-loop-deed
invariant-loop-deed l = l.out.items ++ lines_text (map (deed_because l.scenario l.place) (drop l.deed-index l.deed-items)) ≡ l.initial.out.items ++ lines_text (map (deed_because l.scenario l.place) l.deed-items)
