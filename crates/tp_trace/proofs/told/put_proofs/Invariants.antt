use Rattle.std.proofs.Common.{◌≡◌, ◌++◌, drop, map}
use Rattle.tp_trace.specs.Lines.{lines_text}
use Rattle.tp_trace.specs.Told.{proof_because}
use Rattle.tp_trace.proofs.told.put_proofs.Given as goal

-- what is put so far, and the lines of what is left, make the whole
abbrev pub invariant-loop-proof : goal.invariant-loop-proof
invariant-loop-proof l = l.out.items ++ lines_text (map (proof_because l.scenario l.place) (drop l.proof-index l.proof-items)) ≡ l.initial.out.items ++ lines_text (map (proof_because l.scenario l.place) l.proof-items)
