use Rattle.std.proofs.Common.{◌≡◌, ◌++◌, drop}
use Rattle.std.specs.List.{flat_map}
use Rattle.tp_report.specs.ReportText.{proof_tokens}
use Rattle.tp_report.specs.Tokens.{text_of}
use Rattle.tp_report.proofs.commit.put_proofs.Given as goal

-- what is put so far, and the words of what is left, make the whole
abbrev pub invariant-loop-proof : goal.invariant-loop-proof
invariant-loop-proof l = l.out.items ++ text_of (flat_map (proof_tokens l.scenario) (drop l.proof-index l.proof-items)) ≡ l.initial.out.items ++ text_of (flat_map (proof_tokens l.scenario) l.proof-items)
