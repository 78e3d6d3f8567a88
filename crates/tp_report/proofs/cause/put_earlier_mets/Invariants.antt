use Rattle.std.proofs.Common.{◌≡◌, ◌++◌, drop}
use Rattle.std.specs.List.{flat_map}
use Rattle.tp_report.specs.ReportText.{earlier_met_tokens}
use Rattle.tp_report.specs.Tokens.{text_of}
use Rattle.tp_report.proofs.cause.put_earlier_mets.Given as goal

-- what is put so far, and the words of what is left, make the whole
abbrev pub invariant-loop-met : goal.invariant-loop-met
invariant-loop-met l = l.out.items ++ text_of (flat_map (earlier_met_tokens l.scenario) (drop l.met-index l.mets)) ≡ l.initial.out.items ++ text_of (flat_map (earlier_met_tokens l.scenario) l.mets)
