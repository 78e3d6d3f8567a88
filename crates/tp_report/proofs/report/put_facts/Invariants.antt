use Rattle.std.proofs.Common.{◌≡◌, ◌++◌, drop}
use Rattle.std.specs.List.{flat_map}
use Rattle.tp_report.specs.ReportText.{fact_tokens}
use Rattle.tp_report.specs.Tokens.{text_of}
use Rattle.tp_report.proofs.report.put_facts.Given as goal

-- what is put so far, and the words of what is left, make the whole
abbrev pub invariant-loop-fact : goal.invariant-loop-fact
invariant-loop-fact l = l.out.items ++ text_of (flat_map (fact_tokens l.scenario) (drop l.fact-index l.fact-items)) ≡ l.initial.out.items ++ text_of (flat_map (fact_tokens l.scenario) l.fact-items)
