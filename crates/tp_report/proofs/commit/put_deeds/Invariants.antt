use Rattle.std.proofs.Common.{◌≡◌, ◌++◌, drop}
use Rattle.std.specs.List.{flat_map}
use Rattle.tp_report.specs.ReportText.{deed_tokens}
use Rattle.tp_report.specs.Tokens.{text_of}
use Rattle.tp_report.proofs.commit.put_deeds.Given as goal

-- what is put so far, and the words of what is left, make the whole
abbrev pub invariant-loop-deed : goal.invariant-loop-deed
invariant-loop-deed l = l.out.items ++ text_of (flat_map (deed_tokens l.scenario) (drop l.deed-index l.deed-items)) ≡ l.initial.out.items ++ text_of (flat_map (deed_tokens l.scenario) l.deed-items)
