use Rattle.std.proofs.Common.{◌≡◌, ◌++◌, drop}
use Rattle.std.specs.List.{flat_map}
use Rattle.tp_report.specs.ReportText.{item_tokens}
use Rattle.tp_report.specs.Tokens.{text_of}
use Rattle.tp_report.proofs.report.put_server.Given as goal

-- what is put so far, and the words of what is left, make the whole
abbrev pub invariant-loop-item : goal.invariant-loop-item
invariant-loop-item l = l.out.items ++ text_of (flat_map (item_tokens l.scenario l.ending l.server.name) (drop l.item-index l.item-items)) ≡ l.initial.out.items ++ text_of (flat_map (item_tokens l.scenario l.ending l.server.name) l.item-items)
