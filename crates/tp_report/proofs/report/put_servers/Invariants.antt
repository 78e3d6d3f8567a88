use Rattle.std.proofs.Common.{◌≡◌, ◌++◌, drop}
use Rattle.std.specs.List.{flat_map}
use Rattle.tp_report.specs.ReportText.{server_tokens}
use Rattle.tp_report.specs.Tokens.{text_of}
use Rattle.tp_report.proofs.report.put_servers.Given as goal

-- what is put so far, and the words of what is left, make the whole
abbrev pub invariant-loop-server : goal.invariant-loop-server
invariant-loop-server l = l.out.items ++ text_of (flat_map (server_tokens l.scenario l.ending) (drop l.server-index l.server-items)) ≡ l.initial.out.items ++ text_of (flat_map (server_tokens l.scenario l.ending) l.server-items)
