use Rattle.std.proofs.Common.{◌≡◌, ◌++◌, drop, map}
use Rattle.tp_report.specs.ReportText.{earlier_use}
use Rattle.tp_report.specs.Tokens.{text_of}
use Rattle.tp_report.proofs.commit.put_creds.Given as goal

-- what is put so far, and the words of what is left, make the whole
abbrev pub invariant-loop-cred : goal.invariant-loop-cred
invariant-loop-cred l = l.out.items ++ text_of (map (earlier_use l.scenario) (drop l.cred-index l.uses)) ≡ l.initial.out.items ++ text_of (map (earlier_use l.scenario) l.uses)
