use Rattle.std.proofs.Common.{◌≡◌, drop}
use Rattle.tp_model.specs.Agreement.{agree_from}
use Rattle.tp_audit.proofs.agreement.is_agreed.Given as goal

abbrev pub invariant-loop-number : goal.invariant-loop-number
invariant-loop-number l = agree_from l.scenario l.facts l.number (drop l.number l.facts) ≡ agree_from l.scenario l.facts 0 l.facts
