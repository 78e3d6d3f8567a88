use Rattle.std.proofs.Common.{◌≡◌, drop}
use Rattle.std.specs.List.{list_all}
use Rattle.tp_model.specs.Causes.{is_caused, keeps_causes}
use Rattle.tp_audit.proofs.causes.is_caused.Given as goal

-- the facts that are left decide
abbrev pub invariant-loop-fact : goal.invariant-loop-fact
invariant-loop-fact l =
    list_all (keeps_causes l.scenario l.facts) (drop l.fact-index l.facts) ≡ is_caused l.scenario l.facts
