use Rattle.std.proofs.Common.{◌≡◌, drop}
use Rattle.tp_model.specs.Causes.{are_met_on}
use Rattle.tp_audit.proofs.newer.are_met_on.Given as goal

-- the rounds that are left decide
abbrev pub invariant-loop-at : goal.invariant-loop-at
invariant-loop-at l =
    are_met_on l.scenario l.facts (drop l.at l.mets) ≡ are_met_on l.scenario l.facts l.mets
