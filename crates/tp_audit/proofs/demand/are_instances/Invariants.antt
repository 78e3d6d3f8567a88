use Rattle.std.proofs.Common.{◌≡◌, ◌+◌, drop}
use Rattle.tp_model.specs.Demand.{are_instances}
use Rattle.tp_audit.proofs.demand.are_instances.Given as goal

-- the instances that are left decide
abbrev pub invariant-loop-at : goal.invariant-loop-at
invariant-loop-at l =
    are_instances l.scenario l.facts l.txn (l.at + 1) (drop l.at l.instances) ≡ are_instances l.scenario l.facts l.txn 1 l.instances
