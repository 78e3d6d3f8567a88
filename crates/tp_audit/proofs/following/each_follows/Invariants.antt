use Rattle.std.proofs.Common.{◌≡◌, drop}
use Rattle.tp_model.specs.Demand.{each_follows}
use Rattle.tp_audit.proofs.following.each_follows.Given as goal

-- the instances that are left decide
abbrev pub invariant-loop-at : goal.invariant-loop-at
invariant-loop-at l =
    each_follows l.scheme (drop l.at l.instances) ≡ each_follows l.scheme l.instances
