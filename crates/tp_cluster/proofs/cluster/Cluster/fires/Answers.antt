use Rattle.std.proofs.Common.{ap}
use Rattle.tp_cluster.specs.declared.plan.Plan.{Plan}
use Rattle.tp_cluster.proofs.cluster.Cluster.fires.Goals as goal

pub timer-requires-clause-about : goal.timer-requires-clause-about
timer-requires-clause-about g c = ap (λ (p : Plan). p.scenario) c.self.invariant.0
