use Rattle.std.proofs.Common.{ap}
use Rattle.tp_cluster.specs.declared.plan.Plan.{Plan}
use Rattle.tp_cluster.proofs.OpeningLemmas.{plan_fits}
use Rattle.tp_cluster.proofs.cluster.Cluster.to_coordinator.Goals as goal

pub deliver-requires-clause-about : goal.deliver-requires-clause-about
deliver-requires-clause-about g c = ap (λ (p : Plan). p.scenario) c.self.invariant.0

pub deliver-requires-clause-fit : goal.deliver-requires-clause-fit
deliver-requires-clause-fit g c = plan_fits c.self.inside.plan g.B.Site.about c.self.invariant.0 c.self.invariant.1
