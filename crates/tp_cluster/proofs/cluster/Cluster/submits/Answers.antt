use Rattle.std.proofs.Common.{ap}
use Rattle.tp_cluster.specs.declared.plan.Plan.{Plan}
use Rattle.tp_cluster.proofs.OpeningLemmas.{plan_fits}
use Rattle.tp_cluster.proofs.cluster.Cluster.submits.Goals as goal

pub submit-requires-clause-about : goal.submit-requires-clause-about
submit-requires-clause-about g c = ap (λ (p : Plan). p.scenario) c.self.invariant.0

pub submit-requires-clause-fit : goal.submit-requires-clause-fit
submit-requires-clause-fit g c = plan_fits c.self.inside.plan g.B.Site.about c.self.invariant.0 c.self.invariant.1
