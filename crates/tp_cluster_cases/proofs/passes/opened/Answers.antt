use Rattle.tp_cluster_cases.proofs.PassLemmas.{fresh_are_callers}
use Rattle.tp_cluster_cases.proofs.passes.opened.Goals as goal

pub returns : goal.returns
returns g c = fresh_are_callers g.B.Site.about.scenario g.B.Site.table g.B.Site.about.callers _ c.in_ok-cluster.ensures
