use Rattle.tp_cluster_cases.specs.Passes.{IsOfCaller}
use Rattle.tp_cluster_cases.proofs.PassLemmas.{last_found, others_left}
use Rattle.tp_cluster_cases.proofs.passes.taken_out.Goals as goal

pub returns-clause-others : goal.returns-clause-others
returns-clause-others g c = others_left (IsOfCaller g.B.Site.about.scenario g.B.Site.table) c.pop.result _ _ c.requires c.pop.ensures.some c.pop.ensures.none

pub returns-clause-last : goal.returns-clause-last
returns-clause-last g c = last_found (IsOfCaller g.B.Site.about.scenario g.B.Site.table) c.pop.result _ _ c.requires c.pop.ensures.some
