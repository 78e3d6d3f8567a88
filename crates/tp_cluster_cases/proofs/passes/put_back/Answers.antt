use Rattle.tp_cluster_cases.specs.Passes.{IsOfCaller}
use Rattle.tp_cluster_cases.proofs.PassLemmas.{one_more}
use Rattle.tp_cluster_cases.proofs.passes.put_back.Goals as goal

pub returns : goal.returns
returns g c = one_more (IsOfCaller g.B.Site.about.scenario g.B.Site.table) c.push.result _ _ c.args.pass c.requires.others c.requires.last c.push.ensures.ok c.push.ensures.err
