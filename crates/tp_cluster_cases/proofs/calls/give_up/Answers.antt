use Rattle.tp_cluster_cases.proofs.PassLemmas.{after_giving}
use Rattle.tp_cluster_cases.proofs.calls.give_up.Goals as goal

pub returns : goal.returns
returns g c = after_giving g.B.Site.about.scenario g.B.Site.table c.args.pass.now c.give_up.new.self c.requires c.give_up.ensures
