use Rattle.tp_cluster_cases.proofs.PassLemmas.{after_look}
use Rattle.tp_cluster_cases.proofs.passes.length_seen.Goals as goal

pub seen-requires : goal.seen-requires
seen-requires g c = c.requires.site

pub returns : goal.returns
returns g c = after_look g.B.Site.about.scenario g.B.Site.table c.seen.result c.args.pass.now c.seen.new.pass c.requires c.seen.ensures.same c.seen.ensures.look
