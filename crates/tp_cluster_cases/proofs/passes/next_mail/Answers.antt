use Rattle.tp_cluster_cases.proofs.PassLemmas.{after_take}
use Rattle.tp_cluster_cases.proofs.passes.next_mail.Goals as goal

pub take-requires-clause-site : goal.take-requires-clause-site
take-requires-clause-site g c = c.requires.site

pub take-requires-clause-caller : goal.take-requires-clause-caller
take-requires-clause-caller g c = c.requires.caller

pub returns : goal.returns
returns g c = after_take g.B.Site.about.scenario g.B.Site.table c.take.result c.take.new.pass c.take.ensures.site c.take.ensures.caller c.take.ensures.memory
