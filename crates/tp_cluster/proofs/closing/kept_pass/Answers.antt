use Rattle.tp_cluster.proofs.HomeLemmas.{passes_home}
use Rattle.tp_cluster.proofs.closing.kept_pass.Goals as goal

pub returns : goal.returns
returns g c =
    passes_home g.B.Site.about.scenario g.B.Site.table c.office.inside.actor (g.S.Officer.held c.office.inside.state) c.args.number c.office.inside.number c.office.inside.pass c.office.invariant.1 c.office.invariant.0 c.if-own-number.false
