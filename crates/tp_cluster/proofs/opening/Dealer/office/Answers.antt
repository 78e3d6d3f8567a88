use Rattle.std.proofs.Common.{◌∙◌}
use Rattle.tp_cluster.proofs.OpeningLemmas.{opened_office}
use Rattle.tp_cluster.proofs.opening.Dealer.office.Goals as goal

pub invariant_of-new : goal.invariant_of-new
invariant_of-new g c =
    let e = c.in-Ok.ensures in
    let opens = c.requires.opened c.requires.exists in
    (e.0 ∙ c.requires.number, opened_office g.B.Site.about.scenario g.B.Site.table c.args.actor (g.S.Officer.held c.args.state) c.args.self.now c.in-Ok.pass e.1 c.requires.number c.requires.exists opens)
