use Rattle.std.proofs.Common.{◌∙◌, ap}
use Rattle.tp_machine.specs.WorldView.{WorldView}
use Rattle.tp_wire.specs.Passes.{views_of}
use Rattle.tp_cluster.specs.declared.plan.Plan.{Plan}
use Rattle.tp_cluster.proofs.ClosingLemmas.{all_sites, book_runs, closed_world, of_plan, on_ok_any, own_start}
use Rattle.tp_cluster.specs.Runs.{actors_of}
use Rattle.tp_cluster.proofs.OpeningLemmas.{plan_servers, plan_txns}
use Rattle.tp_cluster.proofs.cluster.Cluster.close.Goals as goal

pub gathered-requires-clause-servers : goal.gathered-requires-clause-servers
gathered-requires-clause-servers g c = plan_servers c.self.inside.plan c.self.invariant.1

pub gathered-requires-clause-txns : goal.gathered-requires-clause-txns
gathered-requires-clause-txns g c = plan_txns c.self.inside.plan c.self.invariant.1

pub close-requires : goal.close-requires
close-requires g c = all_sites g.B.Site.table (actors_of c.self.inside.plan.scenario) c.args.passes c.in_ok-passes.passes c.requires c.in_ok-passes.ensures

pub of-requires-clause-valid : goal.of-requires-clause-valid
of-requires-clause-valid g c = c.self.invariant.1.valid

pub of-requires-clause-fit : goal.of-requires-clause-fit
of-requires-clause-fit g c = c.self.invariant.1.fit

pub replay-requires-clause-start : goal.replay-requires-clause-start
replay-requires-clause-start g c = own_start c.self.inside.plan.scenario c.in_ok-world.world c.in_ok-world.ensures

pub replay-requires-clause-lawful : goal.replay-requires-clause-lawful
replay-requires-clause-lawful g c =
    book_runs g.B.Site.about c.in_ok-world.world.scenario (views_of c.in_ok-passes.passes) c.in_ok-book.book
    (ap (λ (w : WorldView). w.scenario) c.in_ok-world.ensures ∙ ap (λ (p : Plan). p.scenario) c.self.invariant.0) c.in_ok-book.ensures

pub returns-clause-closed : goal.returns-clause-closed
returns-clause-closed g c =
    closed_world g.B.Site.about g.B.Site.table c.args.passes c.in_ok-passes.passes c.in_ok-book.book c.in_ok-world.world.scenario c.replay.result
    (ap (λ (w : WorldView). w.scenario) c.in_ok-world.ensures ∙ ap (λ (p : Plan). p.scenario) c.self.invariant.0)
    (of_plan g.B.Site.table c.self.inside.plan g.B.Site.about c.self.invariant.0 c.args.passes c.in_ok-passes.passes c.in_ok-passes.ensures) c.in_ok-book.ensures
    c.replay.ensures.scenario c.replay.ensures.live c.replay.ensures.machine

pub returns-clause-live : goal.returns-clause-live
returns-clause-live g c = on_ok_any c.replay.result (c.any_given_up.ensures c.if-any_given_up.false)
