use Rattle.std.proofs.Common.{◌+◌, ◌∙◌, ap, refl}
use Rattle.tp_wire.specs.Passes.{Opened}
use Rattle.tp_cluster.specs.declared.plan.Plan.{Plan}
use Rattle.tp_cluster.specs.Runs.{actors_of}
use Rattle.tp_cluster.proofs.OpeningLemmas.{callers_dealt, plan_servers, plan_txns, short_servers, short_txns}
use Rattle.tp_cluster.proofs.cluster.Cluster.opened.Goals as goal

pub passes_of-count-requires-clause-servers : goal.passes_of-count-requires-clause-servers
passes_of-count-requires-clause-servers g c = plan_servers c.opening.inside.plan c.opening.invariant.1

pub passes_of-count-requires-clause-txns : goal.passes_of-count-requires-clause-txns
passes_of-count-requires-clause-txns g c = plan_txns c.opening.inside.plan c.opening.invariant.1

pub passes_of-count-requires-clause-callers : goal.passes_of-count-requires-clause-callers
passes_of-count-requires-clause-callers g c = c.opening.invariant.1.few

pub opened-requires-clause-site : goal.opened-requires-clause-site
opened-requires-clause-site g c = ap (λ (o : Opened Plan). o.table) c.opening.view_is ∙ c.requires.site

pub opened-requires-clause-about : goal.opened-requires-clause-about
opened-requires-clause-about g c = c.opening.invariant.0 ∙ (ap (λ (o : Opened Plan). o.about) c.opening.view_is ∙ c.requires.about)

pub opened-requires-clause-passes : goal.opened-requires-clause-passes
opened-requires-clause-passes g c =
    c.passes_of-count.ensures ∙ ap (λ (p : Plan). actors_of p.scenario + p.callers) (ap (λ (o : Opened Plan). o.about) c.opening.view_is ∙ c.requires.about)

pub deal-requires-clause-about : goal.deal-requires-clause-about
deal-requires-clause-about g c = ap (λ (o : Opened Plan). o.about) c.opening.view_is ∙ c.requires.about

pub deal-requires-clause-servers : goal.deal-requires-clause-servers
deal-requires-clause-servers g c = short_servers c.opening.inside.plan c.opening.invariant.1

pub deal-requires-clause-txns : goal.deal-requires-clause-txns
deal-requires-clause-txns g c = short_txns c.opening.inside.plan c.opening.invariant.1

pub deal-requires-clause-passes : goal.deal-requires-clause-passes
deal-requires-clause-passes g c = c.in_ok-wire.ensures

pub invariant_of-cluster : goal.invariant_of-cluster
invariant_of-cluster g c = (ap (λ (o : Opened Plan). o.about) c.opening.view_is ∙ c.requires.about, c.opening.invariant.1)

pub returns : goal.returns
returns g c =
    callers_dealt g.B.Site.table c.in_ok-actors.callers c.opening.inside.plan g.B.Site.about (actors_of c.opening.inside.plan.scenario)
    (ap (λ (o : Opened Plan). o.about) c.opening.view_is ∙ c.requires.about) refl c.in_ok-actors.ensures
