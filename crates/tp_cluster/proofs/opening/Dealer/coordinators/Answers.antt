use Rattle.std.proofs.Common.{◌≡◌, ◌+◌, ◌∙◌, ap, length, subst}
use Rattle.tp_coord.specs.Opened as coord
use Rattle.tp_model.specs.Words.{Scenario}
use Rattle.tp_cluster.proofs.OpeningLemmas.{coordinator_opens}
use Rattle.tp_cluster.proofs.opening.Dealer.coordinators.Goals as goal

pub office-requires-clause-number : goal.office-requires-clause-number
office-requires-clause-number g c =
    c.loop-number.invariant ∙ ap (λ (s : Scenario). length s.servers + c.loop-number.number) c.requires.about

pub office-requires-clause-opened : goal.office-requires-clause-opened
office-requires-clause-opened g c = λ exists.
    coordinator_opens g.B.Site.about.scenario c.loop-number.number c.in_ok-coordinator.coordinator c.in_ok-state.state exists
    (c.in_ok-coordinator.ensures ∙ ap (λ (s : Scenario). coord.idle s (record { 0 = c.loop-number.number })) c.requires.about) c.in_ok-state.ensures
