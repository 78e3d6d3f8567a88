use Rattle.std.proofs.Common.{◌∙◌, ap}
use Rattle.tp_model.specs.Words.{Scenario}
use Rattle.tp_server.specs.Opened as server
use Rattle.tp_cluster.proofs.OpeningLemmas.{server_opens}
use Rattle.tp_cluster.proofs.opening.Dealer.servers.Goals as goal

pub office-requires-clause-number : goal.office-requires-clause-number
office-requires-clause-number g c = c.loop-number.invariant

pub office-requires-clause-opened : goal.office-requires-clause-opened
office-requires-clause-opened g c = λ exists.
    server_opens g.B.Site.about.scenario c.loop-number.number c.in_ok-server.server c.in_ok-state.state exists
    (c.in_ok-server.ensures ∙ ap (λ (s : Scenario). server.opening s (record { 0 = c.loop-number.number })) c.requires.about) c.in_ok-state.ensures
