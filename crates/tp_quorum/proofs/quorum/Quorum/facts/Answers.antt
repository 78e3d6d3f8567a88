use Rattle.std.proofs.Common.{ap, ◌∙◌, subst}
use Rattle.tp_quorum.specs.QuorumView.{IsReached, QuorumView}
use Rattle.tp_quorum.proofs.quorum.Quorum.facts.Goals as goal

pub returns-clause-reached : goal.returns-clause-reached
returns-clause-reached c =
    subst (λ (q : QuorumView). IsReached q.sizes q.machine) c.self.view_is (c.self.invariant (ap (λ (q : QuorumView). q.given_up) c.self.view_is ∙ c.requires)).reached
