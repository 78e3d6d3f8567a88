use Rattle.std.proofs.Common.{IfSome, ap, ◌∙◌, subst}
use Rattle.tp_quorum.proofs.DrainLemmas.{next_allowed}
use Rattle.tp_quorum.specs.Acts.{machine_of}
use Rattle.tp_quorum.specs.QuorumView.{IsNext, QuorumView}
use Rattle.tp_quorum.proofs.quorum.Quorum.next.Goals as goal

pub returns-clause-allowed : goal.returns-clause-allowed
returns-clause-allowed c =
    subst (λ (q : QuorumView). IfSome c.next.result (IsNext q.sizes q.machine)) c.self.view_is
    (next_allowed c.self.inside.sizes (machine_of c.self.inside.members c.self.inside.ledger) (c.self.invariant (ap (λ (q : QuorumView). q.given_up) c.self.view_is ∙ c.requires)).reached c.next.result c.next.ensures)
