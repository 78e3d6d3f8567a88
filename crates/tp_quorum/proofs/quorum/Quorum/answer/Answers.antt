use Rattle.std.proofs.Common.{◌<◌, ◌∙◌, ap, length, subst, sym}
use Rattle.tp_quorum.proofs.QuorumLemmas.{answer_ended}
use Rattle.tp_quorum.specs.QuorumView.{QuorumView, answer_by, end_of}
use Rattle.tp_quorum.proofs.quorum.Quorum.answer.Goals as goal

pub returns-clause-ended : goal.returns-clause-ended
returns-clause-ended c =
    c.answer_at.ensures
    ∙ answer_ended c.self.inside.sizes c.self.inside.members c.self.inside.ledger c.args.op (c.self.invariant (ap (λ (q : QuorumView). q.given_up) c.self.view_is ∙ c.requires.up))
    (subst (λ (q : QuorumView). c.args.op < length q.machine.state.ops) (sym c.self.view_is) c.requires.begun)
    ∙ ap (λ (q : QuorumView). answer_by (end_of c.args.op q.machine.state.facts)) c.self.view_is
