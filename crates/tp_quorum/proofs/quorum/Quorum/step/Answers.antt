use Rattle.std.proofs.Common.{◌∙◌, subst, sym}
use Rattle.tp_quorum.proofs.QuorumLemmas.{does_step, run_or_given_up}
use Rattle.tp_quorum.specs.Machine.{IsStepOf}
use Rattle.tp_quorum.specs.QuorumView.{CanBegin, QuorumView}
use Rattle.tp_quorum.proofs.quorum.Quorum.step.Goals as goal

pub invariant_of-self : goal.invariant_of-self
invariant_of-self c =
    run_or_given_up c.self.inside.sizes c.self.inside.members c.advance_or_give_up.new.members c.self.inside.ledger c.advance_or_give_up.new.ledger c.advance_or_give_up.new.given_up c.args.taken.now c.advance_or_give_up.result
    (c.self.invariant c.if-self.false) (subst (λ (q : QuorumView). IsStepOf q.sizes c.args.taken.now) (sym c.self.view_is) c.requires.named) (subst (λ (q : QuorumView). CanBegin q.machine c.args.taken.now) (sym c.self.view_is) c.requires.begins)
    (sym c.refusal.ensures ∙ c.in_default.is) c.advance_or_give_up.ensures.ok c.advance_or_give_up.ensures.err

pub returns-clause-ok : goal.returns-clause-ok
returns-clause-ok c =
    does_step c.args.self.now c.self.inside.sizes c.self.inside.members c.advance_or_give_up.new.members c.self.inside.ledger c.advance_or_give_up.new.ledger c.self.inside.given_up c.advance_or_give_up.new.given_up c.args.taken.now c.advance_or_give_up.result
    (sym c.self.view_is) c.if-self.false (c.self.invariant c.if-self.false) (sym c.refusal.ensures ∙ c.in_default.is) c.advance_or_give_up.ensures.ok c.advance_or_give_up.ensures.same
