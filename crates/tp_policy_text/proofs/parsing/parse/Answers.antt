use Rattle.std.proofs.Common.{inr, ◌+◌, Err, length, sym, ap, subst, ◌∙◌, arith}
use Rattle.tp_policy_text.specs.Parses.{Answers}
use Rattle.tp_policy_text.proofs.Answering.{answers_read, answers_stop, left_within, not_spent, only_read, only_stop, read_of_grammar}
use Rattle.tp_policy_text.proofs.Few.{read_few}
use Rattle.tp_policy_text.proofs.parsing.parse.Goals as goal

pub overflow_sub-text : goal.overflow_sub-text
overflow_sub-text c =
    let h = rw c.in-Err-Stopped.field-0-is at c.in-Err-Stopped.ensures in
    left_within (length c.args.text.now + 1) 16 c.args.text.now c.policy.new.self.rest.now c.in-Err-Stopped.stop (omega arith) h

pub refused-requires : goal.refused-requires
refused-requires c =
    let h = rw c.in-Err-Stopped.field-0-is at c.in-Err-Stopped.ensures in
    not_spent (length c.args.text.now + 1) 16 c.args.text.now c.policy.new.self.rest.now c.in-Err-Stopped.stop (omega arith) h

pub returns-in-Ok-clause-answer : goal.returns-in-Ok-clause-answer
returns-in-Ok-clause-answer c = inr (answers_read (length c.args.text.now + 1) c.args.text.now c.policy.new.self.rest.now c.in-Ok.policy c.if-text-gt-TEXT_MAX.false c.in-Ok.ensures)

pub returns-in-Ok-clause-only : goal.returns-in-Ok-clause-only
returns-in-Ok-clause-only c a k =
    inr (only_read (length c.args.text.now + 1) c.args.text.now c.policy.new.self.rest.now c.in-Ok.policy c.if-text-gt-TEXT_MAX.false (omega arith) c.in-Ok.ensures a k)

pub returns-in-Err-Stopped-clause-answer : goal.returns-in-Err-Stopped-clause-answer
returns-in-Err-Stopped-clause-answer c =
    let h = rw c.in-Err-Stopped.field-0-is at c.in-Err-Stopped.ensures in
    inr (subst (λ e. Answers c.args.text.now (Err e)) (sym c.refused.ensures)
    (answers_stop (length c.args.text.now + 1) c.args.text.now c.policy.new.self.rest.now c.in-Err-Stopped.stop c.if-text-gt-TEXT_MAX.false (omega arith) h))

pub returns-in-Err-Stopped-clause-only : goal.returns-in-Err-Stopped-clause-only
returns-in-Err-Stopped-clause-only c a k =
    let h = rw c.in-Err-Stopped.field-0-is at c.in-Err-Stopped.ensures in
    inr (ap (λ e. Err e) c.refused.ensures
    ∙ only_stop (length c.args.text.now + 1) c.args.text.now c.policy.new.self.rest.now c.in-Err-Stopped.stop c.if-text-gt-TEXT_MAX.false (omega arith) h a k)

pub returns-in-Ok-clause-of_grammar : goal.returns-in-Ok-clause-of_grammar
returns-in-Ok-clause-of_grammar c = read_of_grammar (length c.args.text.now + 1) 16 c.args.text.now c.policy.new.self.rest.now c.in-Ok.policy c.in-Ok.ensures

pub returns-in-Ok-clause-few : goal.returns-in-Ok-clause-few
returns-in-Ok-clause-few c = read_few (length c.args.text.now + 1) 16 c.args.text.now c.policy.new.self.rest.now c.in-Ok.policy c.in-Ok.ensures
