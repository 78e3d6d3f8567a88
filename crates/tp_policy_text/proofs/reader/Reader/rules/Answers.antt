use Rattle.std.proofs.Common.{◌-◌, ◌+◌, List, Err, sym, ap, subst, ◌∙◌, rules}
use Rattle.tp_types.specs.declared.policy.Rule.{Rule}
use Rattle.tp_policy_text.specs.mirrors.Gives.{Gives}
use Rattle.tp_policy_text.specs.mirrors.Readers.{rules_at}
use Rattle.tp_policy_text.specs.mirrors.Readings.{read}
use Rattle.tp_policy_text.proofs.Productions.{Ruled, rule_ends, rule_goes, rule_stops}
use Rattle.tp_policy_text.proofs.reader.Reader.rules.Goals as goal

pub returns-in_err-rule : goal.returns-in_err-rule
returns-in_err-rule c =
    let h : Gives {A = List Rule} (Err c.in_err-rule.field-0.0) c.rule.new.self.rest.now (rules_at c.args.fuel c.args.fuel c.args.depth c.args.self.now.rest.now) =
    rule_stops c.args.fuel c.args.depth c.loop-turn._turn c.loop-turn.rules c.loop-turn.self.rest.now c.rule.new.self.rest.now
    (rules_at c.args.fuel c.args.fuel c.args.depth c.args.self.now.rest.now) c.in_err-rule.field-0.0 c.loop-turn-test.true c.loop-turn.invariant c.in_err-rule.ensures in
    search (rules, h)

pub returns-then-not-comes : goal.returns-then-not-comes
returns-then-not-comes c =
    rule_ends c.args.fuel c.args.depth c.loop-turn._turn c.loop-turn.rules c.loop-turn.self.rest.now c.rule.new.self.rest.now
    (rules_at c.args.fuel c.args.fuel c.args.depth c.args.self.now.rest.now) c.in_ok-rule.field-0 c.loop-turn-test.true c.loop-turn.invariant c.in_ok-rule.ensures
    (sym c.comes.ensures ∙ c.if-not-comes.true)
    ∙ ap (λ l. read l c.rule.new.self.rest.now) (sym c.in_ok-push.ensures.ok)

pub loop-turn-preserved : goal.loop-turn-preserved
loop-turn-preserved c =
    subst (λ l. Ruled c.args.fuel c.args.depth (c.args.fuel - (c.loop-turn._turn + 1)) l c.rule.new.self.rest.now (rules_at c.args.fuel c.args.fuel c.args.depth c.args.self.now.rest.now))
    (sym c.in_ok-push.ensures.ok)
    (rule_goes c.args.fuel c.args.depth c.loop-turn._turn c.loop-turn.rules c.loop-turn.self.rest.now c.rule.new.self.rest.now
    (rules_at c.args.fuel c.args.fuel c.args.depth c.args.self.now.rest.now) c.in_ok-rule.field-0 c.loop-turn-test.true c.loop-turn.invariant c.in_ok-rule.ensures
    (sym c.comes.ensures ∙ c.if-not-comes.false))
