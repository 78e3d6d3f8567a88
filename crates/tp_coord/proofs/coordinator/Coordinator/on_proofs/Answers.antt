use Rattle.std.proofs.Common.{IfOk, rules, subst, ◌≡◌, Some}
use Rattle.std.proofs.lemmas.Result.{IfOk-weaker}
use Rattle.tp_types.specs.Effect.{Effect, Gives}
use Rattle.tp_coord.specs.Row.{verdicts_at}
use Rattle.tp_coord.specs.State.{Coordinator}
use Rattle.tp_coord.specs.contracts.coordinator.Coordinator.{the_view}
use Rattle.tp_coord.specs.declared.coordinator.Phase.TheVariants as phase
use Rattle.tp_coord.specs.declared.coordinator.Span.TheVariants as span
use Rattle.tp_coord.proofs.Judgements.{shown_there}
use Rattle.tp_coord.proofs.coordinator.Coordinator.on_proofs.Goals as goal

pub returns-in_ok-counts-in-Checking-Validate-default-default : goal.returns-in_ok-counts-in-Checking-Validate-default-default
returns-in_ok-counts-in-Checking-Validate-default-default c =
    let now = the_view c.self.inside in
    let over = c.in-Checking-Validate-default-default.span in
    let round = c.in-Checking-Validate-default-default.round in
    let staple = c.in-Checking-Validate-default-default.staple in
    let checking : now.phase ≡ phase.Checking over round staple = search rules in
    let is_over : over ≡ span.Validate c.in-Checking-Validate-default-default.span-0 = search rules in
    subst (λ (s : Coordinator). IfOk c.counted.result (λ reaction. Gives (verdicts_at c.args.scenario.now s s.phase c.args.server (Some c.args.verdicts.now)) c.counted.new.self reaction)) c.self.view_is
    (IfOk-weaker c.counted.result _ _
    (λ reaction given. subst (λ (effect : Effect Coordinator). Gives effect c.counted.new.self reaction)
    (shown_there c.args.scenario.now now over c.in-Checking-Validate-default-default.span-0 round c.counts.new.round staple c.args.server c.args.verdicts.now checking is_over c.in_ok-counts-in-Checking-Validate-default-default.ensures) given)
    c.counted.ensures)
