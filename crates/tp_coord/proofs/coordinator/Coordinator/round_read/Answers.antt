use Rattle.std.proofs.Common.{IfOk, rules, subst, ◌≡◌}
use Rattle.std.proofs.lemmas.Result.{IfOk-weaker}
use Rattle.tp_types.specs.Effect.{Effect, Gives}
use Rattle.tp_coord.specs.Row.{on_round_read}
use Rattle.tp_coord.specs.State.{Coordinator}
use Rattle.tp_coord.specs.contracts.coordinator.Coordinator.{the_view}
use Rattle.tp_coord.specs.declared.coordinator.Phase.TheVariants as phase
use Rattle.tp_coord.proofs.Judgements.{read_there}
use Rattle.tp_coord.proofs.coordinator.Coordinator.round_read.Goals as goal

pub returns-in_ok-answer-in-Reading : goal.returns-in_ok-answer-in-Reading
returns-in_ok-answer-in-Reading c =
    let now = the_view c.self.inside in
    let over = c.in-Reading.span in
    let round = c.in-Reading.round in
    let reading : now.phase ≡ phase.Reading over round = search rules in
    subst (λ (s : Coordinator). IfOk c.follows.result (λ reaction. Gives (on_round_read c.args.scenario.now s s.phase c.args.reading.now) c.follows.new.self reaction)) c.self.view_is
    (IfOk-weaker c.follows.result _ _
    (λ reaction given. subst (λ (effect : Effect Coordinator). Gives effect c.follows.new.self reaction)
    (read_there c.args.scenario.now now over round c.judge.new.self c.args.reading.now c.in_ok-answer-in-Reading.answer reading c.in_ok-answer-in-Reading.ensures.next c.in_ok-answer-in-Reading.ensures.answer) given)
    c.follows.ensures)
