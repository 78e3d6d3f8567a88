use Rattle.std.proofs.Common.{IfOk, Some, ap, option_map, rules, subst, ◌∙◌, ◌≡◌}
use Rattle.std.proofs.lemmas.Result.{IfOk-weaker}
use Rattle.std.specs.Option.{option_copied}
use Rattle.tp_types.specs.Effect.{Effect, Gives}
use Rattle.tp_coord.specs.Row.{closes, makes, move_made, place_of, point_of}
use Rattle.tp_coord.specs.State.{Coordinator}
use Rattle.tp_coord.specs.mirrors.InPlace.{agrees_in, proofs_at, span_in}
use Rattle.tp_scheme.specs.declared.moves.Point.{Point}
use Rattle.tp_coord.proofs.Judgements.{agreed_there}
use Rattle.tp_coord.proofs.coordinator.Coordinator.agrees.Goals as goal

pub returns : goal.returns
returns c =
    let sc = c.args.scenario.now in
    let now = c.args.self.now in
    let reading = option_copied c.args.reading in
    let closed = closes now (option_map place_of reading) (proofs_at now.phase) in
    let is_over : span_in now.phase ≡ Some (c.in-Some.span, c.in-Some.rounds) = search rules in
    let next_is : move_made sc now (point_of c.in-Some.span) ≡ Some c.in-Some-move_made.next = search rules in
    let at_is : c.point_of-at.result ≡ point_of c.in-Some.span = search rules in
    IfOk-weaker c.makes.result _ _
    (λ reaction given. subst (λ (effect : Effect Coordinator). Gives effect c.makes.new.self reaction)
    (ap (λ (s : Coordinator). makes sc s c.point_of-at.result c.in-Some.rounds c.in-Some-move_made.next) c.in_ok-closes_round.ensures
    ∙ ap (λ (at : Point). makes sc (record closed { phase = c.closes_round.new.self.phase }) at c.in-Some.rounds c.in-Some-move_made.next) at_is
    ∙ agreed_there sc now reading c.in-Some.span c.in-Some.rounds c.in-Some-move_made.next c.closes_round.new.self.phase is_over next_is) given)
    c.makes.ensures
