use Rattle.std.proofs.Common.{◌-◌, ◌+◌, List, Err, codes, sym, ap, subst, ◌∙◌, rules}
use Rattle.tp_types.specs.declared.policy.Cond.{Cond}
use Rattle.tp_policy_text.specs.mirrors.Gives.{Gives}
use Rattle.tp_policy_text.specs.mirrors.Readers.{conj_at, inner_at, joined_at, part_at}
use Rattle.tp_policy_text.specs.mirrors.Readings.{read}
use Rattle.tp_policy_text.proofs.Productions.{Turned, turn_ends, turn_goes, turn_stops, word_stops}
use Rattle.tp_policy_text.proofs.reader.Reader.+reading.Goals as goal

pub conjs-returns-in_err-conj : goal.conjs-returns-in_err-conj
conjs-returns-in_err-conj t c =
    let h : Gives {A = List Cond} (Err c.in_err-conj.field-0.0) c.conj.new.self.rest.now (joined_at c.args.fuel 111 (codes "or") (conj_at c.args.fuel c.args.depth (inner_at c.args.fuel c.args.depth)) c.args.self.now.rest.now) =
    turn_stops 111 (codes "or") (conj_at c.args.fuel c.args.depth (inner_at c.args.fuel c.args.depth)) c.args.fuel c.loop-turn._turn c.loop-turn.members c.loop-turn.self.rest.now c.conj.new.self.rest.now
    (joined_at c.args.fuel 111 (codes "or") (conj_at c.args.fuel c.args.depth (inner_at c.args.fuel c.args.depth)) c.args.self.now.rest.now) c.in_err-conj.field-0.0 c.loop-turn-test.true c.loop-turn.invariant c.in_err-conj.ensures in
    search (rules, h)

pub conjs-returns-then-not-comes : goal.conjs-returns-then-not-comes
conjs-returns-then-not-comes t c =
    turn_ends 111 (codes "or") (conj_at c.args.fuel c.args.depth (inner_at c.args.fuel c.args.depth)) c.args.fuel c.loop-turn._turn c.loop-turn.members c.loop-turn.self.rest.now c.conj.new.self.rest.now
    (joined_at c.args.fuel 111 (codes "or") (conj_at c.args.fuel c.args.depth (inner_at c.args.fuel c.args.depth)) c.args.self.now.rest.now) c.in_ok-conj.field-0 c.loop-turn-test.true c.loop-turn.invariant c.in_ok-conj.ensures
    (sym c.comes.ensures ∙ c.if-not-comes.true)
    ∙ ap (λ l. read l c.conj.new.self.rest.now) (sym c.in_ok-push.ensures.ok)

pub conjs-returns-in_err-token : goal.conjs-returns-in_err-token
conjs-returns-in_err-token t c =
    let h : Gives {A = List Cond} (Err c.in_err-token.field-0.0) c.token.new.self.rest.now (joined_at c.args.fuel 111 (codes "or") (conj_at c.args.fuel c.args.depth (inner_at c.args.fuel c.args.depth)) c.args.self.now.rest.now) =
    word_stops 111 (codes "or") (conj_at c.args.fuel c.args.depth (inner_at c.args.fuel c.args.depth)) c.args.fuel c.loop-turn._turn c.loop-turn.members c.loop-turn.self.rest.now c.conj.new.self.rest.now c.token.new.self.rest.now
    (joined_at c.args.fuel 111 (codes "or") (conj_at c.args.fuel c.args.depth (inner_at c.args.fuel c.args.depth)) c.args.self.now.rest.now) c.in_ok-conj.field-0 c.in_err-token.field-0.0 c.loop-turn-test.true c.loop-turn.invariant c.in_ok-conj.ensures
    (sym c.comes.ensures ∙ c.if-not-comes.false) c.in_err-token.ensures in
    search (rules, h)

pub conjs-loop-turn-preserved : goal.conjs-loop-turn-preserved
conjs-loop-turn-preserved t c =
    subst (λ l. Turned 111 (codes "or") (conj_at c.args.fuel c.args.depth (inner_at c.args.fuel c.args.depth)) (c.args.fuel - (c.loop-turn._turn + 1)) l c.token.new.self.rest.now (joined_at c.args.fuel 111 (codes "or") (conj_at c.args.fuel c.args.depth (inner_at c.args.fuel c.args.depth)) c.args.self.now.rest.now)) (sym c.in_ok-push.ensures.ok)
    (turn_goes 111 (codes "or") (conj_at c.args.fuel c.args.depth (inner_at c.args.fuel c.args.depth)) c.args.fuel c.loop-turn._turn c.loop-turn.members c.loop-turn.self.rest.now c.conj.new.self.rest.now c.token.new.self.rest.now
    (joined_at c.args.fuel 111 (codes "or") (conj_at c.args.fuel c.args.depth (inner_at c.args.fuel c.args.depth)) c.args.self.now.rest.now) c.in_ok-conj.field-0 c.loop-turn-test.true c.loop-turn.invariant c.in_ok-conj.ensures
    (sym c.comes.ensures ∙ c.if-not-comes.false) c.in_ok-token.ensures)

pub parts-returns-in_err-part : goal.parts-returns-in_err-part
parts-returns-in_err-part t c =
    let h : Gives {A = List Cond} (Err c.in_err-part.field-0.0) c.part.new.self.rest.now (joined_at c.args.fuel 97 (codes "and") (part_at c.args.depth (inner_at c.args.fuel c.args.depth)) c.args.self.now.rest.now) =
    turn_stops 97 (codes "and") (part_at c.args.depth (inner_at c.args.fuel c.args.depth)) c.args.fuel c.loop-turn._turn c.loop-turn.members c.loop-turn.self.rest.now c.part.new.self.rest.now
    (joined_at c.args.fuel 97 (codes "and") (part_at c.args.depth (inner_at c.args.fuel c.args.depth)) c.args.self.now.rest.now) c.in_err-part.field-0.0 c.loop-turn-test.true c.loop-turn.invariant c.in_err-part.ensures in
    search (rules, h)

pub parts-returns-then-not-comes : goal.parts-returns-then-not-comes
parts-returns-then-not-comes t c =
    turn_ends 97 (codes "and") (part_at c.args.depth (inner_at c.args.fuel c.args.depth)) c.args.fuel c.loop-turn._turn c.loop-turn.members c.loop-turn.self.rest.now c.part.new.self.rest.now
    (joined_at c.args.fuel 97 (codes "and") (part_at c.args.depth (inner_at c.args.fuel c.args.depth)) c.args.self.now.rest.now) c.in_ok-part.field-0 c.loop-turn-test.true c.loop-turn.invariant c.in_ok-part.ensures
    (sym c.comes.ensures ∙ c.if-not-comes.true)
    ∙ ap (λ l. read l c.part.new.self.rest.now) (sym c.in_ok-push.ensures.ok)

pub parts-returns-in_err-token : goal.parts-returns-in_err-token
parts-returns-in_err-token t c =
    let h : Gives {A = List Cond} (Err c.in_err-token.field-0.0) c.token.new.self.rest.now (joined_at c.args.fuel 97 (codes "and") (part_at c.args.depth (inner_at c.args.fuel c.args.depth)) c.args.self.now.rest.now) =
    word_stops 97 (codes "and") (part_at c.args.depth (inner_at c.args.fuel c.args.depth)) c.args.fuel c.loop-turn._turn c.loop-turn.members c.loop-turn.self.rest.now c.part.new.self.rest.now c.token.new.self.rest.now
    (joined_at c.args.fuel 97 (codes "and") (part_at c.args.depth (inner_at c.args.fuel c.args.depth)) c.args.self.now.rest.now) c.in_ok-part.field-0 c.in_err-token.field-0.0 c.loop-turn-test.true c.loop-turn.invariant c.in_ok-part.ensures
    (sym c.comes.ensures ∙ c.if-not-comes.false) c.in_err-token.ensures in
    search (rules, h)

pub parts-loop-turn-preserved : goal.parts-loop-turn-preserved
parts-loop-turn-preserved t c =
    subst (λ l. Turned 97 (codes "and") (part_at c.args.depth (inner_at c.args.fuel c.args.depth)) (c.args.fuel - (c.loop-turn._turn + 1)) l c.token.new.self.rest.now (joined_at c.args.fuel 97 (codes "and") (part_at c.args.depth (inner_at c.args.fuel c.args.depth)) c.args.self.now.rest.now)) (sym c.in_ok-push.ensures.ok)
    (turn_goes 97 (codes "and") (part_at c.args.depth (inner_at c.args.fuel c.args.depth)) c.args.fuel c.loop-turn._turn c.loop-turn.members c.loop-turn.self.rest.now c.part.new.self.rest.now c.token.new.self.rest.now
    (joined_at c.args.fuel 97 (codes "and") (part_at c.args.depth (inner_at c.args.fuel c.args.depth)) c.args.self.now.rest.now) c.in_ok-part.field-0 c.loop-turn-test.true c.loop-turn.invariant c.in_ok-part.ensures
    (sym c.comes.ensures ∙ c.if-not-comes.false) c.in_ok-token.ensures)
