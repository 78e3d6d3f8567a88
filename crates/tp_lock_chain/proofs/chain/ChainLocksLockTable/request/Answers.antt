use Rattle.std.proofs.Common.{◌≡◌, ◌∙◌, Some, None, ap, sym}
use Rattle.tp_lock.specs.Rule.{after_request, answer_at}
use Rattle.tp_lock_chain.specs.declared.ask.Ask.{Ask}
use Rattle.tp_lock_chain.specs.mirrors.Ask as mirror
use Rattle.tp_lock_chain.proofs.AskLemmas.{request_answer, request_kept, request_none, request_past, request_some}
use Rattle.tp_lock_chain.proofs.chain.ChainLocksLockTable.request.Goals as goal

pub returns-then-item-self-clause-answer : goal.returns-then-item-self-clause-answer
returns-then-item-self-clause-answer c =
    (request_past c.self.inside.pool c.args.owner c.args.age c.args.item c.args.mode c.if-item-self.true).0
    ∙ ap (answer_at c.args.owner c.args.age c.args.item c.args.mode) c.self.view_is

pub returns-then-item-self-clause-ok : goal.returns-then-item-self-clause-ok
returns-then-item-self-clause-ok c =
    sym c.self.view_is ∙ (request_past c.self.inside.pool c.args.owner c.args.age c.args.item c.args.mode c.if-item-self.true).1
    ∙ ap (after_request c.args.owner c.args.age c.args.item c.args.mode) c.self.view_is

pub invariant_of-self-in-Some : goal.invariant_of-self-in-Some
invariant_of-self-in-Some c =
    let ask : Ask = record { owner = c.args.owner; age = c.args.age; mode = c.args.mode } in
    let some : mirror.adds (mirror.look ask c.args.item.0 c.self.inside.pool) ≡ Some c.in-Some.held = ap mirror.adds (sym c.look-found.ensures) ∙ sym c.in-Some.ensures in
    request_kept c.self.inside.pool c.add.new.pool ask c.args.item c.in-Some.held c.self.invariant c.if-item-self.false some c.in_ok-add-in-Some.ensures.ok

pub returns-in-None-clause-answer : goal.returns-in-None-clause-answer
returns-in-None-clause-answer c =
    let ask : Ask = record { owner = c.args.owner; age = c.args.age; mode = c.args.mode } in
    c.answer.ensures ∙ ap mirror.answer c.look-found.ensures ∙ request_answer c.self.inside.pool ask c.args.item c.if-item-self.false
    ∙ ap (answer_at c.args.owner c.args.age c.args.item c.args.mode) c.self.view_is

pub returns-in-None-clause-ok : goal.returns-in-None-clause-ok
returns-in-None-clause-ok c =
    let ask : Ask = record { owner = c.args.owner; age = c.args.age; mode = c.args.mode } in
    let none : mirror.adds (mirror.look ask c.args.item.0 c.self.inside.pool) ≡ None = ap mirror.adds (sym c.look-found.ensures) ∙ sym c.in-None.ensures in
    sym c.self.view_is ∙ request_none c.self.inside.pool ask c.args.item c.if-item-self.false none
    ∙ ap (after_request c.args.owner c.args.age c.args.item c.args.mode) c.self.view_is

pub returns-in_ok-add-in-Some-clause-answer : goal.returns-in_ok-add-in-Some-clause-answer
returns-in_ok-add-in-Some-clause-answer c =
    let ask : Ask = record { owner = c.args.owner; age = c.args.age; mode = c.args.mode } in
    c.answer-in-Some.ensures ∙ ap mirror.answer c.look-found.ensures ∙ request_answer c.self.inside.pool ask c.args.item c.if-item-self.false
    ∙ ap (answer_at c.args.owner c.args.age c.args.item c.args.mode) c.self.view_is

pub returns-in_ok-add-in-Some-clause-ok : goal.returns-in_ok-add-in-Some-clause-ok
returns-in_ok-add-in-Some-clause-ok c =
    let ask : Ask = record { owner = c.args.owner; age = c.args.age; mode = c.args.mode } in
    let some : mirror.adds (mirror.look ask c.args.item.0 c.self.inside.pool) ≡ Some c.in-Some.held = ap mirror.adds (sym c.look-found.ensures) ∙ sym c.in-Some.ensures in
    request_some c.self.inside.pool c.add.new.pool ask c.args.item c.in-Some.held c.self.invariant c.if-item-self.false some c.in_ok-add-in-Some.ensures.ok
    ∙ ap (after_request c.args.owner c.args.age c.args.item c.args.mode) c.self.view_is
