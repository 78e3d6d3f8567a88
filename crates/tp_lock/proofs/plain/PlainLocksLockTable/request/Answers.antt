use Rattle.std.proofs.Common.{◌≡◌, ◌<◌, ◌∙◌, ap, arith, get_or, length, set, [], List}
use Rattle.std.proofs.lemmas.List.{get_or_default}
use Rattle.std.proofs.lemmas.Result.{IfOk-weaker}
use Rattle.tp_lock.specs.declared.slots.Slot.{Slot}
use Rattle.tp_lock.specs.Rule.{after_request, answer_at}
use Rattle.tp_lock.specs.mirrors.Slots.{shown}
use Rattle.tp_lock.proofs.KeptLemmas.{request_kept}
use Rattle.tp_lock.proofs.ShownLemmas.{slots_there}
use Rattle.tp_lock.proofs.plain.PlainLocksLockTable.request.Goals as goal

pub invariant_of-self-2 : goal.invariant_of-self-2
invariant_of-self-2 c =
    let lists = c.self.inside.lists.items in
    let lt : c.args.item.0 < length lists = omega arith in
    let here : c.index_mut.result.now ≡ get_or lists c.args.item.0 [] = c.index_mut.ensures.value ∙ get_or_default lists c.args.item.0 c.index_mut.result.now [] lt in
    request_kept c.args.owner c.args.age c.args.item c.args.mode lists c.self.inside.owned.items c.note.new.owned.items c.self.inside.touched c.self.inside.next
    c.index_mut.result.now c.ask.new.slots c.ask.result c.self.invariant c.in_ok-note.ensures.ok here c.ask.ensures.ok c.ask.ensures.err

pub returns-clause-answer : goal.returns-clause-answer
returns-clause-answer c =
    let lists = c.self.inside.lists.items in
    let lt : c.args.item.0 < length lists = omega arith in
    let here : c.index_mut.result.now ≡ get_or lists c.args.item.0 [] = c.index_mut.ensures.value ∙ get_or_default lists c.args.item.0 c.index_mut.result.now [] lt in
    let there = slots_there c.args.owner c.args.age c.args.item c.args.mode lists c.index_mut.result.now here in
    IfOk-weaker c.ask.result _ _ (λ asked is. is ∙ there.0 ∙ ap (answer_at c.args.owner c.args.age c.args.item c.args.mode) c.self.view_is) c.ask.ensures.answer

pub returns-clause-ok : goal.returns-clause-ok
returns-clause-ok c =
    let lists = c.self.inside.lists.items in
    let lt : c.args.item.0 < length lists = omega arith in
    let here : c.index_mut.result.now ≡ get_or lists c.args.item.0 [] = c.index_mut.ensures.value ∙ get_or_default lists c.args.item.0 c.index_mut.result.now [] lt in
    let there = slots_there c.args.owner c.args.age c.args.item c.args.mode lists c.index_mut.result.now here in
    IfOk-weaker c.ask.result _ _
    (λ asked is. ap (λ (slots : List Slot). shown (set lists c.args.item.0 slots)) is ∙ there.1 ∙ ap (after_request c.args.owner c.args.age c.args.item c.args.mode) c.self.view_is)
    c.ask.ensures.ok
