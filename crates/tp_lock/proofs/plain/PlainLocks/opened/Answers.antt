use Rattle.std.proofs.Common.{◌≡◌, ◌∙◌, [], ap, arith, replicate}
use Rattle.tp_lock.specs.mirrors.Slots.{shown}
use Rattle.tp_lock.proofs.KeptLemmas.{opening_kept}
use Rattle.tp_lock.proofs.ShownLemmas.{shown_opening}
use Rattle.tp_lock.proofs.plain.PlainLocks.opened.Goals as goal

pub invariant_of-result : goal.invariant_of-result
invariant_of-result c =
    let all : c.loop-item._item ≡ c.args.items = omega arith in
    rw (c.loop-item.invariant, all, c.new-2.ensures.items, c.new-3.ensures) (opening_kept c.args.items)

pub returns : goal.returns
returns c =
    let all : c.loop-item._item ≡ c.args.items = omega arith in
    ap shown (c.loop-item.invariant ∙ ap (λ n. replicate n []) all) ∙ shown_opening c.args.items
