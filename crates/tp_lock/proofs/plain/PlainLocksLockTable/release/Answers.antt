use Rattle.std.proofs.Common.{◌≡◌, ◌∙◌, ap, drop}
use Rattle.tp_lock.specs.Rule.{after_release}
use Rattle.tp_lock.specs.mirrors.Kept.{at_each}
use Rattle.tp_lock.specs.mirrors.Owned.{items_of}
use Rattle.tp_lock.specs.mirrors.Slots.{all_told, left_by, shown}
use Rattle.tp_lock.proofs.KeptLemmas.{after, release_kept, shown_after}
use Rattle.tp_lock.proofs.plain.PlainLocksLockTable.release.Goals as goal

-- the lists after it, by what each call does
lists_after : (c : goal.After-self-1)
    → c.leave_each.new.lists.items ≡ after c.args.owner c.self.inside.lists.items c.self.inside.owned.items c.self.inside.touched c.self.inside.next
lists_after c =
    let owner = c.args.owner in
    let lists = c.self.inside.lists.items in
    c.leave_each.ensures
    ∙ ap (λ items. at_each (left_by owner) items c.forget_each.new.lists.items) (c.as_slice-2.ensures ∙ c.take_items-items.ensures.items)
    ∙ ap (at_each (left_by owner) (items_of owner.0 c.self.inside.owned.items)) (c.forget_each.ensures ∙ ap (λ items. at_each all_told (drop c.self.inside.next items) lists) c.as_slice.ensures)

pub invariant_of-self : goal.invariant_of-self
invariant_of-self c =
    rw (lists_after c, c.take_items-items.ensures.left, c.take_items-items.ensures.items)
    (release_kept c.args.owner c.self.inside.lists.items c.self.inside.owned.items c.self.inside.touched c.self.inside.next c.self.invariant)

pub returns : goal.returns
returns c =
    ap shown (lists_after c) ∙ shown_after c.args.owner c.self.inside.lists.items c.self.inside.owned.items c.self.inside.touched c.self.inside.next c.self.invariant
    ∙ ap (after_release c.args.owner) c.self.view_is
