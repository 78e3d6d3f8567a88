use Rattle.std.proofs.Common.{◌≡◌, ◌<◌, ◌∙◌, None, arith, ap, sym, length, find, option_map, slice_get}
use Rattle.std.specs.Option.{option_and_then}
use Rattle.tp_lock.specs.mirrors.Slots.{is_untold, owner_of, told_first, untold_of}
use Rattle.tp_lock.proofs.SlotLemmas.{first_found, told_next}
use Rattle.tp_lock.proofs.lists.tell.Goals as goal

pub returns-in-Some-clause-owner : goal.returns-in-Some-clause-owner
returns-in-Some-clause-owner c =
    let met = first_found c.loop-at.slots c.loop-at.at c.in-Some.slot (sym c.in-Some.ensures) c.loop-at.invariant.1 in
    sym (ap (option_map owner_of) (ap (find is_untold) (sym c.loop-at.invariant.0) ∙ met.0))

pub returns-in-Some-clause-told : goal.returns-in-Some-clause-told
returns-in-Some-clause-told c =
    let met = first_found c.loop-at.slots c.loop-at.at c.in-Some.slot (sym c.in-Some.ensures) c.loop-at.invariant.1 in
    c.put.ensures ∙ met.1 ∙ ap told_first c.loop-at.invariant.0

pub loop-at-preserved : goal.loop-at-preserved
loop-at-preserved c =
    let none : option_and_then untold_of (slice_get c.loop-at.slots c.loop-at.at) ≡ None = sym c.in_default.ensures in
    let lt : c.loop-at.at < length c.loop-at.slots = omega (arith, ap length c.loop-at.invariant.0) in
    (c.loop-at.invariant.0, told_next c.loop-at.slots c.loop-at.at lt none c.loop-at.invariant.1)
