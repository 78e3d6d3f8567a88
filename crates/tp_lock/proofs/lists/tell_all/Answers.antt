use Rattle.std.proofs.Common.{◌<◌, arith, length, get_or, false}
use Rattle.std.proofs.lemmas.List.Edits.{map_over_more}
use Rattle.std.proofs.lemmas.List.{get_or_default}
use Rattle.tp_types.specs.declared.policy.Action.TheVariants.{Read}
use Rattle.tp_lock.specs.declared.slots.Slot.{Slot}
use Rattle.tp_lock.specs.mirrors.Slots.{as_told}
use Rattle.tp_lock.proofs.lists.tell_all.Goals as goal

pub loop-at-preserved : goal.loop-at-preserved
loop-at-preserved c =
    let at = c.loop-at.at in
    let lt : at < length c.args.slots.now = omega arith in
    let within : at < length c.loop-at.slots = omega arith in
    let none : Slot = record { entry = record { owner = record { 0 = 0 }; age = 0; mode = Read; held = false }; told = false } in
    let slot : Slot = get_or c.loop-at.slots at none in
    map_over_more as_told c.args.slots.now c.loop-at.slots at slot lt c.loop-at.invariant (get_or_default c.loop-at.slots at none slot within)
