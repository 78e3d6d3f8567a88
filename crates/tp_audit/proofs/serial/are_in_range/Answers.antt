use Rattle.std.proofs.Common.{◌<◌, length, sym, ◌∙◌, arith}
use Rattle.tp_audit.proofs.SerialLemmas.{goes_on, in_range_next, stops}
use Rattle.tp_audit.proofs.serial.are_in_range.Goals as goal

pub returns-then-not-is_in_range : goal.returns-then-not-is_in_range
returns-then-not-is_in_range c =
    let within : c.loop-at.at < length c.args.items.now = grind arith in
    let next = in_range_next c.loop-at.at c.args.items.now c.args.store.now c.item-item.result within (cc) in
    stops _ _ _ (sym c.is_in_range.ensures ∙ c.if-not-is_in_range.true) (sym next ∙ c.loop-at.invariant)

pub loop-at-preserved : goal.loop-at-preserved
loop-at-preserved c =
    let within : c.loop-at.at < length c.args.items.now = grind arith in
    let next = in_range_next c.loop-at.at c.args.items.now c.args.store.now c.item-item.result within (cc) in
    goes_on _ _ _ (sym c.is_in_range.ensures ∙ c.if-not-is_in_range.false) (sym next ∙ c.loop-at.invariant)
