use Rattle.std.proofs.Common.{◌*◌, ◌<◌, length, arith}
use Rattle.std.proofs.lemmas.Int.{ints}
use Rattle.tp_audit.proofs.SerialLemmas.{fold_turn}
use Rattle.tp_audit.proofs.serial.sum_in.Goals as goal

pub loop-term-preserved : goal.loop-term-preserved
loop-term-preserved c =
    let within : c.loop-term.term-index < length c.args.expr.now = grind arith in
    let next = rw c.as_slice-term-items.ensures at c.add_term-total.ensures.value in
    let wrapped = c.add_term-total.ensures.wraps (2 * c.loop-term.term-index) c.loop-term.invariant.wraps in
    record {
      same = fold_turn _ _ _ _ c.args.expr.now c.loop-term.term-index _ within next c.loop-term.invariant.same;
      wraps = (omega (arith, ints), omega (arith, ints));
    }
