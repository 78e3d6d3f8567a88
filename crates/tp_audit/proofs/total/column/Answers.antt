use Rattle.std.proofs.Common.{arith}
use Rattle.std.proofs.lemmas.Int.{ints}
use Rattle.tp_audit.proofs.total.column.Goals as goal

pub returns-then-is_taken : goal.returns-then-is_taken
returns-then-is_taken c =
    let one = c.nothing.ensures.value in
    let two = c.plus.ensures.value in
    let three = c.plus-total.ensures.value in
    let last = c.minus.ensures.value in
    rw c.if-is_taken.true (omega (arith, ints))

pub returns-else-is_taken : goal.returns-else-is_taken
returns-else-is_taken c =
    let one = c.nothing.ensures.value in
    let two = c.plus.ensures.value in
    let three = c.plus-total.ensures.value in
    let last = c.plus-else-is_taken.ensures.value in
    rw c.if-is_taken.false (omega (arith, ints))
