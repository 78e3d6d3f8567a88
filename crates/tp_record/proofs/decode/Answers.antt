use Rattle.std.proofs.Common.{◌-◌, length, arith, refl}
use Rattle.tp_record.proofs.Bodies.{body_length, body_takes, nothing_read, only_read}
use Rattle.tp_record.proofs.Exact.{AreBytes-from}
use Rattle.tp_record.proofs.decode.Goals as goal

pub overflow_sub-result : goal.overflow_sub-result
overflow_sub-result c =
    let fits = AreBytes-from c.args.bytes.now (λ i. omega (arith, c.type_inv.bytes i)) in
    omega (arith, body_length c.args.bytes.now c.in-Ok.record c.body.new.reader.rest.now fits c.in-Ok.ensures)

pub returns-in-Ok-clause-found : goal.returns-in-Ok-clause-found
returns-in-Ok-clause-found c =
    let fits = AreBytes-from c.args.bytes.now (λ i. omega (arith, c.type_inv.bytes i)) in
    let t = body_takes c.args.bytes.now c.in-Ok.record c.body.new.reader.rest.now fits c.in-Ok.ensures in
    (t.1, ((c.body.new.reader.rest.now, t.0), omega (arith, body_length c.args.bytes.now c.in-Ok.record c.body.new.reader.rest.now fits c.in-Ok.ensures)))

pub returns-in-Ok-clause-only : goal.returns-in-Ok-clause-only
returns-in-Ok-clause-only c r is begins =
    let fits = AreBytes-from c.args.bytes.now (λ i. omega (arith, c.type_inv.bytes i)) in
    only_read c.args.bytes.now c.in-Ok.record r c.body.new.reader.rest.now (length c.args.bytes.now - length c.body.new.reader.rest.now) fits c.in-Ok.ensures is begins refl

pub returns-in-Err-NoRecord-clause-only : goal.returns-in-Err-NoRecord-clause-only
returns-in-Err-NoRecord-clause-only c r is begins =
    let h = rw c.in-Err-NoRecord.field-0-is at c.in-Err-NoRecord.ensures in
    absurd (nothing_read c.args.bytes.now r h is begins)

pub returns-in-Err-NoRecord-clause-none : goal.returns-in-Err-NoRecord-clause-none
returns-in-Err-NoRecord-clause-none c r is begins =
    let h = rw c.in-Err-NoRecord.field-0-is at c.in-Err-NoRecord.ensures in
    nothing_read c.args.bytes.now r h is begins
