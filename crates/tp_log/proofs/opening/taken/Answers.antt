use Rattle.std.proofs.Common.{◌≤◌, ap, length, arith}
use Rattle.tp_device.specs.Disks.{DiskState}
use Rattle.std.proofs.lemmas.Result.{err_from_is_err_and}
use Rattle.tp_log.proofs.Openings.{gate_given_up, opens_long}
use Rattle.tp_log.proofs.opening.taken.Goals as goal

pub returns-then-len-gt1-clause-opens : goal.returns-then-len-gt1-clause-opens
returns-then-len-gt1-clause-opens g c =
    let first = c.in_ok-sync.ensures in
    let disk = g.D.Disk in
    opens_long disk.state disk.left_since disk.does disk.faults g.met.D.Disk.only_now c.args.disk.now c.sync.new.self c.image_of.new.disk
    (record { effect = first.effect; call_is = first.call; cause = first.cause; time = first.time }) c.in_ok-image.ensures.reads
    (omega (arith, c.if-len-gt1.true, ap length c.in_ok-image.ensures.bytes, ap (λ (s : DiskState). length s.seen) first.effect, c.len.ensures))

pub returns-in_err-write_gate-clause-refused : goal.returns-in_err-write_gate-clause-refused
returns-in_err-write_gate-clause-refused g c =
    let first = c.in_ok-sync.ensures in
    let disk = g.D.Disk in
    let p = err_from_is_err_and c.from_residual-in_err-write_gate.result c.from_residual-in_err-write_gate.ensures.1 in
    let few : length (disk.state c.args.disk.now).seen ≤ 1 =
    omega (arith, c.if-len-gt1.false, ap length c.in_ok-image.ensures.bytes, ap (λ (s : DiskState). length s.seen) first.effect, c.len.ensures) in
    rw (p.1, p.2) (gate_given_up disk.state disk.left_since disk.does disk.faults g.met.D.Disk.only_now c.args.disk.now c.sync.new.self c.image_of.new.disk _ c.in_err-write_gate.field-0.0
    (record { effect = first.effect; call_is = first.call; cause = first.cause; time = first.time }) c.in_ok-image.ensures.reads few c.in_err-write_gate.ensures)
