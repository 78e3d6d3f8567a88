use Rattle.std.proofs.Common.{ℕ, ap, subst}
use Rattle.std.specs.Prelude.{Ok, Err}
use Rattle.tp_device.specs.Memory.{Memory, does}
use Rattle.tp_device.specs.declared.disk.DiskError.TheVariants as errors
use Rattle.tp_record.specs.Spelling.{spelling}
use Rattle.tp_log.specs.Logs.{LogState, Makes, append_calls}
use Rattle.tp_log.proofs.Stopped.{crash_kept}
use Rattle.tp_log.proofs.log.Log+MemoryDisk.crash_in_append.Goals as goal

pub returns-in-Ok-clause-kept : goal.returns-in-Ok-clause-kept
returns-in-Ok-clause-kept c records keeps =
    let done = c.in-Ok.ensures.answer in
    let m = c.stop_after.new.self.disk in
    let gate = ap (λ (l : LogState Memory). l.gate) c.stop_after.ensures in
    crash_kept c.args.self.now records c.args.r.now c.args.calls c.args.fill (Ok tt) m c.append.new.self.disk c.crash_with.new.self.disk keeps done.is
    (ap (λ (l : LogState Memory). l.disk.left) c.stop_after.ensures) (ap (λ (l : LogState Memory). l.disk.disk) c.stop_after.ensures) tt
    (subst (λ (k : ℕ). Makes does (append_calls k (spelling c.args.r.now)) m (Ok tt) c.append.new.self.disk) gate done.calls)
    (ap (λ (l : LogState Memory). l.disk) c.crash_with.ensures.exact) c.crash_with.ensures.image

pub returns-in-Err-Device-clause-kept : goal.returns-in-Err-Device-clause-kept
returns-in-Err-Device-clause-kept c records keeps =
    let done = rw c.in-Err-Device.field-0-is at c.in-Err-Device.ensures.answer in
    let m = c.stop_after.new.self.disk in
    let gate = ap (λ (l : LogState Memory). l.gate) c.stop_after.ensures in
    crash_kept c.args.self.now records c.args.r.now c.args.calls c.args.fill (Err errors.Failed) m c.append.new.self.disk c.crash_with-in-Err-Device.new.self.disk keeps done.is
    (ap (λ (l : LogState Memory). l.disk.left) c.stop_after.ensures) (ap (λ (l : LogState Memory). l.disk.disk) c.stop_after.ensures) tt
    (subst (λ (k : ℕ). Makes does (append_calls k (spelling c.args.r.now)) m (Err errors.Failed) c.append.new.self.disk) gate done.calls)
    (ap (λ (l : LogState Memory). l.disk) c.crash_with-in-Err-Device.ensures.exact) c.crash_with-in-Err-Device.ensures.image
