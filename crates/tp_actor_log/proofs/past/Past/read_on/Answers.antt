use Rattle.std.proofs.Common.{refl, ap, arith}
use Rattle.tp_device.specs.Memory.{Memory}
use Rattle.tp_log.specs.Logs.{LogState}
use Rattle.tp_actor_log.specs.mirrors.Disks.{records_on}
use Rattle.tp_actor_log.proofs.DiskLemmas.{reread_records, unread_records}
use Rattle.tp_actor_log.proofs.PastLemmas.{boots_fit, gate_of, past_alike, reads_on}
use Rattle.tp_actor_log.proofs.past.Past.read_on.Goals as goal

pub reread_behind-requires-clause-running : goal.reread_behind-requires-clause-running
reread_behind-requires-clause-running c = c.requires.disk.running

pub reread_behind-requires-clause-gate : goal.reread_behind-requires-clause-gate
reread_behind-requires-clause-gate c =
    let h = c.requires in
    (h.so_far.before, h.so_far.more, gate_of c.args.self.now c.args.log.now h)

pub returns-in_err-more-clause-read : goal.returns-in_err-more-clause-read
returns-in_err-more-clause-read c =
    let old = c.args.log.now in
    let new = c.reread_behind.new.self in
    let stays = c.in_err-more.ensures.stays in
    past_alike c.args.self.now _ old new refl refl refl c.requires
    (unread_records old new c.requires.disk (ap (λ (l : LogState Memory). l.disk) stays) (ap (λ (l : LogState Memory). l.closed) stays))

pub returns-in_err-more-clause-same : goal.returns-in_err-more-clause-same
returns-in_err-more-clause-same c =
    let old = c.args.log.now in
    let new = c.reread_behind.new.self in
    let stays = c.in_err-more.ensures.stays in
    (unread_records old new c.requires.disk (ap (λ (l : LogState Memory). l.disk) stays) (ap (λ (l : LogState Memory). l.closed) stays)).same

pub returns-in_err-boots-clause-read : goal.returns-in_err-boots-clause-read
returns-in_err-boots-clause-read c =
    let old = c.args.log.now in
    let h = c.requires in
    let done = c.in_ok-more.ensures in
    past_alike c.args.self.now _ old c.reread_behind.new.self refl refl c.in_err-boots.ensures.err h
    (reread_records old c.reread_behind.new.self (records_on old) h.disk h.disk.gives (done.kept (records_on old) h.disk.gives) done.long done.short)

pub returns-in_err-boots-clause-same : goal.returns-in_err-boots-clause-same
returns-in_err-boots-clause-same c =
    let old = c.args.log.now in
    let h = c.requires in
    let done = c.in_ok-more.ensures in
    (reread_records old c.reread_behind.new.self (records_on old) h.disk h.disk.gives (done.kept (records_on old) h.disk.gives) done.long done.short).same

pub overflow_add-self : goal.overflow_add-self
overflow_add-self c =
    let done = c.in_ok-more.ensures in
    omega (arith, boots_fit c.args.self.now c.args.log.now c.reread_behind.new.self c.in_ok-more.more c.requires done.records done.kept c.in_ok-boots.boots c.in_ok-boots.ensures.boots, c.gate-place.ensures)

pub returns-clause-read : goal.returns-clause-read
returns-clause-read c =
    let done = c.in_ok-more.ensures in
    let added = c.in_ok-boots.ensures in
    (reads_on c.args.self.now c.args.log.now c.reread_behind.new.self c.in_ok-more.more c.requires done.records done.kept _ c.in_ok-boots.boots done.long done.short
    added.boots refl added.others c.gate-place.ensures (omega (arith, c.gate-place.ensures))).read

pub returns-clause-same : goal.returns-clause-same
returns-clause-same c =
    let done = c.in_ok-more.ensures in
    let old = c.args.log.now in
    let h = c.requires in
    (reread_records old c.reread_behind.new.self (records_on old) h.disk h.disk.gives (done.kept (records_on old) h.disk.gives) done.long done.short).same

pub returns-clause-ok : goal.returns-clause-ok
returns-clause-ok c =
    let done = c.in_ok-more.ensures in
    let added = c.in_ok-boots.ensures in
    (reads_on c.args.self.now c.args.log.now c.reread_behind.new.self c.in_ok-more.more c.requires done.records done.kept _ c.in_ok-boots.boots done.long done.short
    added.boots refl added.others c.gate-place.ensures (omega (arith, c.gate-place.ensures))).whole
