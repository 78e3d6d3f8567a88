use Rattle.tp_log.proofs.Blocks.{fails_not}
use Rattle.tp_actor_log.specs.mirrors.Disks.{records_on}
use Rattle.tp_actor_log.proofs.DiskLemmas.{reread_records}
use Rattle.tp_actor_log.proofs.disks.open.Goals as goal

pub unreachable-requires-in-Err-NotALog : goal.unreachable-requires-in-Err-NotALog
unreachable-requires-in-Err-NotALog c =
    let failed = rw c.in-Err-NotALog.field-0-is at c.in-Err-NotALog.ensures.not_a_log in
    let before = c.args.log.now in
    fails_not before.disk.disk.seen (records_on before) c.in-Err-NotALog.field-0-0 c.requires.gives failed

pub returns-in-Ok-clause-forced : goal.returns-in-Ok-clause-forced
returns-in-Ok-clause-forced c =
    let done = c.in-Ok.ensures in
    (reread_records c.args.log.now c.reread.new.self c.in-Ok.records c.requires done.records done.kept done.long done.short).forced

pub returns-in-Ok-clause-same : goal.returns-in-Ok-clause-same
returns-in-Ok-clause-same c =
    let done = c.in-Ok.ensures in
    (reread_records c.args.log.now c.reread.new.self c.in-Ok.records c.requires done.records done.kept done.long done.short).same
