use Rattle.tp_log.proofs.Blocks.{fails_not}
use Rattle.tp_log.proofs.image.given_by.Goals as goal

pub unreachable-requires : goal.unreachable-requires
unreachable-requires c =
    let failed = rw c.in-Err-NotALog.field-0-is at c.in-Err-NotALog.ensures.failed in
    fails_not c.args.image.now c.requires.0 c.in-Err-NotALog.field-0-0 c.requires.1 failed
