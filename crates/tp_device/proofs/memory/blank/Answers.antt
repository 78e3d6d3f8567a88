use Rattle.std.proofs.Common.{arith}
use Rattle.tp_device.proofs.Blanks.{blank_more}
use Rattle.tp_device.proofs.memory.blank.Goals as goal

pub loop-i-preserved : goal.loop-i-preserved
loop-i-preserved c = blank_more c.args.content.now c.loop-i.content c.min-from.result c.loop-i.i c.args.fill (omega arith) (omega arith) c.loop-i.invariant
