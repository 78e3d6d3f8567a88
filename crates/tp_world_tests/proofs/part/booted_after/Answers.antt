use Rattle.std.proofs.Common.{arith}
use Rattle.tp_record.specs.Spelling.{short}
use Rattle.tp_world_tests.proofs.part.booted_after.Goals as goal

pub cut-torn-requires : goal.cut-torn-requires
unfolding short
cut-torn-requires c = omega arith

pub force-forced-requires : goal.force-forced-requires
unfolding short
force-forced-requires c = omega arith
