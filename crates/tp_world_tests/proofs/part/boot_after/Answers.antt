use Rattle.std.proofs.Common.{arith}
use Rattle.tp_record.specs.Spelling.{short}
use Rattle.tp_world_tests.proofs.part.boot_after.Goals as goal

pub force-learnt-requires : goal.force-learnt-requires
unfolding short
force-learnt-requires c = omega arith

pub force-booted-requires : goal.force-booted-requires
unfolding short
force-booted-requires c = omega arith
