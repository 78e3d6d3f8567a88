use Rattle.std.proofs.Common.{arith}
use Rattle.tp_record.specs.Spelling.{short}
use Rattle.tp_world_tests.proofs.part.logged_once.Goals as goal

pub force-forced-requires : goal.force-forced-requires
unfolding short
force-forced-requires c = omega arith
