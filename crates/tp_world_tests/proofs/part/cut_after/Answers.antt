use Rattle.std.proofs.Common.{arith}
use Rattle.tp_record.specs.Spelling.{short}
use Rattle.tp_world_tests.proofs.part.cut_after.Goals as goal

pub cut-torn-requires : goal.cut-torn-requires
unfolding short
cut-torn-requires c = omega arith
