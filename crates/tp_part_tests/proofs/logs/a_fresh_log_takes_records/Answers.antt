use Rattle.std.proofs.Common.{arith}
use Rattle.tp_record.specs.Spelling.{short}
use Rattle.tp_part_tests.proofs.logs.a_fresh_log_takes_records.Goals as goal

pub append_running-appended-requires-clause-fits : goal.append_running-appended-requires-clause-fits
unfolding short
append_running-appended-requires-clause-fits c = omega arith
