use Rattle.std.proofs.Common.{arith}
use Rattle.std.proofs.lemmas.Grind.{common_steps}
use Rattle.tp_record.specs.Spelling.{content}
use Rattle.tp_record.proofs.CountLemmas.{count_set}
use Rattle.tp_record.proofs.encode_into.Goals as goal

pub returns-clause-spelled : goal.returns-clause-spelled
returns-clause-spelled c = grind (arith, common_steps, count_set 0 (content c.args.r.now))
