use Rattle.tp_top.proofs.BulkCases.{answers_counted}
use Rattle.tp_top.proofs.bulk.answer.Goals as goal

pub returns-in-Ok : goal.returns-in-Ok
returns-in-Ok c = λ input. answers_counted input c.args.count c.in-Ok.answer c.requires.least c.requires.most c.in-Ok.ensures
