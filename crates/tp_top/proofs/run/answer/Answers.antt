use Rattle.tp_top.proofs.RunCases.{answers_reported}
use Rattle.tp_top.proofs.run.answer.Goals as goal

pub returns-in-Ok-clause-cause : goal.returns-in-Ok-clause-cause
returns-in-Ok-clause-cause g c = answers_reported _ c.in-Ok.scenario c.reported.result c.in-Ok.ensures.read c.reported.ensures
