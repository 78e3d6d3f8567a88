use Rattle.tp_top.proofs.TraceCases.{answers_traced}
use Rattle.tp_top.proofs.trace.answer.Goals as goal

pub returns-in-Ok-clause-cause : goal.returns-in-Ok-clause-cause
returns-in-Ok-clause-cause g c = answers_traced _ c.in-Ok.scenario c.traced.result c.in-Ok.ensures.read c.traced.ensures
