use Rattle.tp_race_tests.proofs.PassLemmas.{fresh_caller}
use Rattle.tp_race_tests.proofs.finishes.submit_first.Goals as goal

pub submit-answer-requires-clause-caller : goal.submit-answer-requires-clause-caller
submit-answer-requires-clause-caller g c = λ live. fresh_caller g.B.Site.about.scenario g.B.Site.table c.args.pass.now c.requires.pass
