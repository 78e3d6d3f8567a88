use Rattle.tp_server.proofs.RightVerdicts.{evaluate_right}
use Rattle.tp_server.proofs.evaluation.evaluations_are_right.Goals as goal

pub returns : goal.returns
returns c = evaluate_right
