use Rattle.tp_top.proofs.ReadBack.{list_read_back, step_read_back}
use Rattle.tp_top.proofs.laws.steps_are_read_back.Goals as goal

pub returns-clause-steps : goal.returns-clause-steps
returns-clause-steps c = step_read_back

pub returns-clause-lists : goal.returns-clause-lists
returns-clause-lists c = list_read_back
