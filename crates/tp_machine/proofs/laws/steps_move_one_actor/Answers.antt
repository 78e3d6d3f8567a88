use Rattle.tp_machine.proofs.basics.Moves.{forces_one, is_move, leaves, numbered}
use Rattle.tp_machine.proofs.laws.steps_move_one_actor.Goals as goal

pub returns-clause-moves : goal.returns-clause-moves
returns-clause-moves c = is_move

pub returns-clause-others : goal.returns-clause-others
returns-clause-others c = leaves

pub returns-clause-logs : goal.returns-clause-logs
returns-clause-logs c = forces_one

pub returns-clause-numbers : goal.returns-clause-numbers
returns-clause-numbers c = numbered
