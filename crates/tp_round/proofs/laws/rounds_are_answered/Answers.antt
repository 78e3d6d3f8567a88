use Rattle.tp_round.proofs.AnswerLemmas.{all_true_where_agreed, updates_the_outdated, waits_for_replies}
use Rattle.tp_round.proofs.laws.rounds_are_answered.Goals as goal

pub returns-clause-waits : goal.returns-clause-waits
returns-clause-waits c = waits_for_replies

pub returns-clause-all_true : goal.returns-clause-all_true
returns-clause-all_true c = all_true_where_agreed

pub returns-clause-updates : goal.returns-clause-updates
returns-clause-updates c = updates_the_outdated
