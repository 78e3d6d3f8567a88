use Rattle.tp_round.proofs.AgreedLemmas.{all_agree, false_is_least}
use Rattle.tp_round.proofs.laws.agreed_rounds_agree.Goals as goal

pub returns-clause-all_true : goal.returns-clause-all_true
returns-clause-all_true c = all_agree

pub returns-clause-least_false : goal.returns-clause-least_false
returns-clause-least_false c = false_is_least
