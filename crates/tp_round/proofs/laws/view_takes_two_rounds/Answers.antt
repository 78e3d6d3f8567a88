use Rattle.tp_round.proofs.RoundsLemmas.{view_takes_two}
use Rattle.tp_round.proofs.SpentLemmas.{never_spent}
use Rattle.tp_round.proofs.laws.view_takes_two_rounds.Goals as goal

pub returns-clause-never_spent : goal.returns-clause-never_spent
returns-clause-never_spent c = never_spent

pub returns-clause-two_rounds : goal.returns-clause-two_rounds
returns-clause-two_rounds c = view_takes_two
