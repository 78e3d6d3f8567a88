use Rattle.tp_round.proofs.MetLemmas.{spent_has_all_mets, update_keeps_mets}
use Rattle.tp_round.proofs.laws.spent_rounds_have_all_mets.Goals as goal

pub returns-clause-spent : goal.returns-clause-spent
returns-clause-spent c = spent_has_all_mets

pub returns-clause-kept : goal.returns-clause-kept
returns-clause-kept c = update_keeps_mets
