use Rattle.tp_check.proofs.HistoryLemmas.{certified_there, held_there, valid_there}
use Rattle.tp_check.proofs.history.checks_are_of_history.Goals as goal

pub returns-clause-valid : goal.returns-clause-valid
returns-clause-valid c = valid_there

pub returns-clause-held : goal.returns-clause-held
returns-clause-held c = held_there

pub returns-clause-certified : goal.returns-clause-certified
returns-clause-certified c = certified_there
