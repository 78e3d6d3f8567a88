use Rattle.tp_recover.proofs.KeptLemmas.{kept_law, kept_says}
use Rattle.tp_recover.proofs.laws.logs_are_kept.Goals as goal

pub returns-clause-step : goal.returns-clause-step
returns-clause-step c = kept_says

pub returns-clause-whole : goal.returns-clause-whole
returns-clause-whole c = kept_law
