use Rattle.tp_round.proofs.MetLemmas.{meets_the_least, meets_what_is_newer}
use Rattle.tp_round.proofs.laws.rounds_meet_the_least.Goals as goal

pub returns-clause-met : goal.returns-clause-met
returns-clause-met c = meets_the_least

pub returns-clause-unmet : goal.returns-clause-unmet
returns-clause-unmet c = meets_what_is_newer
