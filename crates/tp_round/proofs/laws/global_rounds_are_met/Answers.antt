use Rattle.tp_round.proofs.GlobalLemmas.{meets_in_each_round, spent_at_the_limit}
use Rattle.tp_round.proofs.laws.global_rounds_are_met.Goals as goal

pub returns-clause-met : goal.returns-clause-met
returns-clause-met c = meets_in_each_round

pub returns-clause-spent : goal.returns-clause-spent
returns-clause-spent c = spent_at_the_limit
