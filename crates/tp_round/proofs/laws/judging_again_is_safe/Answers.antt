use Rattle.tp_round.proofs.AgainLemmas.{same_again, waits_after}
use Rattle.tp_round.proofs.laws.judging_again_is_safe.Goals as goal

pub returns-clause-same : goal.returns-clause-same
returns-clause-same c = same_again

pub returns-clause-waits : goal.returns-clause-waits
returns-clause-waits c = waits_after
