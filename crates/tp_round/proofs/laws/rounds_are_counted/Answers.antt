use Rattle.tp_round.proofs.RoundsLemmas.{rounds_count_mets}
use Rattle.tp_round.proofs.laws.rounds_are_counted.Goals as goal

pub returns : goal.returns
returns c = rounds_count_mets
