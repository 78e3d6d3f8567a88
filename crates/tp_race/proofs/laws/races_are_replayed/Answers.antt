use Rattle.tp_race.proofs.ReplayLemmas.{replayed}
use Rattle.tp_race.proofs.laws.races_are_replayed.Goals as goal

pub returns : goal.returns
returns c = replayed
