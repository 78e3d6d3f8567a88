use Rattle.tp_race.proofs.ClosedLemmas.{never_stopped}
use Rattle.tp_race.proofs.laws.no_script_is_stopped.Goals as goal

pub returns : goal.returns
returns c = never_stopped
