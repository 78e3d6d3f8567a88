use Rattle.tp_auto.proofs.EndLemmas.{always_ends}
use Rattle.tp_auto.proofs.laws.phases_end.Goals as goal

pub returns : goal.returns
returns c = always_ends
