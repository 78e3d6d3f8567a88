use Rattle.tp_quorum.proofs.Ends.{always_has_end}
use Rattle.tp_quorum.proofs.laws.comes_to_rest.Goals as goal

pub returns : goal.returns
returns c = always_has_end
