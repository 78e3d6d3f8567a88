use Rattle.std.proofs.Common.{refl}
use Rattle.tp_quorum.proofs.laws.bound_is_reached.Goals as goal

pub returns : goal.returns
returns c = refl
