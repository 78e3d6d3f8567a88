use Rattle.tp_store.proofs.OutsideLemmas.{first_is_least}
use Rattle.tp_store.proofs.laws.first_outside_is_least.Goals as goal

pub returns : goal.returns
returns c = first_is_least
