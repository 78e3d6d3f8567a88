use Rattle.tp_round.proofs.NamesLemmas.{names_outdated}
use Rattle.tp_round.proofs.laws.update_names_the_outdated.Goals as goal

pub returns : goal.returns
returns c = names_outdated
