use Rattle.tp_quorum.proofs.ReplicaLemmas.{told_fits}
use Rattle.tp_quorum.proofs.replica.forces.Goals as goal

pub returns-in-Store-clause-fits : goal.returns-in-Store-clause-fits
returns-in-Store-clause-fits c = told_fits _
