use Rattle.tp_cred.proofs.NameLemmas.{no_names}
use Rattle.tp_cred.proofs.store.CredStore.new.Goals as goal

pub invariant_of-result : goal.invariant_of-result
invariant_of-result c = rw c.new.ensures no_names
