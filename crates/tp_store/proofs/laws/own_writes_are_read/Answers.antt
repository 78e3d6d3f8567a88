use Rattle.tp_store.proofs.LawLemmas.{others_are_kept, others_stay, own_is_read}
use Rattle.tp_store.proofs.laws.own_writes_are_read.Goals as goal

pub returns-clause-own : goal.returns-clause-own
returns-clause-own c = own_is_read

pub returns-clause-items : goal.returns-clause-items
returns-clause-items c = others_are_kept

pub returns-clause-transactions : goal.returns-clause-transactions
returns-clause-transactions c = others_stay
