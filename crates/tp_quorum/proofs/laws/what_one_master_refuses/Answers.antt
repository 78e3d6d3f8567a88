use Rattle.tp_quorum.proofs.HistoryLemmas.{back_refused, fair_is_one_master, made_up_refused, stale_refused}
use Rattle.tp_quorum.proofs.laws.what_one_master_refuses.Goals as goal

pub returns : goal.returns
returns c = record { fair = fair_is_one_master; stale = stale_refused; back = back_refused; made_up = made_up_refused }
