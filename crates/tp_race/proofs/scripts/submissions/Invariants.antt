use Rattle.std.proofs.Common.{◌≡◌, map, take}
use Rattle.tp_model.specs.Words.step
use Rattle.tp_model.specs.Words.{TxnId}
use Rattle.tp_race.proofs.scripts.submissions.Given as goal

-- the transactions so far are submitted
abbrev pub invariant-loop-txn : goal.invariant-loop-txn
invariant-loop-txn l = l.made ≡ map (λ (txn : TxnId). step.Submit txn) (take l.txn-index l.txn-items)
