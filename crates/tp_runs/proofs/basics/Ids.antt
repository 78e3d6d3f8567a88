-- Ids and their numbers.
use Rattle.std.proofs.Common.{ap, true, ℕ, ◌==◌, ◌≡◌}
use Rattle.std.proofs.lemmas.Bool.{eqb-true}
use Rattle.tp_model.specs.Words.actor
use Rattle.tp_model.specs.Words.{AdminId, ServerId, TxnId}
use Rattle.tp_model.specs.Ids.{same_txn}

abbrev pub txn_number : ℕ → TxnId
txn_number n = record { 0 = n }

pub same_txn_is : (one other : TxnId) → same_txn one other ≡ true → one ≡ other
same_txn_is one other e = ap txn_number (eqb-true one.0 other.0 e)

-- a mail to a coordinator is of its transaction
pub same_txn_from : (one other : TxnId) → actor.Coordinator one ≡ actor.Coordinator other → other ≡ one
same_txn_from one other e = cc

abbrev pub admin_number : ℕ → AdminId
admin_number n = record { 0 = n }

abbrev pub server_number : ℕ → ServerId
server_number n = record { 0 = n }

pub same_server_is : (one other : ServerId) → (one.0 == other.0) ≡ true → one ≡ other
same_server_is one other e = ap server_number (eqb-true one.0 other.0 e)
