-- What a server that boots asks, by its number.
use Rattle.std.specs.Prelude.{List, map}
use Rattle.tp_model.specs.Words.actor
use Rattle.tp_model.specs.Words.body
use Rattle.tp_model.specs.Words.{Letter, Prepared, ServerId, TxnId}

-- the coordinator of a transaction is asked for the outcome
abbrev pub inquiry_of : ServerId → TxnId → Letter
inquiry_of at txn =
    record {
      from = actor.Server at;
      to = actor.Coordinator txn;
      body = body.Inquire (record { txn = txn });
    }

abbrev pub inquiries : ServerId → List Prepared → List Letter
inquiries at prepared = map (λ (p : Prepared). inquiry_of at p.txn) prepared
