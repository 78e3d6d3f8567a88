-- A coordinator before its transaction is submitted.
use Rattle.std.specs.Prelude.{List, [], length, replicate, slice_get, None}
use Rattle.std.specs.Option.{option_map_or}
use Rattle.tp_model.specs.Words.{Scenario, ServerId, TxnId}
use Rattle.tp_model.specs.Queries.{servers_of}
use Rattle.tp_coord.specs.State.{Coordinator}
use Rattle.tp_coord.specs.declared.coordinator.Phase.TheVariants.{Idle}

-- the servers of a transaction of the scenario
abbrev pub servers_at : Scenario → TxnId → List ServerId
servers_at sc txn = option_map_or (servers_of sc) (slice_get sc.txns txn.0) []

abbrev pub idle : Scenario → TxnId → Coordinator
idle sc txn =
    record {
      txn = txn;
      servers = servers_at sc txn;
      age = None;
      turn = 0;
      epochs = replicate (length sc.servers) None;
      deeds = [];
      gathered = [];
      instances = [];
      phase = Idle;
    }
