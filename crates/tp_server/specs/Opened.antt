-- A server as it stands before the first step.
use Rattle.std.specs.Prelude.{length, replicate, None}
use Rattle.tp_model.specs.Words.{Scenario, ServerId}
use Rattle.tp_lock.specs.Rule as lock
use Rattle.tp_store.specs.Rule as store
use Rattle.tp_server.specs.State.{Server}

abbrev pub opening : Scenario → ServerId → Server
opening sc server =
    record {
      server = server;
      epoch = 1;
      store = store.opening sc server;
      settled = replicate (length sc.txns) None;
      entries = replicate (length sc.txns) None;
      locks = lock.opening (length sc.items);
    }
