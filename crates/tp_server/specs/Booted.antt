-- A server that boots: what it is by all that is kept of its log, and its row.
use Rattle.std.specs.Prelude.{ℕ, ◌+◌, List, [], ◌∷◌, Option, Some, None, length, map, option_map}
use Rattle.tp_types.specs.Effect.{Effect, logs}
use Rattle.tp_lock.specs.Rule as lock
use Rattle.tp_lock.specs.Rule.{after_request}
use Rattle.tp_lock.specs.Table.{Table}
use Rattle.tp_model.specs.Words.action
use Rattle.tp_model.specs.Words.body
use Rattle.tp_model.specs.Words.log
use Rattle.tp_model.specs.Words.{Action, Deed, Letter, Prepared, Scenario, ServerId, TxnId}
use Rattle.tp_model.specs.ByAge.{by_age, by_txn}
use Rattle.tp_recover.specs.declared.kept.Kept.{Kept}
use Rattle.tp_server.specs.Row.{ballot_of, reply}
use Rattle.tp_server.specs.State.{Server}
use Rattle.tp_server.specs.declared.server.Entry.{Entry}
use Rattle.tp_store.specs.Contents.{Contents}
use Rattle.tp_store.specs.Rule as store
use Rattle.tp_store.specs.Rule.{after_write}
use Rattle.tp_store.specs.declared.writes.TentativeWrite.{TentativeWrite}

-- ---- entries

-- the entry of what is prepared: its deeds and its vote, and no answer
abbrev pub restored : Prepared → Entry
restored p =
    record {
      age = p.age;
      epoch = p.epoch;
      answers = [];
      waiting = None;
      deeds = p.deeds;
      ballot = Some (ballot_of p);
    }

-- ---- locks

-- a lock is asked for each deed, a read's too, in the order of the queries
abbrev pub with_deeds_locked : TxnId → ℕ → List Deed → Table → Table
with_deeds_locked owner age [] locks = locks
with_deeds_locked owner age (deed ∷ deeds) locks =
    with_deeds_locked owner age deeds (after_request owner age deed.item deed.action locks)

abbrev pub with_prepared_locked : List Prepared → Table → Table
with_prepared_locked [] locks = locks
with_prepared_locked (p ∷ prepared) locks =
    with_prepared_locked prepared (with_deeds_locked p.txn p.age p.deeds locks)

-- ---- writes

abbrev pub write_of : Deed → TentativeWrite
write_of deed = record { query = deed.query; item = deed.item; value = deed.value }

-- a write is kept, and a read changes nothing
abbrev pub with_deed_kept : Action → Contents → TxnId → Deed → Contents
with_deed_kept action.Read contents txn deed = contents
with_deed_kept action.Write contents txn deed = after_write contents txn (write_of deed)

abbrev pub with_deeds_kept : Contents → TxnId → List Deed → Contents
with_deeds_kept contents txn [] = contents
with_deeds_kept contents txn (deed ∷ deeds) =
    with_deeds_kept (with_deed_kept deed.action contents txn deed) txn deeds

-- of a table by transaction, the writes of all that is prepared
abbrev pub with_prepared_kept : Contents → List (Option Prepared) → Contents
with_prepared_kept contents [] = contents
with_prepared_kept contents (None ∷ table) = with_prepared_kept contents table
with_prepared_kept contents (Some p ∷ table) =
    with_prepared_kept (with_deeds_kept contents p.txn p.deeds) table

-- the store with the values and the versions that the log leaves, and no write yet
abbrev pub kept_store : Scenario → ServerId → Kept → Contents
kept_store sc at k = record (store.opening sc at) { values = k.values; known = k.newest }

-- ---- the server, and its row

-- the server in its next epoch. Locks are asked for by age, which is their order in the list of an item
abbrev pub booted : Scenario → ServerId → Kept → Server
booted sc at k =
    record {
      server = at;
      epoch = k.epoch + 1;
      store = with_prepared_kept (kept_store sc at k) k.prepared;
      settled = k.settled;
      entries = map (option_map restored) k.prepared;
      locks = with_prepared_locked (by_age (by_txn k.prepared)) (lock.opening (length sc.items));
    }

-- a server that booted asks for the outcome of what it has prepared
abbrev pub inquiry : Server → Prepared → Letter
inquiry s p = reply s p.txn (body.Inquire (record { txn = p.txn }))

-- the boot is forced, and then each coordinator of what is prepared is asked, by number
abbrev pub boot_row : Scenario → ServerId → Kept → Effect Server
boot_row sc at k =
    logs (booted sc at k) log.Boot (map (inquiry (booted sc at k)) (by_txn k.prepared))
