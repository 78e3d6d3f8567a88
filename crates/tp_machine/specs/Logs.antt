-- What the logs of all actors say, by their numbers.
use Rattle.std.specs.Prelude.{ℕ, List, [], slice_get, Bool, false, Option, is_some, option_and_then}
use Rattle.std.specs.Option.{option_map_or}
use Rattle.tp_model.specs.Words.{Actor, Decision, Prepared, Record, Settled, TxnId}
use Rattle.tp_model.specs.Words.actor
use Rattle.tp_recover.specs.Log.{decided_in, epoch_in, has_voted, prepared_in, settled_in}
use Rattle.tp_coord.specs.State.{Coordinator}
use Rattle.tp_machine.specs.declared.actors.Actors.{Actors}
use Rattle.tp_machine.specs.Parts.{Part}
use Rattle.tp_server.specs.State.{Server}

abbrev pub decided_by : Part Coordinator → Option Decision
decided_by part = decided_in part.log

-- what the coordinator of a transaction has decided, by its number
abbrev pub decided_at : List (Part Coordinator) → ℕ → Option Decision
decided_at coordinators txn = option_and_then decided_by (slice_get coordinators txn)

abbrev pub settled_by : TxnId → Part Server → Option Settled
settled_by txn part = settled_in txn part.log

-- how a server, by its number, has settled a transaction
abbrev pub settled_at : List (Part Server) → ℕ → TxnId → Option Settled
settled_at servers at txn = option_and_then (settled_by txn) (slice_get servers at)

abbrev pub prepared_by : TxnId → Part Server → Option Prepared
prepared_by txn part = prepared_in txn part.log

-- what is prepared of a transaction at a server, by its number
abbrev pub prepared_at : List (Part Server) → ℕ → TxnId → Option Prepared
prepared_at servers at txn = option_and_then (prepared_by txn) (slice_get servers at)

abbrev pub voted_by : TxnId → Part Server → Bool
voted_by txn part = has_voted txn part.log

-- whether a server, by its number, has prepared or settled a transaction
abbrev pub has_voted_at : List (Part Server) → ℕ → TxnId → Bool
has_voted_at servers at txn = option_map_or (voted_by txn) (slice_get servers at) false

abbrev pub epoch_by : Part Server → ℕ
epoch_by part = epoch_in part.log

-- the epoch of a server, by its number; 0, which is no epoch, where there is no such server
abbrev pub epoch_at : List (Part Server) → ℕ → ℕ
epoch_at servers at = option_map_or epoch_by (slice_get servers at) 0

abbrev pub log_by : {S : Type 0} → Part S → List Record
log_by part = part.log

-- the records of an actor's log, by its name; an office has none
abbrev pub records_of : Actors → Actor → List Record
records_of actors (actor.Server at) = option_map_or log_by (slice_get actors.servers at.0) []
records_of actors (actor.Coordinator txn) =
    option_map_or log_by (slice_get actors.coordinators txn.0) []
records_of actors _ = []

-- whether there is an actor of this name that has a log
abbrev pub has_log : Actors → Actor → Bool
has_log actors (actor.Server at) = is_some (slice_get actors.servers at.0)
has_log actors (actor.Coordinator txn) = is_some (slice_get actors.coordinators txn.0)
has_log actors _ = false
