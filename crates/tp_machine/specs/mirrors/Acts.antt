-- What the code of a step promises: it did what the machine says.
use Rattle.std.specs.Prelude.{◌≡◌, ◌⊎◌, ℕ, Option, Some, None, map, slice_get, slice_set}
use Rattle.tp_model.specs.Words.actor
use Rattle.tp_model.specs.Words.log
use Rattle.tp_model.specs.Words.{Actor, Record, ServerId, TxnId}
use Rattle.tp_coord.specs.State.{Coordinator}
use Rattle.tp_server.specs.State.{Server}
use Rattle.tp_machine.specs.declared.actors.Actors.{Actors}
use Rattle.tp_machine.specs.declared.part.Act.{Act}
use Rattle.tp_machine.specs.Parts.{Part}
use Rattle.tp_machine.specs.Logs.{log_by}
use Rattle.tp_machine.specs.Machine.{Move, is_part_down}

-- how many decisions a record is
abbrev pub decisions : Option Record → ℕ
decisions (Some (log.Decided _)) = 1
decisions _ = 0

-- the actors made this move
pub record Moves (move : Move) (actors : Actors) (act : Act) : Type 0 where
  pub actors_are : actors ≡ move.actors
  pub happened_is : act.happened ≡ move.happened
  pub letters_are : act.letters ≡ move.letters

-- each actor is up where it was, and down where it was
pub record SameUp (old new : Actors) : Type 0 where
  pub servers : map is_part_down new.servers ≡ map is_part_down old.servers
  pub coordinators : map is_part_down new.coordinators ≡ map is_part_down old.coordinators

-- each actor's log is as it was
pub record SameLogs (old new : Actors) : Type 0 where
  pub servers : map log_by new.servers ≡ map log_by old.servers
  pub coordinators : map log_by new.coordinators ≡ map log_by old.coordinators

-- the logs are those from before a step, or those after it
abbrev pub HasEitherLogs : Actors → Actors → Actors → Type 0
HasEitherLogs old next new = SameLogs old new ⊎ SameLogs next new

-- ---- who is up changes last

-- a part once it is down
abbrev pub down_part : {S : Type 0} → Part S → Part S
down_part part = record part { up = None }

abbrev pub with_server_down : Actors → ServerId → Option (Part Server) → Actors
with_server_down actors at None = actors
with_server_down actors at (Some part) =
    record actors { servers = slice_set actors.servers at.0 (down_part part) }

abbrev pub with_coordinator_down : Actors → TxnId → Option (Part Coordinator) → Actors
with_coordinator_down actors txn None = actors
with_coordinator_down actors txn (Some part) =
    record actors { coordinators = slice_set actors.coordinators txn.0 (down_part part) }

-- the actors once this one is down
abbrev pub with_down : Actors → Actor → Actors
with_down actors (actor.Server at) = with_server_down actors at (slice_get actors.servers at.0)
with_down actors (actor.Coordinator txn) =
    with_coordinator_down actors txn (slice_get actors.coordinators txn.0)
with_down actors _ = actors
