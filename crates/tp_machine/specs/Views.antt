-- What is seen of single actors.
use Rattle.std.specs.Prelude.{Option, slice_get}
use Rattle.std.specs.Option.{option_and_then}
use Rattle.tp_model.specs.Words.{ServerId, TxnId}
use Rattle.tp_coord.specs.State.{Coordinator}
use Rattle.tp_server.specs.State.{Server}
use Rattle.tp_machine.specs.declared.actors.Actors.{Actors}
use Rattle.tp_machine.specs.Parts.{Part}

abbrev pub up_of : {S : Type 0} → Part S → Option S
up_of part = part.up

-- a server, by its number, while it is up
abbrev pub server_at : Actors → ServerId → Option Server
server_at actors at = option_and_then up_of (slice_get actors.servers at.0)

-- the coordinator of a transaction while it is up
abbrev pub coordinator_at : Actors → TxnId → Option Coordinator
coordinator_at actors txn = option_and_then up_of (slice_get actors.coordinators txn.0)
