-- What a server is while it is up.
use Rattle.std.specs.Prelude.{ℕ, List, Option}
use Rattle.tp_model.specs.Words.{ServerId, Settled}
use Rattle.tp_lock.specs.Table.{Table}
use Rattle.tp_store.specs.Contents.{Contents}
use Rattle.tp_server.specs.declared.server.Entry.{Entry}

pub record Server : Type 0 where
  pub server : ServerId
  -- one plus the number of its boots
  pub epoch : ℕ
  -- the values of items, the writes of each transaction that is not settled, and the newest versions known
  pub store : Contents
  -- how each transaction of the scenario was settled here, if it was
  pub settled : List (Option Settled)
  -- the entry of each transaction of the scenario, if it has one
  pub entries : List (Option Entry)
  -- the locks on the scenario's items
  pub locks : Table
