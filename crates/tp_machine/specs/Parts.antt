-- An actor with its log.
use Rattle.std.specs.Prelude.{List, Option}
use Rattle.tp_model.specs.Words.{Record}

-- an actor's state, which is None while it is down, and the records of its write-ahead log
pub record Part (S : Type 0) : Type 0 where
  pub up : Option S
  pub log : List Record
