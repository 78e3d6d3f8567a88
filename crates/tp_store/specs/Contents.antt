-- What a store has.
use Rattle.std.specs.Prelude.{List, ℤ}
use Rattle.tp_model.specs.Words.{Version}
use Rattle.tp_store.specs.declared.writes.Bounds.{Bounds}
use Rattle.tp_store.specs.declared.writes.TentativeWrite.{TentativeWrite}

pub record Contents : Type 0 where
  -- the range of each item of the scenario
  pub bounds : List Bounds
  -- the value of each item, which all that is applied has given it
  pub values : List ℤ
  -- the newest version known of each administrator
  pub known : List Version
  -- the writes of each transaction that are neither applied nor forgotten
  pub tentative : List (List TentativeWrite)
