-- The passes of callers.
use Rattle.std.specs.Prelude.{◌≡◌, false}
use Rattle.atomic_table.specs.Seated.{TableId}
use Rattle.tp_model.specs.Words.{Scenario}
use Rattle.tp_wire.specs.Passes.{Known}
use Rattle.tp_cluster.specs.Calls.{IsCaller}

-- the pass is of this table, and a caller's where it is not given up
pub record IsOfCaller (sc : Scenario) (table : TableId) (p : Known) : Type 0 where
  pub site : p.table ≡ table
  pub caller : p.given_up ≡ false → IsCaller sc p.view
