-- A pass with which a step may be posted and a mail be taken.
use Rattle.std.specs.Prelude.{◌≡◌, ℕ, [], length, false}
use Rattle.atomic_table.specs.Seated.{TableId}
use Rattle.tp_wire.specs.History.{times_below, numbers_of}
use Rattle.tp_wire.specs.Passes.{Known}

-- the name of no table
abbrev pub no_table : TableId
no_table = record { words = 0; slots = 0; views_name = 0; atom = 0; block = 0; offset = 0; slot_names = [] }

-- it is of this table, not given up, and has one part, which is an actor's
pub record IsReady (table : TableId) (actors : ℕ) (p : Known) : Type 0 where
  pub site : p.table ≡ table
  pub live : p.given_up ≡ false
  pub part : length p.view.parts ≡ 1
  pub actor : times_below actors (numbers_of p.view.parts) ≡ 1
