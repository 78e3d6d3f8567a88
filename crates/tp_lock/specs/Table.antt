-- What a table of locks shows.
use Rattle.std.specs.Prelude.{List}
use Rattle.tp_lock.specs.declared.entry.Grant.{Grant}
use Rattle.tp_lock.specs.declared.entry.LockEntry.{LockEntry}

-- a list of entries for each item, by its number, and the grants that nobody has taken
pub record Table : Type 0 where
  pub lists : List (List LockEntry)
  pub grants : List Grant
