-- What was read of an actor's log.
use Rattle.std.specs.Prelude.{◌≡◌, ◌+◌, ◌<◌, ◌^◌, ◌++◌, List, length}
use Rattle.tp_device.specs.Memory.{Memory}
use Rattle.tp_log.specs.Images.{blocks}
use Rattle.tp_log.specs.Logs.{LogState}
use Rattle.tp_recover.specs.Log.{boots_in, without_boots}
use Rattle.tp_types.specs.declared.records.Record.{Record}
use Rattle.tp_actor_log.specs.declared.past.Past.{Past}
use Rattle.tp_actor_log.specs.mirrors.Disks.{IsForced, records_on}

-- these are the records up to a gate: so many boots, and the others
pub record IsPast (past : Past) (records : List Record) : Type 0 where
  pub before : List Record
  pub more : List Record
  pub parts : records ≡ before ++ more
  pub place_is : past.place ≡ length (blocks before)
  pub boots_are : past.boots ≡ boots_in before
  pub others_are : past.others ≡ without_boots before

-- so it was read of a log on a disk
pub record IsReadOf (past : Past) (log : LogState Memory) : Type 0 where
  pub disk : IsForced log
  pub so_far : IsPast past (records_on log)

-- nothing is left to be read, and one more boot can be counted
pub record IsWhole (past : Past) (records : List Record) : Type 0 where
  pub boots_are : past.boots ≡ boots_in records
  pub others_are : past.others ≡ without_boots records
  pub few : past.boots + 2 < 2 ^ 64
