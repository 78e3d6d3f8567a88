-- What an actor's disk holds of its log.
use Rattle.std.specs.Prelude.{◌≡◌, List, None, false}
use Rattle.tp_device.specs.Disks.{clean_state}
use Rattle.tp_device.specs.Memory.{Memory, disk_of}
use Rattle.tp_log.specs.Found.{records_in}
use Rattle.tp_log.specs.Images.{Gives}
use Rattle.tp_log.specs.Logs.{Keeps, LogState}
use Rattle.tp_types.specs.declared.records.Record.{Record}

-- the records that the bytes of a log's disk give
abbrev pub records_on : LogState Memory → List Record
records_on log = records_in log.disk.disk.seen

-- the disk of an actor's log: its bytes give records, nothing on it is unsynced, and no call of it is stopped. Where the log is open
-- it keeps these records
pub record IsForced (log : LogState Memory) : Type 0 where
  pub gives : Gives log.disk.disk.seen (records_on log)
  pub forced : log.disk.disk ≡ clean_state log.disk.disk.seen
  pub running : log.disk.left ≡ None
  pub keeps : log.closed ≡ false → Keeps disk_of log (records_on log)
