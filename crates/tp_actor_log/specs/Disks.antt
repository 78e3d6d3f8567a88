-- What a crash may leave of the disk of an actor's log.
use Rattle.std.specs.Prelude.{ℕ, List}
use Rattle.tp_device.specs.Disks.{MayLeave}
use Rattle.tp_device.specs.Memory.{Memory}
use Rattle.tp_log.specs.Images.{Gives}
use Rattle.tp_model.specs.Words.{Record}

-- every image that a crash may leave of the disk gives exactly these records
abbrev pub IsDiskOf : Memory → List Record → Type 0
IsDiskOf disk records = (image : List ℕ) → MayLeave disk.disk image → Gives image records
