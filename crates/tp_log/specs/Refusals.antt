-- What a refusal of a log says.
use Rattle.std.specs.Prelude.{◌≡◌, ◌<◌, ℕ, Bool, true, false, length}
use Rattle.tp_types.specs.declared.records.Record.{Record}
use Rattle.tp_record.specs.Spelling.{spelling}
use Rattle.tp_log.specs.Appends.{body_max}
use Rattle.tp_device.specs.declared.disk.DiskError.{DiskError}
use Rattle.tp_device.specs.declared.disk.DiskError.TheVariants as disk_errors
use Rattle.tp_log.specs.declared.error.LogError.{LogError}
use Rattle.tp_log.specs.declared.error.LogError.TheVariants as errors

-- what a disk's refusal is to a log
abbrev pub log_error : DiskError → LogError
log_error disk_errors.Failed = errors.Device
log_error disk_errors.NoMemory = errors.NoMemory

-- a fact of the place at which an image is no log. `opened` answers neither Closed nor TooLong
abbrev pub IfNotALog : LogError → (ℕ → Type 0) → Type 0
IfNotALog (errors.NotALog place) P = P place
IfNotALog errors.Device P = Unit {0}
IfNotALog errors.NoMemory P = Unit {0}
IfNotALog errors.Closed P = ⊥
IfNotALog errors.TooLong P = ⊥

-- a disk refused a call: only where it counted a fault, or for want of memory
abbrev pub IfDevice : LogError → Type 0 → Type 0
IfDevice errors.Device P = P
IfDevice errors.NoMemory P = Unit {0}
IfDevice (errors.NotALog place) P = ⊥
IfDevice errors.Closed P = ⊥
IfDevice errors.TooLong P = ⊥

-- a record is too long, or memory was refused
abbrev pub IfTooLong : LogError → Type 0 → Type 0
IfTooLong errors.TooLong P = P
IfTooLong errors.NoMemory P = Unit {0}
IfTooLong errors.Device P = ⊥
IfTooLong (errors.NotALog place) P = ⊥
IfTooLong errors.Closed P = ⊥

-- an append that makes no call, or is refused memory: the log is closed, or the record is too long
abbrev pub IfUncalled : LogError → Bool → Record → Type 0
IfUncalled errors.Closed closed r = closed ≡ true
IfUncalled errors.TooLong closed r = (closed ≡ false) × (body_max < length (spelling r))
IfUncalled errors.NoMemory closed r = closed ≡ false
IfUncalled errors.Device closed r = ⊥
IfUncalled (errors.NotALog place) closed r = ⊥
