-- What opening a log does to its disk.
use Rattle.std.specs.Prelude.{◌≡◌, ◌⊎◌, ◌<◌, ◌≤◌, ℕ, List, [], ◌∷◌, length, Result, Ok, Err}
use Rattle.tp_device.specs.Disks.{Call, DiskState, LeavesOnly, MayLeave, Passes, Sync, Write, after_sync, clean_state}
use Rattle.tp_device.specs.declared.disk.DiskError.{DiskError}
use Rattle.tp_device.specs.declared.disk.DiskError.TheVariants as disk_errors
use Rattle.tp_types.specs.Faults.{Rose}
use Rattle.tp_log.specs.Logs.{Makes}

-- the images that a crash leaves while a log is opened: those that it might have left before, and the bytes
-- that a read gives. Where those are at most one byte it may leave any image of at most one byte
abbrev pub LeftOpening : DiskState → List ℕ → Type 0
LeftOpening s image =
    MayLeave s image ⊎ ((image ≡ s.seen) ⊎ ((length s.seen ≤ 1) × (length image ≤ 1)))

-- a closed gate on a disk of at most one byte
abbrev pub gate_calls : List Call
gate_calls = Write 0 (0 ∷ []) ∷ Sync ∷ []

module _ {D : Type 0} (state : D → DiskState) (left_since : D → D → List ℕ → Type 0) (does : D → Call → Result (Unit {0}) DiskError → D → Type 0) (faults : D → ℕ) where
  -- as much as a disk tells of a read of it, whatever it answered
  pub record Reads (old new : D) : Type 0 where
    pub same : state new ≡ state old
    pub later : faults old ≤ faults new
    pub time : Passes state left_since old new

  -- the disk is synced, read, and where it has at most one byte given a closed gate. A longer one is as a sync leaves it
  pub record Opens (old new : D) : Type 0 where
    pub first : D
    pub sync : does old Sync (Ok tt) first
    pub then : D
    pub read : Reads first then
    pub calls : ((1 < length (state old).seen) × (new ≡ then))
        ⊎ ((length (state old).seen ≤ 1) × Makes does gate_calls then (Ok tt) new)
    pub long : 1 < length (state old).seen → state new ≡ after_sync (state old)
    pub short : length (state old).seen ≤ 1 → state new ≡ clean_state (0 ∷ [])
    pub moments : LeavesOnly left_since old new (LeftOpening (state old))
    pub later : faults old ≤ faults new

  -- one of these calls was refused, and a fault one_more
  pub record GivesUp (old gone : D) : Type 0 where
    pub calls : does old Sync (Err disk_errors.Failed) gone
        ⊎ ((first : D) × does old Sync (Ok tt) first × (then : D) × Reads first then
        × ((gone ≡ then)
        ⊎ ((length (state old).seen ≤ 1) × Makes does gate_calls then (Err disk_errors.Failed) gone)))
    pub moments : LeavesOnly left_since old gone (LeftOpening (state old))
    pub fault : Rose (faults old) (faults gone)
