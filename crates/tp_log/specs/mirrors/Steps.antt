-- Several calls of a disk, one after the other, with all that the disk says of each.
use Rattle.std.specs.Prelude.{◌≡◌, ◌⊎◌, ℕ, ◌+◌, List, [], ◌∷◌, Result, Ok, Err}
use Rattle.tp_device.specs.Disks.{Call, Sync, Write, DiskState, CallEffect, Passes}
use Rattle.tp_device.specs.Faults.{HasCause}
use Rattle.tp_device.specs.declared.disk.DiskError.{DiskError}

-- the calls of an append at a gate
abbrev pub forced_calls : ℕ → List ℕ → List Call
forced_calls gate bytes = Write (gate + 1) bytes ∷ Sync ∷ Write gate (1 ∷ []) ∷ Sync ∷ []

module _ {D : Type 0} (state : D → DiskState) (left_since : D → D → List ℕ → Type 0) (does : D → Call → Result (Unit {0}) DiskError → D → Type 0) (faults : D → ℕ) where
  pub record Step (call : Call) (old : D) (result : Result (Unit {0}) DiskError) (new : D) : Type 0 where
    pub effect : CallEffect call (state old) result (state new)
    pub call_is : does old call result new
    pub cause : HasCause (faults old) (faults new) result
    pub time : Passes state left_since old new

  -- the calls that passed, and then none, or one that was refused
  abbrev pub Steps : List Call → D → Result (Unit {0}) DiskError → D → Type 0
  Steps [] old (Ok _) new = new ≡ old
  Steps [] old (Err _) new = ⊥
  Steps (call ∷ calls) old result new =
      ((mid : D) × Step call old (Ok tt) mid × Steps calls mid result new)
      ⊎ ((e : DiskError) × Step call old (Err e) new × (result ≡ Err e))
