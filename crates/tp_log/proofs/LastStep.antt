-- The last of several calls.
use Rattle.std.proofs.Common.{inl, inr, ℕ, List, [], ◌∷◌, Result, Ok, Err, refl}
use Rattle.tp_device.specs.Disks.{Call, DiskState}
use Rattle.tp_device.specs.declared.disk.DiskError.{DiskError}
use Rattle.tp_log.specs.mirrors.Steps.{Step, Steps}

module _ {D : Type 0} (state : D → DiskState) (left_since : D → D → List ℕ → Type 0) (does : D → Call → Result (Unit {0}) DiskError → D → Type 0) (faults : D → ℕ) where
  pub last_step : (call : Call) (old : D) (result : Result (Unit {0}) DiskError) (new : D) → Step state left_since does faults call old result new → Steps state left_since does faults (call ∷ []) old result new
  last_step call old (Ok _) new step = inl (new, step, refl)
  last_step call old (Err e) new step = inr (e, step, refl)
