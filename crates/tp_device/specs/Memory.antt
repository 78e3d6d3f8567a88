-- The disk in memory.
use Rattle.std.specs.Prelude.{◌≡◌, ◌⊎◌, ℕ, ◌+◌, ◌-◌, min, List, [], ◌∷◌, ◌++◌, length, take, drop, replicate, Option, Some, None, Result, Ok, Err, option_map}
use Rattle.tp_device.specs.Disks.{Call, Write, Cut, Sync, DiskState, MayLeave, after_cut, clean_state, after_sync, after_write}
use Rattle.tp_types.specs.Faults.{one_more}
use Rattle.tp_device.specs.declared.disk.DiskError.{DiskError}
use Rattle.tp_device.specs.declared.disk.DiskError.TheVariants as errors
use Rattle.tp_device.specs.declared.span.Span.{Span}

-- the disk, how many calls still pass where there is a limit, and how many faults there have been
pub record Memory : Type 0 where
  pub disk : DiskState
  pub left : Option ℕ
  pub faults : ℕ

abbrev pub disk_of : Memory → DiskState
disk_of m = m.disk

-- a disk in memory keeps no past: of the images that a crash between two of its states might have left
-- it tells those of the two
abbrev pub left_at_ends : Memory → Memory → List ℕ → Type 0
left_at_ends start now image = MayLeave start.disk image ⊎ MayLeave now.disk image

-- one byte, which is 0
abbrev pub fresh : Memory
fresh = record { disk = clean_state (0 ∷ []); left = None; faults = 0 }

-- ---- calls

-- one call fewer passes
abbrev pub fewer_calls : Option ℕ → Option ℕ
fewer_calls left = option_map (λ calls. calls - 1) left

-- a call that passed, after which the disk is so
abbrev pub after_pass : DiskState → Memory → Memory
after_pass disk m = record { disk = disk; left = fewer_calls m.left; faults = m.faults }

-- a call that was stopped changes nothing but the count of faults
abbrev pub after_stop : Memory → Memory
after_stop m = record m { faults = one_more m.faults }

-- a call passes where none is stopped, and leaves the disk so. It may also be refused memory, which changes nothing
abbrev pub Calls : {T : Type 0} → DiskState → Memory → Result T DiskError → Memory → Type 0
Calls disk old (Ok _) new = (old.left ≡ Some 0 → ⊥) × (new ≡ after_pass disk old)
Calls disk old (Err errors.Failed) new = (old.left ≡ Some 0) × (new ≡ after_stop old)
Calls disk old (Err errors.NoMemory) new = (old.left ≡ Some 0 → ⊥) × (new ≡ old)

-- a call that changes the disk
abbrev pub does : Memory → Call → Result (Unit {0}) DiskError → Memory → Type 0
does old (Write at piece) result new = Calls (after_write at piece old.disk) old result new
does old (Cut len) result new = Calls (after_cut len old.disk) old result new
does old Sync result new = Calls (after_sync old.disk) old result new

-- ---- crashes

-- the bytes of one range, as far as there are such, read fill
abbrev pub with_blank : ℕ → List ℕ → Span → List ℕ
with_blank fill seen span =
    let from = min span.at (length seen) in
    let to = min (span.at + span.len) (length seen) in
    take from seen ++ (replicate (to - from) fill ++ drop to seen)

-- each byte that was written since the last sync reads fill
abbrev pub with_blanks : ℕ → List ℕ → List Span → List ℕ
with_blanks fill seen [] = seen
with_blanks fill seen (span ∷ spans) = with_blanks fill (with_blank fill seen span) spans

-- the disk after a crash
abbrev pub after_crash : ℕ → Memory → Memory
after_crash fill m = record {
  disk = clean_state (with_blanks fill m.disk.seen m.disk.written);
  left = None;
  faults = m.faults;
}
