-- A crash in place of a disk in memory.
use Rattle.std.proofs.Common.{◌≡◌, ℕ, List, [], None, sym, ap, ◌∙◌}
use Rattle.tp_device.specs.Disks.{DiskState, clean_state}
use Rattle.tp_device.specs.Memory.{Memory, after_crash, with_blanks}
use Rattle.tp_device.specs.declared.span.Span.{Span}

abbrev at_rest : Memory → DiskState → Memory
at_rest m disk = record { disk = disk; left = None; faults = m.faults }

-- where nothing is unsynced the bytes stay
pub crash_clean : (fill : ℕ) (m : Memory) → m.disk ≡ clean_state m.disk.seen → after_crash fill m ≡ record m { left = None }
crash_clean fill m forced =
    let none : m.disk.written ≡ [] = ap (λ (s : DiskState). s.written) forced in
    ap (λ (spans : List Span). at_rest m (clean_state (with_blanks fill m.disk.seen spans))) none ∙ ap (at_rest m) (sym forced)
