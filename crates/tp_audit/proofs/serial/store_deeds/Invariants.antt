use Rattle.std.proofs.Common.{◌≡◌, drop}
use Rattle.tp_model.specs.SerialRun.{with_deeds}
use Rattle.tp_audit.proofs.serial.store_deeds.Given as goal

-- the deeds that are left
abbrev pub invariant-loop-deed : goal.invariant-loop-deed
invariant-loop-deed l =
    with_deeds l.store (drop l.deed-index l.deeds) ≡ with_deeds l.initial.store l.deeds
