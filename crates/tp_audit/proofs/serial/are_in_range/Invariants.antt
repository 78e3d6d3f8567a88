use Rattle.std.proofs.Common.{◌≡◌, drop}
use Rattle.tp_model.specs.SerialRun.{are_in_range}
use Rattle.tp_audit.proofs.serial.are_in_range.Given as goal

-- the items that are left decide
abbrev pub invariant-loop-at : goal.invariant-loop-at
invariant-loop-at l =
    are_in_range (drop l.at l.items) (drop l.at l.store) ≡ are_in_range l.items l.store
