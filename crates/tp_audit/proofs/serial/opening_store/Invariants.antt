use Rattle.std.proofs.Common.{◌≡◌, map, take}
use Rattle.tp_model.specs.SerialRun.{opening_value}
use Rattle.tp_audit.proofs.serial.opening_store.Given as goal

-- the values of the items so far
abbrev pub invariant-loop-item : goal.invariant-loop-item
invariant-loop-item l =
    l.made ≡ map opening_value (take l.item-index l.scenario.items)
