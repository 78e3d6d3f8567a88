use Rattle.std.proofs.Common.{◌≡◌, drop}
use Rattle.std.specs.List.{list_all}
use Rattle.tp_model.specs.SerialRun.{is_serial, keeps_serial}
use Rattle.tp_audit.proofs.serial.is_serial.Given as goal

-- the facts that are left decide
abbrev pub invariant-loop-fact : goal.invariant-loop-fact
invariant-loop-fact l =
    list_all (keeps_serial l.scenario l.facts) (drop l.fact-index l.facts) ≡ is_serial l.scenario l.facts
