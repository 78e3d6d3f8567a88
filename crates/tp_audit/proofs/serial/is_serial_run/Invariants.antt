use Rattle.std.proofs.Common.{◌≡◌, drop, length}
use Rattle.std.specs.Cmp.Lexicographic.{pointwise}
use Rattle.tp_model.specs.SerialRun.{same_deed, serial_run, with_deeds}
use Rattle.tp_audit.proofs.SerialLemmas.{runs_from}
use Rattle.tp_audit.proofs.serial.is_serial_run.Given as goal

-- the queries and deeds that are left decide, and change the store that there is
abbrev pub invariant-loop-at : goal.invariant-loop-at
invariant-loop-at l =
    record {
      complete : length l.deeds ≡ length l.txn.queries;
      same : runs_from l.at l.deeds l.txn.queries l.registers l.store ≡ pointwise same_deed l.deeds (serial_run l.txn l.initial.store);
      stored : with_deeds l.store (drop l.at l.deeds) ≡ with_deeds l.initial.store l.deeds;
    }
