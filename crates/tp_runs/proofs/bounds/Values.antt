-- Bounds, the values of items: those that a server's log leaves are in range, since a commit that is settled was tested when it was prepared.
use Rattle.std.proofs.Common.{List, None, Option, Some, ap, refl, true, ℤ, ◌∙◌, ◌≡◌}
use Rattle.tp_model.specs.SerialRun.{are_in_range}
use Rattle.tp_model.specs.Words.log
use Rattle.tp_model.specs.Words.outcome
use Rattle.tp_model.specs.Words.{Outcome, Prepared, Record, Scenario, Settled, TxnId}
use Rattle.tp_runs.proofs.deeds.Ranges.{AreTested, stored_in_range}
use Rattle.tp_runs.proofs.serial_data.OnLog.{values_after, values_grown}
use Rattle.tp_recover.specs.Log.{ended_first, prepared_in, settled_in, values_in}
use Rattle.tp_actor_log.specs.Records.{log_with}

-- what is prepared on a log was tested against the ranges of items
abbrev pub IsTestedLog : Scenario → List Record → Type 0
IsTestedLog sc kept = (txn : TxnId) (p : Prepared) → prepared_in txn kept ≡ Some p → AreTested sc p.deeds

ended_in_range : (sc : Scenario) (values : List ℤ) (ended : Outcome) (before : Option Settled) (prepared : Option Prepared) → are_in_range sc.items values ≡ true → ((p : Prepared) → prepared ≡ Some p → AreTested sc p.deeds)
    → are_in_range sc.items (ended_first values ended before prepared) ≡ true
ended_in_range sc values ended (Some s) prepared range tested = range
ended_in_range sc values outcome.Abort None prepared range tested = range
ended_in_range sc values outcome.Commit None None range tested = range
ended_in_range sc values outcome.Commit None (Some p) range tested = stored_in_range sc values p.deeds (tested p refl) range

-- values in range stay so after a record
pub grown_in_range : (sc : Scenario) (values : List ℤ) (kept : List Record) (append : Option Record) → IsTestedLog sc kept → are_in_range sc.items values ≡ true → are_in_range sc.items (values_grown values kept append) ≡ true
grown_in_range sc values kept None tested range = range
grown_in_range sc values kept (Some (log.Settled r)) tested range =
    ended_in_range sc values r.outcome (settled_in r.txn kept) (prepared_in r.txn kept) range (λ p e. tested r.txn p e)
grown_in_range sc values kept (Some (log.Prepared p)) tested range = range
grown_in_range sc values kept (Some (log.Decided d)) tested range = range
grown_in_range sc values kept (Some (log.Told t)) tested range = range
grown_in_range sc values kept (Some log.Boot) tested range = range

-- so do those that a log leaves
pub log_in_range : (sc : Scenario) (kept : List Record) (append : Option Record) → IsTestedLog sc kept → are_in_range sc.items (values_in sc kept) ≡ true → are_in_range sc.items (values_in sc (log_with kept append)) ≡ true
log_in_range sc kept append tested range = ap (are_in_range sc.items) (values_after sc kept append) ∙ grown_in_range sc (values_in sc kept) kept append tested range
