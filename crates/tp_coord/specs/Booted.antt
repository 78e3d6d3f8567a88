-- A coordinator that boots: what it is by its log, and its row. What it had gathered before it decided is lost.
use Rattle.std.specs.Prelude.{List, Option, Some, None}
use Rattle.tp_types.specs.Effect.{Effect, sends}
use Rattle.tp_model.specs.Facts.{outcome_of}
use Rattle.tp_model.specs.Words.cause
use Rattle.tp_model.specs.Words.{Decision, Outcome, Record, Scenario, TxnId}
use Rattle.tp_recover.specs.Log.{decided_in}
use Rattle.tp_coord.specs.Opened.{idle}
use Rattle.tp_coord.specs.Row.{aborts, decide_letters}
use Rattle.tp_coord.specs.State.{Coordinator}
use Rattle.tp_coord.specs.declared.coordinator.Phase.TheVariants as phase

-- a coordinator that has decided so, and knows of no acknowledgement
abbrev pub ending : Scenario → TxnId → Outcome → Coordinator
ending sc txn outcome =
    record (idle sc txn) { phase = phase.Ending outcome (idle sc txn).servers }

-- what was decided is sent to all servers again, without a record; where nothing was, the transaction aborts
abbrev pub boot_by : Scenario → TxnId → Option Decision → Effect Coordinator
boot_by sc txn None = aborts (idle sc txn) cause.Halted
boot_by sc txn (Some decided) =
    sends (ending sc txn (outcome_of decided))
    (decide_letters (idle sc txn) (outcome_of decided) (idle sc txn).servers)

abbrev pub boot_row : Scenario → TxnId → List Record → Effect Coordinator
boot_row sc txn records = boot_by sc txn (decided_in records)
