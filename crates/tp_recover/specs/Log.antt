-- What a log says: look-ups on the list of its records, and the values that it leaves.
use Rattle.std.specs.Prelude.{ℕ, ℤ, max, ◌+◌, ◌++◌, ◌||◌, List, [], ◌∷◌, slice_get, Bool, Option, Some, None, is_some, if◌then◌else◌}
use Rattle.std.specs.Option.{option_map_or, option_or}
use Rattle.tp_model.specs.Words.{AdminId, Decision, Deed, Outcome, Prepared, Record, Scenario, Settled, TxnId, Version}
use Rattle.tp_model.specs.Words.log
use Rattle.tp_model.specs.Words.outcome
use Rattle.tp_model.specs.Ids.{same_admin, same_txn}
use Rattle.tp_model.specs.SerialRun.{opening_store, with_deeds}

-- ---- a coordinator's log

abbrev pub decision_in : Record → Option Decision
decision_in (log.Decided d) = Some d.decision
decision_in _ = None

-- the first decision
abbrev pub decided_in : List Record → Option Decision
decided_in [] = None
decided_in (first ∷ kept) = option_or (decision_in first) (decided_in kept)

-- ---- a server's log

abbrev pub settlement_in : TxnId → Record → Option Settled
settlement_in txn (log.Settled s) = if same_txn s.txn txn then Some s else None
settlement_in txn _ = None

-- how the transaction was settled first
abbrev pub settled_in : TxnId → List Record → Option Settled
settled_in txn [] = None
settled_in txn (first ∷ kept) = option_or (settlement_in txn first) (settled_in txn kept)

-- a settlement that no settlement of the same transaction stands before
abbrev pub first_settlement : List Record → Record → List Settled
first_settlement before (log.Settled s) = if is_some (settled_in s.txn before) then [] else s ∷ []
first_settlement before _ = []

abbrev pub settlements_from : List Record → List Record → List Settled
settlements_from before [] = []
settlements_from before (first ∷ kept) =
    first_settlement before first ++ settlements_from (before ++ first ∷ []) kept

-- how each transaction was settled first, in the order of the log
abbrev pub settlements_in : List Record → List Settled
settlements_in kept = settlements_from [] kept

abbrev pub preparation_in : TxnId → Record → Option Prepared
preparation_in txn (log.Prepared p) = if same_txn p.txn txn then Some p else None
preparation_in txn _ = None

-- the transaction's last vote YES
abbrev pub voted_in : TxnId → List Record → Option Prepared
voted_in txn [] = None
voted_in txn (first ∷ kept) = option_or (voted_in txn kept) (preparation_in txn first)

abbrev pub while_unsettled : Option Settled → Option Prepared → Option Prepared
while_unsettled None voted = voted
while_unsettled (Some s) voted = None

-- what is prepared: the last vote YES of a transaction that is not settled
abbrev pub prepared_in : TxnId → List Record → Option Prepared
prepared_in txn kept = while_unsettled (settled_in txn kept) (voted_in txn kept)

abbrev pub is_prepared_or_settled : Option Settled → Option Prepared → Bool
is_prepared_or_settled settled voted = is_some (while_unsettled settled voted) || is_some settled

-- the transaction is prepared or settled, which no later record undoes
abbrev pub has_voted : TxnId → List Record → Bool
has_voted txn kept = is_prepared_or_settled (settled_in txn kept) (voted_in txn kept)

-- how often the server was booted
abbrev pub boots_in : List Record → ℕ
boots_in [] = 0
boots_in (log.Boot ∷ kept) = boots_in kept + 1
boots_in (first ∷ kept) = boots_in kept

-- the other records, in their order
abbrev pub without_boots : List Record → List Record
without_boots [] = []
without_boots (log.Boot ∷ kept) = without_boots kept
without_boots (first ∷ kept) = first ∷ without_boots kept

-- the server's epoch: one, and one more for each boot
abbrev pub epoch_in : List Record → ℕ
epoch_in kept = boots_in kept + 1

-- the number of the version of an administrator that a record tells; 0 where it tells none
abbrev pub told_in : AdminId → Record → ℕ
told_in admin (log.Told t) = if same_admin t.admin admin then t.version.0 else 0
told_in admin (log.Prepared p) = option_map_or (λ (version : Version). version.0) (slice_get p.told admin.0) 0
told_in admin _ = 0

-- the greatest that is told of an administrator, or the first where no record tells a greater
abbrev pub known_in : ℕ → AdminId → List Record → ℕ
known_in first admin [] = first
known_in first admin (earliest ∷ kept) = max (told_in admin earliest) (known_in first admin kept)

-- ---- what settled commits leave

-- the deeds of what is prepared; none where nothing is
abbrev pub deeds_of_prepared : Option Prepared → List Deed
deeds_of_prepared None = []
deeds_of_prepared (Some p) = p.deeds

-- a commit's deeds leave their values, an abort's leave nothing
abbrev pub values_by : List ℤ → Outcome → List Deed → List ℤ
values_by values outcome.Commit deeds = with_deeds values deeds
values_by values outcome.Abort deeds = values

-- a transaction is settled once: its first settlement ends what is prepared of it
abbrev pub ended_first : List ℤ → Outcome → Option Settled → Option Prepared → List ℤ
ended_first values ended None prepared = values_by values ended (deeds_of_prepared prepared)
ended_first values ended (Some before) prepared = values

-- the values after one more record
abbrev pub value_step : List ℤ → List Record → Record → List ℤ
value_step values before (log.Settled s) =
    ended_first values s.outcome (settled_in s.txn before) (prepared_in s.txn before)
value_step values before _ = values

abbrev pub values_from : List ℤ → List Record → List Record → List ℤ
values_from values before [] = values
values_from values before (first ∷ kept) =
    values_from (value_step values before first) (before ++ first ∷ []) kept

-- the values of all items of the scenario as the log leaves them: each settled commit has applied what was prepared of it
abbrev pub values_in : Scenario → List Record → List ℤ
values_in sc kept = values_from (opening_store sc) [] kept
