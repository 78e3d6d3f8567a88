-- What is kept and held of a log, said by the look-ups on the log alone.
use Rattle.std.specs.Prelude.{◌≡◌, ◌<◌, ◌↔◌, ◌++◌, List, [], ◌∷◌, length, Contains, true, Some}
use Rattle.tp_types.specs.Each.{Each}
use Rattle.tp_model.specs.Words.{AdminId, Prepared, Record, Scenario, ServerId, Settled, TxnId}
use Rattle.tp_model.specs.Words.log
use Rattle.tp_store.specs.Rule.{known_at_first}
use Rattle.tp_recover.specs.declared.kept.Kept.{Kept}
use Rattle.tp_recover.specs.declared.answer.Held.{Held}
use Rattle.tp_model.specs.ByAge.{are_rising}
use Rattle.tp_recover.specs.Kept.{kept, kept_step, of_txn, version_at}
use Rattle.tp_recover.specs.Log.{decided_in, epoch_in, known_in, prepared_in, settled_in, settlements_in, values_in, without_boots}

-- a vote or a settlement is of a transaction of the scenario
abbrev pub IsOfScenario : Scenario → Record → Type 0
IsOfScenario sc (log.Prepared p) = p.txn.0 < length sc.txns
IsOfScenario sc (log.Settled s) = s.txn.0 < length sc.txns
IsOfScenario sc _ = Unit {0}

-- ---- what is kept

-- all that is kept is what the log says
pub record SaysLog (sc : Scenario) (at : ServerId) (k : Kept) (records : List Record) : Type 0 where
  pub epoch : k.epoch ≡ epoch_in records
  pub newest : (admin : AdminId) → admin.0 < length k.newest → (version_at k.newest admin.0).0
      ≡ known_in (version_at (known_at_first sc at) admin.0).0 admin records
  pub values : k.values ≡ values_in sc records
  pub prepared : (txn : TxnId) → txn.0 < length sc.txns
      → of_txn k.prepared txn ≡ prepared_in txn records
  pub settled : (txn : TxnId) → txn.0 < length sc.txns
      → of_txn k.settled txn ≡ settled_in txn records
  pub in_order : k.in_order ≡ settlements_in records
  -- an administrator for each first version, and a place for each transaction
  pub admins : length k.newest ≡ length (known_at_first sc at)
  pub prepared_places : length k.prepared ≡ length sc.txns
  pub settled_places : length k.settled ≡ length sc.txns

-- it stays so with each record, if what that names of transactions is of the scenario
abbrev pub StepSaysLog : Type 0
StepSaysLog =
    (sc : Scenario) (at : ServerId) (k : Kept) (records : List Record) (next : Record)
    → SaysLog sc at k records → IsOfScenario sc next
    → SaysLog sc at (kept_step k next) (records ++ next ∷ [])

-- so it is of every log whose records name transactions of the scenario alone
abbrev pub KeptSaysLog : Type 0
KeptSaysLog =
    (sc : Scenario) (at : ServerId) (records : List Record) → Each (IsOfScenario sc) records
    → SaysLog sc at (kept sc at records) records

-- ---- boots apart

-- a boot counts in the epoch alone: all else that is kept is what the other records come to
abbrev pub KeptApart : Type 0
KeptApart =
    (sc : Scenario) (at : ServerId) (records : List Record)
    → kept sc at records ≡ record (kept sc at (without_boots records)) { epoch = epoch_in records }

-- nor does a boot decide
abbrev pub DecidedApart : Type 0
DecidedApart =
    (records : List Record) → decided_in (without_boots records) ≡ decided_in records

-- ---- what is answered

-- all that is answered is what the log says
pub record HeldSays (sc : Scenario) (at : ServerId) (h : Held) (records : List Record) : Type 0 where
  pub epoch : h.epoch ≡ epoch_in records
  -- an administrator for each first version, and of each the greatest that is told
  pub admins : length h.newest ≡ length (known_at_first sc at)
  pub newest : (admin : AdminId) → admin.0 < length h.newest → (version_at h.newest admin.0).0
      ≡ known_in (version_at (known_at_first sc at) admin.0).0 admin records
  pub values : h.values ≡ values_in sc records
  -- a vote is listed exactly where it is prepared of its transaction; the older first, and of one age by transaction
  pub prepared : (p : Prepared) → Contains h.prepared p ↔ (prepared_in p.txn records ≡ Some p)
  pub rising : are_rising h.prepared ≡ true
  -- a settlement is listed exactly where it is the first of its transaction, and in the order of the log
  pub settled : (s : Settled) → Contains h.settled s ↔ (settled_in s.txn records ≡ Some s)
  pub in_order : h.settled ≡ settlements_in records
