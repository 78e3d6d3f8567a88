-- What a server's log comes to, record by record.
use Rattle.std.specs.Prelude.{ℕ, ◌+◌, ◌++◌, List, [], ◌∷◌, fold, length, replicate, slice_get, slice_set, Option, Some, None, unwrap_or}
use Rattle.std.specs.Option.{option_flatten}
use Rattle.tp_model.specs.Words.{Prepared, Record, Scenario, ServerId, Settled, TxnId, Version}
use Rattle.tp_model.specs.Words.log
use Rattle.tp_model.specs.SerialRun.{opening_store}
use Rattle.tp_store.specs.Rule.{greater, known_at_first}
use Rattle.tp_recover.specs.declared.kept.Kept.{Kept}
use Rattle.tp_recover.specs.Log.{deeds_of_prepared, values_by}

-- what a table has of a transaction; nothing where it has no place for it
abbrev pub of_txn : {A : Type 0} → List (Option A) → TxnId → Option A
of_txn table txn = option_flatten (slice_get table txn.0)

-- ---- before the first record

-- the first epoch, what the server knows at first, and the opening value of each item
abbrev pub kept_first : Scenario → ServerId → Kept
kept_first sc at = record {
  epoch = 1;
  newest = known_at_first sc at;
  values = opening_store sc;
  prepared = replicate (length sc.txns) None;
  settled = replicate (length sc.txns) None;
  in_order = [];
}

-- ---- versions that are told

-- the version known of an administrator; the first where there is no such administrator
abbrev pub version_at : List Version → ℕ → Version
version_at newest admin = unwrap_or (slice_get newest admin) (record { 0 = 1 })

-- of the version known of an administrator and of one that is told the greater is known
abbrev pub with_told : List Version → ℕ → Version → List Version
with_told newest admin version = slice_set newest admin (greater (version_at newest admin) version)

-- the same of each administrator, where a list tells one version of each
abbrev pub with_all_told : List Version → List Version → List Version
with_all_told [] told = []
with_all_told (known ∷ newest) [] = known ∷ newest
with_all_told (known ∷ newest) (version ∷ told) = greater known version ∷ with_all_told newest told

-- ---- one more record

-- what a vote tells of versions is learnt
abbrev pub kept_told : Kept → List Version → Kept
kept_told k told = record k { newest = with_all_told k.newest told }

-- a vote, by how its transaction was settled before
abbrev pub kept_vote : Kept → Prepared → Option Settled → Kept
kept_vote k p None = record k { prepared = slice_set k.prepared p.txn.0 (Some p) }
kept_vote k p (Some before) = k

-- a vote is prepared in the place of an earlier one; a vote of a transaction that is settled prepares nothing
abbrev pub with_vote : Kept → Prepared → Kept
with_vote k p = kept_vote k p (of_txn k.settled p.txn)

-- a settlement, by how its transaction was settled before
abbrev pub kept_end : Kept → Settled → Option Settled → Kept
kept_end k s None = record k {
  values = values_by k.values s.outcome (deeds_of_prepared (of_txn k.prepared s.txn));
  prepared = slice_set k.prepared s.txn.0 None;
  settled = slice_set k.settled s.txn.0 (Some s);
  in_order = k.in_order ++ s ∷ [];
}
kept_end k s (Some before) = k

-- the first settlement ends what is prepared of its transaction, and a commit leaves its values; a second changes nothing
abbrev pub with_end : Kept → Settled → Kept
with_end k s = kept_end k s (of_txn k.settled s.txn)

abbrev pub kept_step : Kept → Record → Kept
kept_step k log.Boot = record k { epoch = k.epoch + 1 }
kept_step k (log.Told t) = record k { newest = with_told k.newest t.admin.0 t.version }
kept_step k (log.Prepared p) = with_vote (kept_told k p.told) p
kept_step k (log.Settled s) = with_end k s
kept_step k (log.Decided d) = k

-- what the whole log comes to
abbrev pub kept : Scenario → ServerId → List Record → Kept
kept sc at records = fold kept_step (kept_first sc at) records
