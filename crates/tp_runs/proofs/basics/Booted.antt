-- A server that boots, by its log: its entries and its store are those of what is prepared there.
use Rattle.std.proofs.Common.{Bool, List, None, Option, Some, [], ap, arith, length, map, option_map, refl, slice_get, suc, sym, zero, ℕ, ⊎_elim, ◌<◌, ◌∙◌, ◌∷◌, ◌≡◌, ◌≤◌}
use Rattle.std.proofs.lemmas.List.{length-set}
use Rattle.std.proofs.lemmas.Bool.{cases_lt}
use Rattle.std.proofs.lemmas.Option.{same_Some, slice_get_past}
use Rattle.std.specs.Option.{option_flatten}
use Rattle.tp_lock.specs.Rule.{after_request, answer_at, lock_of}
use Rattle.tp_lock.specs.Table.{Table}
use Rattle.tp_lock.specs.declared.entry.LockEntry.{LockEntry}
use Rattle.tp_model.specs.Words.action
use Rattle.tp_model.specs.Words.log
use Rattle.tp_model.specs.Words.{Action, Deed, Letter, Prepared, Record, Scenario, ServerId, Settled, TxnId}
use Rattle.tp_recover.proofs.AgeLemmas.{contains_from, each_member, listed_in_table}
use Rattle.tp_recover.proofs.HeldLemmas.{placed_is, prepared_is, settled_is}
use Rattle.tp_recover.proofs.KeptLemmas.{kept_law}
use Rattle.tp_model.specs.ByAge.{by_age, by_txn}
use Rattle.tp_recover.specs.Kept.{kept, of_txn}
use Rattle.tp_recover.specs.declared.kept.Kept.{Kept}
use Rattle.tp_recover.specs.Laws.{IsOfScenario}
use Rattle.tp_recover.specs.Log.{prepared_in, settled_in}
use Rattle.tp_runs.proofs.basics.Locks.{EachLock, all_added, requested_locks}
use Rattle.tp_runs.proofs.basics.Stores.{EachWrite, one_more_in_basics, writes_set_in_basics}
use Rattle.tp_runs.specs.Sound.{IsSoundServerRecord}
use Rattle.tp_server.specs.Booted.{booted, inquiry, restored, with_deed_kept, with_deeds_kept, with_deeds_locked, with_prepared_kept, with_prepared_locked, write_of}
use Rattle.tp_server.specs.Row.{entry_at}
use Rattle.tp_server.specs.State.{Server}
use Rattle.tp_server.specs.declared.server.Entry.{Entry}
use Rattle.tp_store.specs.Contents.{Contents}
use Rattle.tp_store.specs.Rule.{writes_of}
use Rattle.tp_store.specs.Writes.{with_write}
use Rattle.tp_store.specs.declared.writes.TentativeWrite.{TentativeWrite}
use Rattle.tp_types.proofs.EachLemmas.{each_as}
use Rattle.tp_types.specs.Each.{Each, EachPlaced}

-- ---- the log

record_of_scenario : (sc : Scenario) (at : ServerId) (kept : Record) → IsSoundServerRecord sc at kept → IsOfScenario sc kept
record_of_scenario sc at (log.Prepared p) h = h.txn
record_of_scenario sc at (log.Settled s) h = h.txn
record_of_scenario sc at _ h = tt

-- sound records are of transactions of the scenario
pub records_of_scenario : (sc : Scenario) (at : ServerId) (records : List Record) → Each (IsSoundServerRecord sc at) records → Each (IsOfScenario sc) records
records_of_scenario sc at records h = each_as (IsSoundServerRecord sc at) (IsOfScenario sc) (record_of_scenario sc at) records h

-- what holds of each place of a table holds of each member that is listed of it
pub listed_each : (P : Prepared → Type 0) (table : List (Option Prepared)) → EachPlaced (λ (n : ℕ) (p : Prepared). P p) table → Each P (by_txn table)
listed_each P [] h = tt
listed_each P (None ∷ table) h = listed_each P table (λ n p e. h (suc n) p e)
listed_each P (Some p ∷ table) h = (h zero p refl, listed_each P table (λ n q e. h (suc n) q e))

pub aged_each : (P : Prepared → Type 0) (table : List (Option Prepared)) → EachPlaced (λ (n : ℕ) (p : Prepared). P p) table → Each P (by_age (by_txn table))
aged_each P table h =
    each_member P (by_age (by_txn table)) (λ p has. let there = listed_in_table table p (contains_from (by_age (by_txn table)) p has) in h there.0 p there.1)

-- ---- tables

-- of a transaction that the scenario has not nothing is settled
settled_past : (sc : Scenario) (records : List Record) (txn : TxnId) (found : Option Settled) → Each (IsOfScenario sc) records → length sc.txns ≤ txn.0 → settled_in txn records ≡ found → None ≡ settled_in txn records
settled_past sc records txn None each past e = sym e
settled_past sc records txn (Some s) each past e =
    let there = settled_is (IsOfScenario sc) txn records each s e in
    let own : s.txn.0 ≡ txn.0 = ap (λ (t : TxnId). t.0) there.0 in
    let within = there.1 in
    absurd (omega (arith, own, within, past))

prepared_past : (sc : Scenario) (records : List Record) (txn : TxnId) (found : Option Prepared) → Each (IsOfScenario sc) records → length sc.txns ≤ txn.0 → prepared_in txn records ≡ found → None ≡ prepared_in txn records
prepared_past sc records txn None each past e = sym e
prepared_past sc records txn (Some p) each past e =
    let there = prepared_is (IsOfScenario sc) txn records each p e in
    let own : p.txn.0 ≡ txn.0 = ap (λ (t : TxnId). t.0) there.0 in
    let within = there.1 in
    absurd (omega (arith, own, within, past))

-- so the tables say of each transaction what the log does
pub kept_settled : (sc : Scenario) (at : ServerId) (records : List Record) → Each (IsOfScenario sc) records → (txn : TxnId) → of_txn (kept sc at records).settled txn ≡ settled_in txn records
kept_settled sc at records each txn =
    let says = kept_law sc at records each in
    let places = says.settled_places in
    ⊎_elim (λ (within : txn.0 < length sc.txns). says.settled txn within)
    (λ (past : length sc.txns ≤ txn.0). ap option_flatten (slice_get_past (kept sc at records).settled txn.0 (omega (arith, past, places))) ∙ settled_past sc records txn (settled_in txn records) each past refl)
    (cases_lt txn.0 (length sc.txns))

pub kept_prepared : (sc : Scenario) (at : ServerId) (records : List Record) → Each (IsOfScenario sc) records → (txn : TxnId) → of_txn (kept sc at records).prepared txn ≡ prepared_in txn records
kept_prepared sc at records each txn =
    let says = kept_law sc at records each in
    let places = says.prepared_places in
    ⊎_elim (λ (within : txn.0 < length sc.txns). says.prepared txn within)
    (λ (past : length sc.txns ≤ txn.0). ap option_flatten (slice_get_past (kept sc at records).prepared txn.0 (omega (arith, past, places))) ∙ prepared_past sc records txn (prepared_in txn records) each past refl)
    (cases_lt txn.0 (length sc.txns))

-- ---- entries

-- the entry of what a table has at a place
record IsRestored (table : List (Option Prepared)) (n : ℕ) (entry : Entry) : Type 0 where
  p : Prepared
  found : option_flatten (slice_get table n) ≡ Some p
  entry_is : restored p ≡ entry

restored_at : (table : List (Option Prepared)) (n : ℕ) (entry : Entry) → option_flatten (slice_get (map (option_map restored) table) n) ≡ Some entry → IsRestored table n entry
restored_at [] n entry e = absurd (cc)
restored_at (None ∷ table) zero entry e = absurd (cc)
restored_at (Some p ∷ table) zero entry e = record { p = p; found = refl; entry_is = same_Some (restored p) entry e }
restored_at (place ∷ table) (suc n) entry e =
    let later = restored_at table n entry e in
    record { p = later.p; found = later.found; entry_is = later.entry_is }

-- an entry of a server that boots is that of what is prepared of its transaction
pub record IsOfPrepared (k : Kept) (records : List Record) (n : ℕ) (entry : Entry) : Type 0 where
  pub p : Prepared
  pub placed : option_flatten (slice_get k.prepared n) ≡ Some p
  pub own : p.txn ≡ record { 0 = n }
  pub prepared_is : prepared_in p.txn records ≡ Some p
  pub entry_is : restored p ≡ entry

pub booted_entries : (sc : Scenario) (at : ServerId) (records : List Record) → Each (IsOfScenario sc) records → EachPlaced (IsOfPrepared (kept sc at records) records) (booted sc at (kept sc at records)).entries
booted_entries sc at records each n entry e =
    let k = kept sc at records in
    let there : IsRestored k.prepared n entry = restored_at k.prepared n entry e in
    let placed = placed_is sc at k records (kept_law sc at records each) each n there.p there.found in
    record { p = there.p; placed = there.found; own = ap (λ (m : ℕ). record { 0 = m }) placed.1; prepared_is = placed.0; entry_is = there.entry_is }

flat_restored : (place : Option (Option Prepared)) → option_flatten (option_map (option_map restored) place) ≡ option_map restored (option_flatten place)
flat_restored None = refl
flat_restored (Some prepared) = refl

got_restored : (table : List (Option Prepared)) (n : ℕ) → slice_get (map (option_map restored) table) n ≡ option_map (option_map restored) (slice_get table n)
got_restored [] n = refl
got_restored (place ∷ table) zero = refl
got_restored (place ∷ table) (suc n) = got_restored table n

-- the entry at a place, by what a table has there
pub restored_there : (table : List (Option Prepared)) (n : ℕ) → option_flatten (slice_get (map (option_map restored) table) n) ≡ option_map restored (option_flatten (slice_get table n))
restored_there table n = ap option_flatten (got_restored table n) ∙ flat_restored (slice_get table n)

-- the entry of a transaction, by what is prepared of it
pub booted_entry : (sc : Scenario) (at : ServerId) (records : List Record) → Each (IsOfScenario sc) records → (txn : TxnId) → entry_at (booted sc at (kept sc at records)) txn ≡ option_map restored (prepared_in txn records)
booted_entry sc at records each txn = restored_there (kept sc at records).prepared txn.0 ∙ ap (option_map restored) (kept_prepared sc at records each txn)

-- what is settled of a transaction stands at its place
pub booted_settled : (sc : Scenario) (at : ServerId) (records : List Record) → Each (IsOfScenario sc) records → EachPlaced (λ (n : ℕ) (s : Settled). settled_in (record { 0 = n }) records ≡ Some s) (kept sc at records).settled
booted_settled sc at records each n s e = sym (kept_settled sc at records each (record { 0 = n })) ∙ e

-- ---- what it asks

-- what holds of each question
pub inquiries_are : (P : Letter → Type 0) (s : Server) → ((p : Prepared) → P (inquiry s p)) → (prepared : List Prepared) → Each P (map (inquiry s) prepared)
inquiries_are P s step [] = tt
inquiries_are P s step (p ∷ prepared) = (step p, inquiries_are P s step prepared)

-- ---- locks

-- P of the lock of a deed, whether it is granted or waits
abbrev pub OfItsLock : (ℕ → LockEntry → Type 0) → TxnId → ℕ → Deed → Type 0
OfItsLock P owner age deed = (held : Bool) → P deed.item.0 (lock_of owner age deed.action held)

deeds_locks : (P : ℕ → LockEntry → Type 0) (owner : TxnId) (age : ℕ) (deeds : List Deed) (locks : Table) → Each (OfItsLock P owner age) deeds → EachLock P locks → EachLock P (with_deeds_locked owner age deeds locks)
deeds_locks P owner age [] locks new h = h
deeds_locks P owner age (deed ∷ deeds) locks new h =
    let given = answer_at owner age deed.item deed.action locks in
    deeds_locks P owner age deeds (after_request owner age deed.item deed.action locks) new.1
    (requested_locks P owner age deed.item deed.action locks given refl h (all_added (P deed.item.0) owner age deed.action new.0 given))

-- what holds of the lock of each deed that is prepared holds of each lock that is asked for
pub prepared_locks : (P : ℕ → LockEntry → Type 0) (prepared : List Prepared) (locks : Table) → Each (λ (p : Prepared). Each (OfItsLock P p.txn p.age) p.deeds) prepared → EachLock P locks → EachLock P (with_prepared_locked prepared locks)
prepared_locks P [] locks new h = h
prepared_locks P (p ∷ prepared) locks new h = prepared_locks P prepared (with_deeds_locked p.txn p.age p.deeds locks) new.1 (deeds_locks P p.txn p.age p.deeds locks new.0 h)

-- ---- the store

-- what the writes of what is prepared leave of a store
pub record StoreKeeps (before after : Contents) : Type 0 where
  pub values : after.values ≡ before.values
  pub bounds : after.bounds ≡ before.bounds
  pub known : after.known ≡ before.known
  pub places : length after.tentative ≡ length before.tentative

same_store : (contents : Contents) → StoreKeeps contents contents
same_store contents = record { values = refl; bounds = refl; known = refl; places = refl }

keeps_both : (first next last : Contents) → StoreKeeps first next → StoreKeeps next last → StoreKeeps first last
keeps_both first next last h k = record { values = k.values ∙ h.values; bounds = k.bounds ∙ h.bounds; known = k.known ∙ h.known; places = k.places ∙ h.places }

deed_keeps : (a : Action) (contents : Contents) (txn : TxnId) (deed : Deed) → StoreKeeps contents (with_deed_kept a contents txn deed)
deed_keeps action.Read contents txn deed = same_store contents
deed_keeps action.Write contents txn deed =
    record { values = refl; bounds = refl; known = refl; places = length-set contents.tentative txn.0 (with_write (writes_of contents txn) (write_of deed)) }

pub deeds_keep : (contents : Contents) (txn : TxnId) (deeds : List Deed) → StoreKeeps contents (with_deeds_kept contents txn deeds)
deeds_keep contents txn [] = same_store contents
deeds_keep contents txn (deed ∷ deeds) =
    let one = with_deed_kept deed.action contents txn deed in
    keeps_both contents one (with_deeds_kept one txn deeds) (deed_keeps deed.action contents txn deed) (deeds_keep one txn deeds)

pub prepared_keeps : (contents : Contents) (table : List (Option Prepared)) → StoreKeeps contents (with_prepared_kept contents table)
prepared_keeps contents [] = same_store contents
prepared_keeps contents (None ∷ table) = prepared_keeps contents table
prepared_keeps contents (Some p ∷ table) =
    let one = with_deeds_kept contents p.txn p.deeds in
    keeps_both contents one (with_prepared_kept one table) (deeds_keep contents p.txn p.deeds) (prepared_keeps one table)

-- ---- what each of the writes is

deed_each : (P : TxnId → TentativeWrite → Type 0) (a : Action) (contents : Contents) (txn : TxnId) (deed : Deed) → EachWrite P contents → P txn (write_of deed) → EachWrite P (with_deed_kept a contents txn deed)
deed_each P action.Read contents txn deed h new = h
deed_each P action.Write contents txn deed h new =
    writes_set_in_basics P contents txn (with_write (writes_of contents txn) (write_of deed)) h (one_more_in_basics (P txn) (writes_of contents txn) (write_of deed) (h txn) new)

deeds_each : (P : TxnId → TentativeWrite → Type 0) (contents : Contents) (txn : TxnId) (deeds : List Deed) → EachWrite P contents → Each (λ (deed : Deed). P txn (write_of deed)) deeds → EachWrite P (with_deeds_kept contents txn deeds)
deeds_each P contents txn [] h new = h
deeds_each P contents txn (deed ∷ deeds) h new = deeds_each P (with_deed_kept deed.action contents txn deed) txn deeds (deed_each P deed.action contents txn deed h new.0) new.1

-- what holds of the write of each deed that is prepared holds of each write that is kept
pub prepared_each : (P : TxnId → TentativeWrite → Type 0) (contents : Contents) (table : List (Option Prepared)) → EachWrite P contents
    → EachPlaced (λ (n : ℕ) (p : Prepared). Each (λ (deed : Deed). P p.txn (write_of deed)) p.deeds) table → EachWrite P (with_prepared_kept contents table)
prepared_each P contents [] h new = h
prepared_each P contents (None ∷ table) h new = prepared_each P contents table h (λ n p e. new (suc n) p e)
prepared_each P contents (Some p ∷ table) h new =
    prepared_each P (with_deeds_kept contents p.txn p.deeds) table (deeds_each P contents p.txn p.deeds h (new 0 p refl)) (λ n q e. new (suc n) q e)
