-- Locks of a server that boots: each that it asks for is granted, since what is prepared of two transactions is apart.
use Rattle.std.specs.List.{find, list_any}
use Rattle.std.proofs.Common.{Bool, List, Some, [], ap, arith, false, if◌then◌else◌, is_some, length, not, refl, slice_get, subst, sym, true, ℕ, ◌&&◌, ◌<◌, ◌==◌, ◌||◌, ◌∙◌, ◌∷◌, ◌≡◌}
use Rattle.std.proofs.lemmas.Bool.{eqb-false}
use Rattle.std.proofs.lemmas.List.{length-replicate, length-set}
use Rattle.std.proofs.lemmas.Option.{slice_get_within}
use Rattle.tp_model.specs.Words.{Deed, Prepared, Record, Scenario, ServerId, TxnId}
use Rattle.tp_lock.proofs.RequestLaws.{after_request_orderly, opening_orderly}
use Rattle.tp_lock.specs.Order.{AreOrderly}
use Rattle.tp_lock.specs.Rule.{after_request, answer, answer_to_new, conflicts, entries_at, is_elder, is_write, opening, serves, waits_or_dies, with_lock}
use Rattle.tp_lock.specs.Table.{Table}
use Rattle.tp_lock.specs.declared.entry.Asked.TheVariants as asked
use Rattle.tp_lock.specs.declared.entry.Asked.{Asked}
use Rattle.tp_lock.specs.declared.entry.LockEntry.{LockEntry}
use Rattle.tp_recover.proofs.AgeLemmas.{has_from, listed_from_table, of_member}
use Rattle.tp_recover.proofs.HeldLemmas.{placed_is, prepared_is}
use Rattle.tp_recover.proofs.KeptLemmas.{kept_law}
use Rattle.tp_model.specs.ByAge.{by_age, by_txn}
use Rattle.tp_recover.specs.Kept.{kept}
use Rattle.tp_recover.specs.Log.{prepared_in}
use Rattle.tp_runs.proofs.basics.Booted.{aged_each, booted_entries, records_of_scenario}
use Rattle.tp_runs.proofs.basics.Held.{holds_granted, holds_requested}
use Rattle.tp_runs.proofs.basics.LockCounts.{IsHeldOf, none_on, waiting_on}
use Rattle.tp_runs.proofs.basics.Locks.{EachLock, entries_each, locks_as, no_locks, requested_locks}
use Rattle.tp_runs.proofs.deeds.Reads.{AreClear, IsClear}
use Rattle.tp_runs.proofs.locked.Fit.{DeedLocked, EntryLocked, LockWaits, Locked}
use Rattle.tp_runs.proofs.locked.Servers.{KeepsHeld}
use Rattle.tp_runs.specs.Sound.{IsSoundDeedAt, IsSoundServerRecord}
use Rattle.tp_server.specs.Booted.{booted, with_deeds_locked, with_prepared_locked}
use Rattle.tp_server.specs.declared.server.Entry.{Entry}
use Rattle.tp_types.proofs.EachLemmas.{each_as, each_get, each_placed}
use Rattle.tp_types.specs.Each.{Each}

-- ---- a request

-- P says of which transaction a deed is prepared, and at which age. Two deeds of two transactions are clear
abbrev pub AreApart : (TxnId → ℕ → Deed → Type 0) → Type 0
AreApart P = (one other : TxnId) (a b : ℕ) (deed second : Deed) → P one a deed → P other b second → (one.0 ≡ other.0 → ⊥) → IsClear deed second

-- a lock is held, and is that of a deed
pub record IsLockOf (P : TxnId → ℕ → Deed → Type 0) (item : ℕ) (lock : LockEntry) : Type 0 where
  pub deed : Deed
  pub is : P lock.owner lock.age deed
  pub item_is : deed.item.0 ≡ item
  pub mode_is : lock.mode ≡ deed.action
  pub held : lock.held ≡ true

both_read : (other one two : Bool) → one ≡ false → two ≡ false → (other && (one || two)) ≡ false
both_read other one two e f = ap (λ (b : Bool). other && (b || two)) e ∙ (ap (λ (b : Bool). other && b) f ∙ never other)
  where
    never : (b : Bool) → (b && false) ≡ false
    never true = refl
    never false = refl

clear_lock : (P : TxnId → ℕ → Deed → Type 0) → AreApart P → (owner : TxnId) (age : ℕ) (deed : Deed) (lock : LockEntry) → P owner age deed → IsLockOf P deed.item.0 lock → conflicts owner deed.action lock ≡ false
clear_lock P apart owner age deed lock p k = by_owner (lock.owner.0 == owner.0) refl
  where
    by_owner : (b : Bool) → (lock.owner.0 == owner.0) ≡ b → (not b && (is_write deed.action || is_write lock.mode)) ≡ false
    by_owner true own = refl
    by_owner false other =
        let reads = apart owner lock.owner age lock.age deed k.deed p k.is (λ same. eqb-false lock.owner.0 owner.0 other (sym same)) (sym k.item_is) in
        both_read true (is_write deed.action) (is_write lock.mode) (ap is_write reads.0) (ap is_write (k.mode_is ∙ reads.1))

clear_locks : (P : TxnId → ℕ → Deed → Type 0) → AreApart P → (owner : TxnId) (age : ℕ) (deed : Deed) (entries : List LockEntry) → P owner age deed → Each (IsLockOf P deed.item.0) entries
    → list_any (conflicts owner deed.action) entries ≡ false
clear_locks P apart owner age deed [] p h = refl
clear_locks P apart owner age deed (lock ∷ entries) p h =
    ap (λ (b : Bool). b || list_any (conflicts owner deed.action) entries) (clear_lock P apart owner age deed lock p h.0) ∙ clear_locks P apart owner age deed entries p h.1

granted_by : (served : Bool) (given : Asked) → given ≡ asked.Granted → (if served then asked.Granted else given) ≡ asked.Granted
granted_by true given e = refl
granted_by false given e = e

-- so a deed's lock is granted
granted : (P : TxnId → ℕ → Deed → Type 0) → AreApart P → (owner : TxnId) (age : ℕ) (deed : Deed) (entries : List LockEntry) → P owner age deed → Each (IsLockOf P deed.item.0) entries
    → answer owner age deed.action entries ≡ asked.Granted
granted P apart owner age deed entries p h =
    granted_by (list_any (serves owner deed.action) entries) (answer_to_new owner age deed.action entries)
    (ap (λ (b : Bool). if b then waits_or_dies (find (is_elder owner age deed.action) entries) else asked.Granted) (clear_locks P apart owner age deed entries p h))

-- ---- all requests

-- a table of so many items, whose locks are held and those of deeds
pub record AreLocksOf (P : TxnId → ℕ → Deed → Type 0) (items : ℕ) (locks : Table) : Type 0 where
  pub lists : length locks.lists ≡ items
  pub orderly : AreOrderly locks
  pub locks_are : EachLock (IsLockOf P) locks
  pub taken : locks.grants ≡ []

-- a deed that asks
abbrev Asks : (TxnId → ℕ → Deed → Type 0) → ℕ → TxnId → ℕ → Deed → Type 0
Asks P items owner age deed = P owner age deed × (deed.item.0 < items)

-- what is asked for is held, and so is what was
record HoldsMore (P : TxnId → ℕ → Deed → Type 0) (items : ℕ) (before after : Table) (Has : Type 0) : Type 0 where
  so : AreLocksOf P items after
  keeps : KeepsHeld before after
  has : Has

one_locked : (P : TxnId → ℕ → Deed → Type 0) → AreApart P → (items : ℕ) (owner : TxnId) (age : ℕ) (deed : Deed) (locks : Table) → AreLocksOf P items locks → Asks P items owner age deed
    → HoldsMore P items locks (after_request owner age deed.item deed.action locks) (DeedLocked (after_request owner age deed.item deed.action locks) owner deed)
one_locked P apart items owner age deed locks h asked_is =
    let entries = entries_at deed.item locks in
    let given : answer owner age deed.action entries ≡ asked.Granted = granted P apart owner age deed entries asked_is.0 (entries_each (IsLockOf P) deed.item locks h.locks_are) in
    let long : length (after_request owner age deed.item deed.action locks).lists ≡ length locks.lists = length-set locks.lists deed.item.0 (with_lock owner age deed.action entries) in
    let on = asked_is.1 in
    let lists = h.lists in
    record {
      so = record {
        lists = long ∙ h.lists;
        orderly = after_request_orderly owner age deed.item deed.action locks h.orderly;
        locks_are = requested_locks (IsLockOf P) owner age deed.item deed.action locks asked.Granted given h.locks_are
            (record { deed = deed; is = asked_is.0; item_is = refl; mode_is = refl; held = refl });
        taken = h.taken;
      };
      keeps = λ holder mode item held. holds_requested holder mode item owner age deed.item deed.action locks held;
      has = holds_granted owner age deed.item deed.action locks given (omega (arith, on, lists));
    }

deeds_locked : (P : TxnId → ℕ → Deed → Type 0) → AreApart P → (items : ℕ) (owner : TxnId) (age : ℕ) (deeds : List Deed) (locks : Table) → AreLocksOf P items locks → Each (Asks P items owner age) deeds
    → HoldsMore P items locks (with_deeds_locked owner age deeds locks) (Each (DeedLocked (with_deeds_locked owner age deeds locks) owner) deeds)
deeds_locked P apart items owner age [] locks h asking = record { so = h; keeps = λ holder mode item held. held; has = tt }
deeds_locked P apart items owner age (deed ∷ deeds) locks h asking =
    let first = one_locked P apart items owner age deed locks h asking.0 in
    let rest = deeds_locked P apart items owner age deeds (after_request owner age deed.item deed.action locks) first.so asking.1 in
    record {
      so = rest.so;
      keeps = λ holder mode item held. rest.keeps holder mode item (first.keeps holder mode item held);
      has = (rest.keeps owner deed.action deed.item first.has, rest.has);
    }

-- what is prepared asks for the locks of its deeds
abbrev AsksAll : (TxnId → ℕ → Deed → Type 0) → ℕ → Prepared → Type 0
AsksAll P items p = Each (Asks P items p.txn p.age) p.deeds

-- and has them
abbrev HasAll : Table → Prepared → Type 0
HasAll locks p = Each (DeedLocked locks p.txn) p.deeds

prepared_locked : (P : TxnId → ℕ → Deed → Type 0) → AreApart P → (items : ℕ) (prepared : List Prepared) (locks : Table) → AreLocksOf P items locks → Each (AsksAll P items) prepared
    → HoldsMore P items locks (with_prepared_locked prepared locks) (Each (HasAll (with_prepared_locked prepared locks)) prepared)
prepared_locked P apart items [] locks h asking = record { so = h; keeps = λ holder mode item held. held; has = tt }
prepared_locked P apart items (p ∷ prepared) locks h asking =
    let first = deeds_locked P apart items p.txn p.age p.deeds locks h asking.0 in
    let middle = with_deeds_locked p.txn p.age p.deeds locks in
    let rest = prepared_locked P apart items prepared middle first.so asking.1 in
    let after = with_prepared_locked prepared middle in
    record {
      so = rest.so;
      keeps = λ holder mode item held. rest.keeps holder mode item (first.keeps holder mode item held);
      has = (each_as (DeedLocked middle p.txn) (DeedLocked after p.txn) (λ deed held. rest.keeps p.txn deed.action deed.item held) p.deeds first.has, rest.has);
    }

opened_locks : (P : TxnId → ℕ → Deed → Type 0) (items : ℕ) → AreLocksOf P items (opening items)
opened_locks P items = record { lists = length-replicate items []; orderly = opening_orderly items; locks_are = no_locks (IsLockOf P) items; taken = refl }

-- ---- a server that boots

-- what two transactions have prepared on a log is apart
abbrev pub PreparedApart : List Record → Type 0
PreparedApart records = (one other : TxnId) (p q : Prepared) → prepared_in one records ≡ Some p → prepared_in other records ≡ Some q → (one.0 ≡ other.0 → ⊥) → AreClear p.deeds q.deeds

-- a deed that is prepared on a log of a transaction of this age
pub record IsPreparedDeed (records : List Record) (txn : TxnId) (age : ℕ) (deed : Deed) : Type 0 where
  pub p : Prepared
  pub prepared_is : prepared_in txn records ≡ Some p
  pub age_is : p.age ≡ age
  pub place : ℕ
  pub deed_is : slice_get p.deeds place ≡ Some deed

deeds_apart : (records : List Record) → PreparedApart records → AreApart (IsPreparedDeed records)
deeds_apart records apart one other a b deed second h k others =
    each_get (IsClear deed) k.p.deeds k.place second
    (each_get (λ (d : Deed). Each (IsClear d) k.p.deeds) h.p.deeds h.place deed (apart one other h.p k.p h.prepared_is k.prepared_is others) h.deed_is) k.deed_is

-- each vote asks for what it has prepared, on items of the scenario
vote_asks : (sc : Scenario) (at : ServerId) (records : List Record) (p : Prepared) → Each (IsSoundServerRecord sc at) records → prepared_in p.txn records ≡ Some p → AsksAll (IsPreparedDeed records) (length sc.items) p
vote_asks sc at records p sound is =
    let m = (prepared_is (IsSoundServerRecord sc at) p.txn records sound p is).1 in
    each_placed (Asks (IsPreparedDeed records) (length sc.items) p.txn p.age) p.deeds
    (λ n deed e.
    let there = each_get (IsSoundDeedAt sc at p.txn) p.deeds n deed m.deeds e in
    (record { p = p; prepared_is = is; age_is = refl; place = n; deed_is = e }, slice_get_within sc.items deed.item.0 there.kept.declared there.kept.declared_is))

-- the locks that it asks for
abbrev pub asked_locks : Scenario → ServerId → List Record → Table
asked_locks sc at records = (booted sc at (kept sc at records)).locks

booted_locks : (sc : Scenario) (at : ServerId) (records : List Record) → Each (IsSoundServerRecord sc at) records → PreparedApart records
    → HoldsMore (IsPreparedDeed records) (length sc.items) (opening (length sc.items)) (asked_locks sc at records) (Each (HasAll (asked_locks sc at records)) (by_age (by_txn (kept sc at records).prepared)))
booted_locks sc at records sound apart =
    let table = (kept sc at records).prepared in
    let each = records_of_scenario sc at records sound in
    prepared_locked (IsPreparedDeed records) (deeds_apart records apart) (length sc.items) (by_age (by_txn table)) (opening (length sc.items)) (opened_locks (IsPreparedDeed records) (length sc.items))
    (aged_each (AsksAll (IsPreparedDeed records) (length sc.items)) table
    (λ n p e. vote_asks sc at records p sound (placed_is sc at (kept sc at records) records (kept_law sc at records each) each n p e).0))

-- they are held, and are those of what is prepared
pub booted_locks_are : (sc : Scenario) (at : ServerId) (records : List Record) → Each (IsSoundServerRecord sc at) records → PreparedApart records → EachLock (IsLockOf (IsPreparedDeed records)) (asked_locks sc at records)
booted_locks_are sc at records sound apart = (booted_locks sc at records sound apart).so.locks_are

-- a server that boots has the locks of its entries
pub booted_locked : (sc : Scenario) (at : ServerId) (records : List Record) → Each (IsSoundServerRecord sc at) records → PreparedApart records
    → Locked sc (booted sc at (kept sc at records)).entries (asked_locks sc at records)
booted_locked sc at records sound apart =
    let k = kept sc at records in
    let each = records_of_scenario sc at records sound in
    let locks = asked_locks sc at records in
    let all = booted_locks sc at records sound apart in
    let held : (n : ℕ) → waiting_on n locks.lists ≡ 0 = λ n.
    none_on n locks.lists (locks_as (IsLockOf (IsPreparedDeed records)) (λ (item : ℕ) (lock : LockEntry). IsHeldOf n lock) locks (λ item lock l own. l.held) all.so.locks_are) in
    record {
      items = all.so.lists;
      orderly = all.so.orderly;
      deeds = λ n entry found.
          let own = booted_entries sc at records each n entry found in
          let listed = has_from (by_age (by_txn k.prepared)) own.p (listed_from_table k.prepared n own.p own.placed) in
          subst (EntryLocked locks n) own.entry_is (subst (λ (txn : TxnId). Each (DeedLocked locks txn) own.p.deeds) own.own (of_member (HasAll locks) (by_age (by_txn k.prepared)) own.p all.has listed));
      waits = locks_as (IsLockOf (IsPreparedDeed records)) (LockWaits sc (booted sc at k).entries) locks (λ item lock l waiting. absurd (let h = l.held in cc)) all.so.locks_are;
      asks = λ n entry found some.
          let own = booted_entries sc at records each n entry found in
          let none = ap (λ (e : Entry). is_some e.waiting) own.entry_is in
          absurd (cc);
      once = λ n. let none = held n in omega (arith, none);
      taken = all.so.taken;
    }
