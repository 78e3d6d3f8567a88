-- What holds of each lock of a table, as locks are asked for and released.
use Rattle.std.specs.List.{find, list_any}
use Rattle.std.proofs.Common.{Bool, List, None, Option, Some, [], arith, false, filter, if◌then◌else◌, map, refl, slice_get, slice_index_or, subst, suc, sym, true, zero, ℕ, ◌++◌, ◌||◌, ◌∷◌, ◌≡◌}
use Rattle.tp_model.specs.Words.{Action, ItemId, TxnId}
use Rattle.tp_lock.specs.Rule.{after_release, after_request, answer, answer_at, answer_to_new, conflicts, entries_at, is_elder, is_granted, is_of_other, left_by, lock_of, opening, serves, waits_or_dies, with_answer, with_grant, with_grants_from, with_lock}
use Rattle.tp_lock.specs.Table.{Table}
use Rattle.tp_lock.specs.declared.entry.Asked.TheVariants as asked
use Rattle.tp_lock.specs.declared.entry.Asked.{Asked}
use Rattle.tp_lock.specs.declared.entry.LockEntry.{LockEntry}
use Rattle.tp_types.proofs.EachLemmas.{at_set, by_cond, each_as, each_found, each_more, found_passes}
use Rattle.tp_types.specs.Each.{Each, EachAt}

-- P holds of each item and each lock on it
abbrev pub EachLock : (ℕ → LockEntry → Type 0) → Table → Type 0
EachLock P locks = EachAt (λ (item : ℕ) (entries : List LockEntry). Each (P item) entries) locks.lists

-- P holds of a lock that is held, where it holds of it while it is waited for
abbrev pub OfMoreHeld : (LockEntry → Type 0) → Type 0
OfMoreHeld P = (lock : LockEntry) (held : Bool) → P lock → P (record lock { held = lock.held || held })

-- what holds of each lock, where it follows from what does
pub locks_as : (P Q : ℕ → LockEntry → Type 0) (locks : Table) → ((item : ℕ) (lock : LockEntry) → P item lock → Q item lock) → EachLock P locks → EachLock Q locks
locks_as P Q locks step h item entries found = each_as (P item) (Q item) (λ lock p. step item lock p) entries (h item entries found)

-- ---- one list

-- what an answer adds to a list
abbrev pub IsAdded : (LockEntry → Type 0) → TxnId → ℕ → Action → Asked → Type 0
IsAdded P owner age mode asked.Granted = P (lock_of owner age mode true)
IsAdded P owner age mode asked.Waits = P (lock_of owner age mode false)
IsAdded P owner age mode (asked.Dies other) = Unit {0}

-- where it holds of the lock, held or not
pub all_added : (P : LockEntry → Type 0) (owner : TxnId) (age : ℕ) (mode : Action) → ((held : Bool) → P (lock_of owner age mode held)) → (given : Asked) → IsAdded P owner age mode given
all_added P owner age mode new asked.Granted = new true
all_added P owner age mode new asked.Waits = new false
all_added P owner age mode new (asked.Dies other) = tt

added_each : (P : LockEntry → Type 0) (owner : TxnId) (age : ℕ) (mode : Action) (entries : List LockEntry) (given : Asked) → Each P entries → IsAdded P owner age mode given → Each P (with_answer owner age mode given entries)
added_each P owner age mode entries asked.Granted h new = each_more P entries (lock_of owner age mode true) h new
added_each P owner age mode entries asked.Waits h new = each_more P entries (lock_of owner age mode false) h new
added_each P owner age mode entries (asked.Dies other) h new = h

-- the answer, where the owner holds no lock that serves
unserved_answer : (b : Bool) (new given : Asked) → b ≡ false → (if b then asked.Granted else new) ≡ given → new ≡ given
unserved_answer true new given e f = absurd (cc)
unserved_answer false new given e f = f

pub requested_each : (P : LockEntry → Type 0) (owner : TxnId) (age : ℕ) (mode : Action) (entries : List LockEntry) (given : Asked) → answer owner age mode entries ≡ given → Each P entries → IsAdded P owner age mode given
    → Each P (with_lock owner age mode entries)
requested_each P owner age mode entries given e h new =
    by_cond (λ (es : List LockEntry). Each P es) (list_any (serves owner mode) entries) (λ served. h)
    (λ unserved. added_each P owner age mode entries (answer_to_new owner age mode entries) h
    (subst (IsAdded P owner age mode) (sym (unserved_answer (list_any (serves owner mode) entries) (answer_to_new owner age mode entries) given unserved e)) new))

granted_each_in_locks : (P : LockEntry → Type 0) → OfMoreHeld P → (earlier entries : List LockEntry) → Each P entries → Each P (with_grants_from earlier entries)
granted_each_in_locks P any earlier [] h = tt
granted_each_in_locks P any earlier (entry ∷ entries) h = (any entry (is_granted earlier entry) h.0, granted_each_in_locks P any (earlier ++ with_grant earlier entry ∷ []) entries h.1)

-- those that pass, of which what else holds may be another thing
kept_each_in_locks : (P Q : LockEntry → Type 0) (test : LockEntry → Bool) → ((lock : LockEntry) → test lock ≡ true → P lock → Q lock) → (entries : List LockEntry) → Each P entries → Each Q (filter test entries)
kept_each_in_locks P Q test step [] h = tt
kept_each_in_locks P Q test step (entry ∷ entries) h =
    by_cond (λ (es : List LockEntry). Each Q es) (test entry) (λ here. (step entry here h.0, kept_each_in_locks P Q test step entries h.1)) (λ other. kept_each_in_locks P Q test step entries h.1)

-- the locks of others, once an owner has left
pub released_each : (P Q : LockEntry → Type 0) (owner : TxnId) → OfMoreHeld Q → ((lock : LockEntry) → is_of_other owner lock ≡ true → P lock → Q lock) → (entries : List LockEntry) → Each P entries → Each Q (left_by owner entries)
released_each P Q owner any step entries h = granted_each_in_locks Q any [] (filter (is_of_other owner) entries) (kept_each_in_locks P Q (is_of_other owner) step entries h)

-- ---- all lists

default_each : (P : LockEntry → Type 0) (lists : List (List LockEntry)) (item : ℕ) → ((entries : List LockEntry) → slice_get lists item ≡ Some entries → Each P entries) → Each P (slice_index_or lists item [])
default_each P [] item h = tt
default_each P (entries ∷ lists) zero h = h entries refl
default_each P (entries ∷ lists) (suc item) h = default_each P lists item h

-- of the locks on an item
pub entries_each : (P : ℕ → LockEntry → Type 0) (item : ItemId) (locks : Table) → EachLock P locks → Each (P item.0) (entries_at item locks)
entries_each P item locks h = default_each (P item.0) locks.lists item.0 (h item.0)

pub requested_locks : (P : ℕ → LockEntry → Type 0) (owner : TxnId) (age : ℕ) (item : ItemId) (mode : Action) (locks : Table) (given : Asked) → answer_at owner age item mode locks ≡ given → EachLock P locks → IsAdded (P item.0) owner age mode given
    → EachLock P (after_request owner age item mode locks)
requested_locks P owner age item mode locks given e h new =
    at_set (λ (n : ℕ) (entries : List LockEntry). Each (P n) entries) locks.lists item.0 (with_lock owner age mode (entries_at item locks)) h
    (requested_each (P item.0) owner age mode (entries_at item locks) given e (entries_each P item locks h) new)

at_mapped : (P Q : ℕ → List LockEntry → Type 0) (f : List LockEntry → List LockEntry) → ((n : ℕ) (entries : List LockEntry) → P n entries → Q n (f entries)) → (lists : List (List LockEntry)) → EachAt P lists → EachAt Q (map f lists)
at_mapped P Q f step [] h n found e = absurd (cc)
at_mapped P Q f step (entries ∷ lists) h zero found e = let same : f entries ≡ found = grind arith in subst (Q 0) same (step 0 entries (h 0 entries refl))
at_mapped P Q f step (entries ∷ lists) h (suc n) found e = at_mapped (λ m es. P (suc m) es) (λ m es. Q (suc m) es) f (λ m es p. step (suc m) es p) lists (λ m es k. h (suc m) es k) n found e

pub released_locks : (P Q : ℕ → LockEntry → Type 0) (owner : TxnId) (locks : Table) → ((item : ℕ) → OfMoreHeld (Q item)) → ((item : ℕ) (lock : LockEntry) → is_of_other owner lock ≡ true → P item lock → Q item lock) → EachLock P locks
    → EachLock Q (after_release owner locks)
released_locks P Q owner locks any step h =
    at_mapped (λ (n : ℕ) (entries : List LockEntry). Each (P n) entries) (λ (n : ℕ) (entries : List LockEntry). Each (Q n) entries) (left_by owner)
    (λ n entries p. released_each (P n) (Q n) owner (any n) (step n) entries p) locks.lists h

-- ---- who stands in the way

-- the lock for which another is to die
pub record IsInTheWay (owner : TxnId) (age : ℕ) (mode : Action) (other : TxnId) (P : LockEntry → Type 0) : Type 0 where
  pub lock : LockEntry
  pub is : P lock
  pub owner_is : lock.owner ≡ other
  pub elder : is_elder owner age mode lock ≡ true

named_by : (owner : TxnId) (age : ℕ) (mode : Action) (other : TxnId) (P : LockEntry → Type 0) (entries : List LockEntry) (served conflict : Bool) (found : Option LockEntry) → find (is_elder owner age mode) entries ≡ found → Each P entries
    → (if served then asked.Granted else (if conflict then waits_or_dies found else asked.Granted)) ≡ asked.Dies other → IsInTheWay owner age mode other P
named_by owner age mode other P entries true conflict found f h e = absurd (cc)
named_by owner age mode other P entries false false found f h e = absurd (cc)
named_by owner age mode other P entries false true None f h e = absurd (cc)
named_by owner age mode other P entries false true (Some lock) f h e =
    record {
      lock = lock;
      is = each_found P (is_elder owner age mode) entries lock h f;
      owner_is = grind arith;
      elder = found_passes (is_elder owner age mode) entries lock f;
    }

-- who is named stands in the list of the item, and is older
pub stands_in_the_way : (P : ℕ → LockEntry → Type 0) (owner : TxnId) (age : ℕ) (item : ItemId) (mode : Action) (locks : Table) (other : TxnId) → EachLock P locks → answer_at owner age item mode locks ≡ asked.Dies other
    → IsInTheWay owner age mode other (P item.0)
stands_in_the_way P owner age item mode locks other h e =
    let entries = entries_at item locks in
    named_by owner age mode other (P item.0) entries (list_any (serves owner mode) entries) (list_any (conflicts owner mode) entries) (find (is_elder owner age mode) entries) refl (entries_each P item locks h) e

-- an empty table
pub no_locks : (P : ℕ → LockEntry → Type 0) (items : ℕ) → EachLock P (opening items)
no_locks P zero n found e = absurd (cc)
no_locks P (suc items) zero found e = let none : [] ≡ found = grind arith in subst (Each (P 0)) none tt
no_locks P (suc items) (suc n) found e = no_locks (λ (m : ℕ) (lock : LockEntry). P (suc m) lock) items n found e
