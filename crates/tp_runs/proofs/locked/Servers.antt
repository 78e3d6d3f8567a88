-- Locks at a server, its rows.
use Rattle.std.proofs.Common.{Bool, List, None, Option, Some, [], ap, arith, drop, false, is_some, length, option_and_then, refl, slice_get, slice_set, subst, sym, true, ℕ, ℤ, ⊎_elim, ◌+◌, ◌<◌, ◌==◌, ◌||◌, ◌∙◌, ◌≡◌, ◌≤◌}
use Rattle.std.proofs.lemmas.Bool.{eqb-true, ne_eqb, or_parts}
use Rattle.std.proofs.lemmas.List.{length-map, length-set}
use Rattle.std.proofs.lemmas.Option.{same_Some}
use Rattle.std.specs.Option.{option_flatten}
use Rattle.tp_types.proofs.EachLemmas.{each_as, each_both, each_dropped, each_get, each_more, filtered, none_if_not_some, placed_emptied_others, placed_set, set_here}
use Rattle.tp_types.proofs.ListLemmas.{number_itself}
use Rattle.tp_types.specs.Each.{Each, EachPlaced}
use Rattle.tp_types.specs.Effect.{Effect}
use Rattle.tp_model.specs.Authorisation.{action_of}
use Rattle.tp_model.specs.Deeds.{deed_of}
use Rattle.tp_model.specs.Queries.{item_of}
use Rattle.tp_model.specs.Words.{Action, Answer, Deed, ItemId, Mail, Query, QueryRequest, Scenario, ServerId, TxnId}
use Rattle.tp_model.specs.Words.answer
use Rattle.tp_model.specs.Words.body
use Rattle.tp_lock.proofs.ReleaseLaws.{after_release_orderly, taken_orderly}
use Rattle.tp_lock.proofs.RequestLaws.{after_request_orderly}
use Rattle.tp_lock.specs.Laws.{Holds}
use Rattle.tp_lock.specs.Rule.{after_release, entries_at, is_of_other, left_by, without_grant}
use Rattle.tp_lock.specs.Table.{Table}
use Rattle.tp_lock.specs.declared.entry.Asked.{Asked}
use Rattle.tp_lock.specs.declared.entry.Asked.TheVariants as asked
use Rattle.tp_lock.specs.declared.entry.Grant.{Grant}
use Rattle.tp_lock.specs.declared.entry.LockEntry.{LockEntry}
use Rattle.tp_server.proofs.Rows.{AreRightWaits, IsAsking, IsFirstHere, IsFurther, IsResumed, refusing, server_by_locks, unwaiting, with_locks}
use Rattle.tp_server.proofs.Tables.{placed_within}
use Rattle.tp_server.specs.Row.{after_asking, answers_with, asked_query, ballot_of, entry_after, entry_at, followed_by, lock_answer, prepared_record, server_row, with_answer}
use Rattle.tp_server.specs.State.{Server}
use Rattle.tp_server.specs.Verdicts.{with_wants}
use Rattle.tp_server.specs.declared.server.Entry.{Entry}
use Rattle.tp_runs.proofs.basics.Folds.{set_elsewhere}
use Rattle.tp_runs.proofs.basics.Held.{IsGrantOf, holds_granted, holds_released, holds_requested, released_grants}
use Rattle.tp_runs.proofs.basics.LockCounts.{IsHeldOf, dropped_count, first_count, first_of_other, granted_to, held_on, more_waiting, none_granted, none_on, not_granted, one_if, release_count, release_exact, request_count, request_exact, waiting_on}
use Rattle.tp_runs.proofs.basics.Locks.{EachLock, IsAdded, locks_as, released_locks, requested_locks}
use Rattle.tp_runs.proofs.locked.Fit.{DeedLocked, EntryAsks, EntryLocked, GrantFits, IsWaitedFor, LockWaits, Locked, LockedMeanwhile, WaitFits, locked_first, locked_last}
use Rattle.tp_runs.proofs.locked.Taken.{server_row_taken}

-- a receipt of a server, as far as grants were taken: its locks are kept, and there is a place for each transaction
record RowTaking (sc : Scenario) (s : Server) (effect : Effect Server) : Type 0 where
  state : LockedMeanwhile sc effect.state.entries effect.state.locks
  places : length effect.state.entries ≡ length s.entries

-- and once all were taken
pub record RowLocked (sc : Scenario) (s : Server) (effect : Effect Server) : Type 0 where
  pub state : Locked sc effect.state.entries effect.state.locks
  pub places : length effect.state.entries ≡ length s.entries

-- ---- entries

elsewhere_in_locked : (entries : List (Option Entry)) (n m : ℕ) (v : Option Entry) (entry : Entry) → (n ≡ m → ⊥) → option_flatten (slice_get entries m) ≡ Some entry → option_flatten (slice_get (slice_set entries n v) m) ≡ Some entry
elsewhere_in_locked entries n m v entry apart found = ap option_flatten (set_elsewhere entries n m v (ne_eqb n m apart)) ∙ found

-- what is so of a new entry, and of each entry of another transaction
placed_others : (P : ℕ → Entry → Type 0) (entries : List (Option Entry)) (k : ℕ) (new : Entry) → k < length entries → ((n : ℕ) (entry : Entry) → option_flatten (slice_get entries n) ≡ Some entry → (k ≡ n → ⊥) → P n entry) → P k new
    → EachPlaced P (slice_set entries k (Some new))
placed_others P entries k new within others own n entry found = by_number (k == n) refl
  where
    by_number : (b : Bool) → (k == n) ≡ b → P n entry
    by_number true e =
        let is : k ≡ n = eqb-true k n e in
        let there : option_flatten (slice_get (slice_set entries k (Some new)) k) ≡ Some new = ap option_flatten (set_here entries k (Some new) within) in
        let same : new ≡ entry = same_Some new entry (sym there ∙ subst (λ (m : ℕ). option_flatten (slice_get (slice_set entries k (Some new)) m) ≡ Some entry) (sym is) found) in
        subst (λ (m : ℕ). P m entry) is (subst (P k) same own)
    by_number false e =
        others n entry (sym (ap option_flatten (set_elsewhere entries k n (Some new) e)) ∙ found)
        (λ same. let its : (k == n) ≡ true = ap (λ (m : ℕ). k == m) (sym same) ∙ number_itself k in cc)

-- what waits at the entry of a transaction waits at the one that takes its place
abbrev pub KeepsWaiting : Scenario → List (Option Entry) → ℕ → Entry → Type 0
KeepsWaiting sc entries n new = (old : Entry) → option_flatten (slice_get entries n) ≡ Some old → (item : ℕ) (mode : Action) → IsWaitedFor sc old item mode → IsWaitedFor sc new item mode

-- an entry at which this is waited for
record IsWaitedAt (sc : Scenario) (entries : List (Option Entry)) (n : ℕ) (item : ℕ) (mode : Action) : Type 0 where
  entry : Entry
  found : option_flatten (slice_get entries n) ≡ Some entry
  waited : IsWaitedFor sc entry item mode

entry_moved : (sc : Scenario) (entries : List (Option Entry)) (n m item : ℕ) (mode : Action) (old new : Entry) → n < length entries → (m ≡ n → KeepsWaiting sc entries n new) → option_flatten (slice_get entries m) ≡ Some old → IsWaitedFor sc old item mode
    → IsWaitedAt sc (slice_set entries n (Some new)) m item mode
entry_moved sc entries n m item mode old new within keeps found waited = by_number (n == m) refl
  where
    by_number : (b : Bool) → (n == m) ≡ b → IsWaitedAt sc (slice_set entries n (Some new)) m item mode
    by_number true e =
        let is : n ≡ m = eqb-true n m e in
        record {
          entry = new;
          found = subst (λ (k : ℕ). option_flatten (slice_get (slice_set entries n (Some new)) k) ≡ Some new) is (ap option_flatten (set_here entries n (Some new) within));
          waited = keeps (sym is) old (subst (λ (k : ℕ). option_flatten (slice_get entries k) ≡ Some old) (sym is) found) item mode waited;
        }
    by_number false e = record { entry = old; found = ap option_flatten (set_elsewhere entries n m (Some new) e) ∙ found; waited = waited }

wait_moved : (sc : Scenario) (entries : List (Option Entry)) (n : ℕ) (new : Entry) → n < length entries → (item : ℕ) (lock : LockEntry) → (lock.owner.0 ≡ n → KeepsWaiting sc entries n new) → LockWaits sc entries item lock
    → LockWaits sc (slice_set entries n (Some new)) item lock
wait_moved sc entries n new within item lock keeps h waits =
    let fit : WaitFits sc entries item lock = h waits in
    let there = entry_moved sc entries n lock.owner.0 item lock.mode fit.entry new within keeps fit.found fit.waited in
    record { entry = there.entry; found = there.found; waited = there.waited }

-- what is held is held still
abbrev pub KeepsHeld : Table → Table → Type 0
KeepsHeld locks after = (owner : TxnId) (mode : Action) (item : ItemId) → Holds owner mode (entries_at item locks) → Holds owner mode (entries_at item after)

grant_moved : (sc : Scenario) (entries : List (Option Entry)) (locks after : Table) (n : ℕ) (new : Entry) → n < length entries → KeepsHeld locks after → (grant : Grant) → (grant.owner.0 ≡ n → KeepsWaiting sc entries n new) → GrantFits sc entries locks grant
    → GrantFits sc (slice_set entries n (Some new)) after grant
grant_moved sc entries locks after n new within holds grant keeps h =
    let there = entry_moved sc entries n grant.owner.0 grant.item.0 h.mode h.entry new within keeps h.found h.waited in
    record { entry = there.entry; found = there.found; mode = h.mode; waited = there.waited; held = holds grant.owner h.mode grant.item h.held }

-- a lock that is held where it is the transaction's own
wait_moved_others : (sc : Scenario) (entries : List (Option Entry)) (n : ℕ) (new : Entry) → n < length entries → (item : ℕ) (lock : LockEntry) → IsHeldOf n lock → LockWaits sc entries item lock → LockWaits sc (slice_set entries n (Some new)) item lock
wait_moved_others sc entries n new within item lock held h waits = wait_moved sc entries n new within item lock (λ own. let is = held own in absurd (cc)) h waits

-- deeds keep their locks
deeds_kept : (locks after : Table) (entries : List (Option Entry)) → KeepsHeld locks after → EachPlaced (EntryLocked locks) entries → EachPlaced (EntryLocked after) entries
deeds_kept locks after entries holds h n entry found =
    each_as (DeedLocked locks (record { 0 = n })) (DeedLocked after (record { 0 = n })) (λ deed k. holds (record { 0 = n }) deed.action deed.item k) entry.deeds (h n entry found)

-- the locks stay, and the entry of one transaction changes, with its deeds and the query that waits there as they were
pub voted_locked : (sc : Scenario) (entries : List (Option Entry)) (locks : Table) (n : ℕ) (old new : Entry) → option_flatten (slice_get entries n) ≡ Some old → new.waiting ≡ old.waiting → new.deeds ≡ old.deeds → LockedMeanwhile sc entries locks
    → LockedMeanwhile sc (slice_set entries n (Some new)) locks
voted_locked sc entries locks n old new found waits deeds h =
    let within = placed_within entries n old found in
    record {
      items = h.items;
      orderly = h.orderly;
      deeds = placed_set (EntryLocked locks) entries n new h.deeds (subst (Each (DeedLocked locks (record { 0 = n }))) (sym deeds) (h.deeds n old found));
      waits = locks_as (LockWaits sc entries) (LockWaits sc (slice_set entries n (Some new))) locks (λ item lock k. wait_moved sc entries n new within item lock (λ own. keeps) k) h.waits;
      grants = each_as (GrantFits sc entries locks) (GrantFits sc (slice_set entries n (Some new)) locks) (λ grant k. grant_moved sc entries locks locks n new within (λ owner mode item held. held) grant (λ own. keeps) k) locks.grants h.grants;
      asks = placed_set (EntryAsks locks) entries n new h.asks (λ some. h.asks n old found (ap (λ (q : Option QueryRequest). is_some q) (sym waits) ∙ some));
      once = h.once;
    }
  where
    keeps : KeepsWaiting sc entries n new
    keeps there is item mode k = record { q = k.q; waiting_is = waits ∙ ap (λ (e : Entry). e.waiting) (same_Some old there (sym found ∙ is)) ∙ k.waiting_is; query = k.query; asked_is = k.asked_is; item_is = k.item_is; mode_is = k.mode_is }

-- ---- a query asks

-- nothing waits at the entry that a query finds
idle_at : (sc : Scenario) (s : Server) (mail : Mail) (q : QueryRequest) (query : Query) (entry : Entry) (value : ℤ) → IsAsking sc s mail q query entry value → (old : Entry) → entry_at s q.txn ≡ Some old → old.waiting ≡ None
idle_at sc s mail q query entry value k old found =
    ⊎_elim (λ (first : IsFirstHere s mail.sent q entry). let none = first.no_entry in absurd (cc))
    (λ (further : IsFurther s q entry). ap (λ (e : Entry). e.waiting) (sym (same_Some entry old (sym further.found ∙ found))) ∙ none_if_not_some entry.waiting further.idle) k.place

-- nor at the entry as it is then
idle_then : (sc : Scenario) (s : Server) (mail : Mail) (q : QueryRequest) (query : Query) (entry : Entry) (value : ℤ) → IsAsking sc s mail q query entry value → entry.waiting ≡ None
idle_then sc s mail q query entry value k =
    ⊎_elim (λ (first : IsFirstHere s mail.sent q entry). ap (λ (e : Entry). e.waiting) first.entry_is) (λ (further : IsFurther s q entry). idle_at sc s mail q query entry value k entry further.found) k.place

-- the deeds of the entry have their locks
deeds_then : (sc : Scenario) (s : Server) (mail : Mail) (q : QueryRequest) (query : Query) (entry : Entry) (value : ℤ) (locks : Table) → IsAsking sc s mail q query entry value → EachPlaced (EntryLocked locks) s.entries → EntryLocked locks q.txn.0 entry
deeds_then sc s mail q query entry value locks k h =
    ⊎_elim (λ (first : IsFirstHere s mail.sent q entry). subst (EntryLocked locks q.txn.0) (sym first.entry_is) tt) (λ (further : IsFurther s q entry). h q.txn.0 entry further.found) k.place

-- where the owner has no lock that waits and no grant that is left
none_left_in_locked : (sc : Scenario) (entries : List (Option Entry)) (locks : Table) (n : ℕ) → LockedMeanwhile sc entries locks → ((old : Entry) → option_flatten (slice_get entries n) ≡ Some old → old.waiting ≡ None) → waiting_on n locks.lists + granted_to n locks.grants ≡ 0
none_left_in_locked sc entries locks n h idle =
    let held : EachLock (λ (item : ℕ) (lock : LockEntry). IsHeldOf n lock) locks = locks_as (LockWaits sc entries) (λ item lock. IsHeldOf n lock) locks lock_held h.waits in
    let waits : waiting_on n locks.lists ≡ 0 = none_on n locks.lists held in
    let grants : granted_to n locks.grants ≡ 0 = none_granted n locks.grants (each_as (GrantFits sc entries locks) (λ (grant : Grant). grant.owner.0 ≡ n → ⊥) not_its locks.grants h.grants) in
    omega (arith, waits, grants)
  where
    idle_still : (entry : Entry) (m item : ℕ) (mode : Action) → m ≡ n → option_flatten (slice_get entries m) ≡ Some entry → IsWaitedFor sc entry item mode → ⊥
    idle_still entry m item mode own found waited =
        let none = idle entry (subst (λ (k : ℕ). option_flatten (slice_get entries k) ≡ Some entry) own found) in let some = waited.waiting_is in cc

    not_its : (grant : Grant) → GrantFits sc entries locks grant → grant.owner.0 ≡ n → ⊥
    not_its grant k own = idle_still k.entry grant.owner.0 grant.item.0 k.mode own k.found k.waited

    lock_held : (item : ℕ) (lock : LockEntry) → LockWaits sc entries item lock → IsHeldOf n lock
    lock_held item lock k own = by_held lock.held refl
      where
        by_held : (held : Bool) → lock.held ≡ held → lock.held ≡ true
        by_held true e = e
        by_held false e = let fit = k e in absurd (idle_still fit.entry lock.owner.0 item lock.mode own fit.found fit.waited)

-- what an answer adds: a lock that waits is that of the query
added : (sc : Scenario) (entries : List (Option Entry)) (s : Server) (q : QueryRequest) (query : Query) (entry new : Entry) (given : Asked) → option_flatten (slice_get entries q.txn.0) ≡ Some new → asked_query sc q ≡ Some query
    → (given ≡ asked.Waits → new.waiting ≡ Some q) → IsAdded (LockWaits sc entries (item_of query).0) q.txn entry.age (action_of query) given
added sc entries s q query entry new asked.Granted found is waits = λ e. absurd (cc)
added sc entries s q query entry new asked.Waits found is waits = λ e. record { entry = new; found = found; waited = record { q = q; waiting_is = waits refl; query = query; asked_is = is; item_is = refl; mode_is = refl } }
added sc entries s q query entry new (asked.Dies other) found is waits = tt

-- of each owner at most one waits after a request
once_asked : (n : ℕ) (owner : TxnId) (given : Asked) (before after grants : ℕ) → after ≤ before + more_waiting n owner given → before + grants ≤ 1 → (given ≡ asked.Waits → owner.0 ≡ n → before + grants ≡ 0) → after + grants ≤ 1
once_asked n owner asked.Granted before after grants more one none = omega (arith, more, one)
once_asked n owner asked.Waits before after grants more one none = by_number (owner.0 == n) refl more
  where
    by_number : (b : Bool) → (owner.0 == n) ≡ b → after ≤ before + one_if b → after + grants ≤ 1
    by_number true e more = let zero = none refl (eqb-true owner.0 n e) in omega (arith, more, zero)
    by_number false e more = omega (arith, more, one)
once_asked n owner (asked.Dies other) before after grants more one none = omega (arith, more, one)

-- a query asked, and its entry is as it is then: where it is to wait it waits there
asked_locked : (sc : Scenario) (s : Server) (mail : Mail) (q : QueryRequest) (query : Query) (entry new : Entry) (value : ℤ) (given : Asked) → lock_answer s q query entry ≡ given → IsAsking sc s mail q query entry value → q.txn.0 < length s.entries
    → (given ≡ asked.Waits → new.waiting ≡ Some q) → (is_some new.waiting ≡ true → given ≡ asked.Waits) → (item_of query).0 < length sc.items → EntryLocked (after_asking s q query entry).locks q.txn.0 new → LockedMeanwhile sc s.entries s.locks
    → LockedMeanwhile sc (slice_set s.entries q.txn.0 (Some new)) (after_asking s q query entry).locks
asked_locked sc s mail q query entry new value given e k within waits waiting_only on deeds h =
    let entries = slice_set s.entries q.txn.0 (Some new) in
    let after = (after_asking s q query entry).locks in
    let holds : KeepsHeld s.locks after = holds_after in
    record {
      items = length-set s.locks.lists (item_of query).0 _ ∙ h.items;
      orderly = after_request_orderly q.txn entry.age (item_of query) (action_of query) s.locks h.orderly;
      deeds = placed_set (EntryLocked after) s.entries q.txn.0 new (deeds_kept s.locks after s.entries holds h.deeds) deeds;
      waits = requested_locks (LockWaits sc entries) q.txn entry.age (item_of query) (action_of query) s.locks given e
          (locks_as (LockWaits sc s.entries) (LockWaits sc entries) s.locks (λ item lock p. wait_moved sc s.entries q.txn.0 new within item lock (λ own. none_waits) p) h.waits)
          (added sc entries s q query entry new given (ap option_flatten (set_here s.entries q.txn.0 (Some new) within)) k.asked_is waits);
      grants = each_as (GrantFits sc s.entries s.locks) (GrantFits sc entries after) (λ grant p. grant_moved sc s.entries s.locks after q.txn.0 new within holds grant (λ own. none_waits) p) s.locks.grants h.grants;
      asks = placed_others (EntryAsks after) s.entries q.txn.0 new within
          (λ n other found apart some. let one = h.asks n other found some in let more = exact n in omega (arith, one, more))
          (λ some. let more = exact q.txn.0 in let one = its_own (waiting_only some) in omega (arith, more, one));
      once = λ n. once_asked n q.txn given (waiting_on n s.locks.lists) (waiting_on n after.lists) (granted_to n s.locks.grants)
          (request_count n q.txn entry.age (item_of query).0 (action_of query) s.locks.lists given e) (h.once n)
          (λ waiting own. subst (λ (m : ℕ). waiting_on m s.locks.lists + granted_to m s.locks.grants ≡ 0) own (none_left_in_locked sc s.entries s.locks q.txn.0 h idle));
    }
  where
    idle : (old : Entry) → entry_at s q.txn ≡ Some old → old.waiting ≡ None
    idle = idle_at sc s mail q query entry value k

    none_waits : KeepsWaiting sc s.entries q.txn.0 new
    none_waits old found item mode waited = let none = idle old found in let some = waited.waiting_is in absurd (cc)

    holds_after : KeepsHeld s.locks (after_asking s q query entry).locks
    holds_after owner mode item held = holds_requested owner mode item q.txn entry.age (item_of query) (action_of query) s.locks held

    exact : (n : ℕ) → waiting_on n (after_asking s q query entry).locks.lists ≡ waiting_on n s.locks.lists + more_waiting n q.txn given
    exact n = request_exact n q.txn entry.age (item_of query).0 (action_of query) s.locks.lists given (let items = h.items in omega (arith, on, items)) e

    its_own : given ≡ asked.Waits → more_waiting q.txn.0 q.txn given ≡ 1
    its_own waiting = ap (more_waiting q.txn.0 q.txn) waiting ∙ ap one_if (number_itself q.txn.0)

-- the deeds of the entry as it was have their locks still
asked_deeds : (sc : Scenario) (s : Server) (mail : Mail) (q : QueryRequest) (query : Query) (entry : Entry) (value : ℤ) → IsAsking sc s mail q query entry value → LockedMeanwhile sc s.entries s.locks → EntryLocked (after_asking s q query entry).locks q.txn.0 entry
asked_deeds sc s mail q query entry value k h =
    each_as (DeedLocked s.locks q.txn) (DeedLocked (after_asking s q query entry).locks q.txn)
    (λ deed held. holds_requested q.txn deed.action deed.item q.txn entry.age (item_of query) (action_of query) s.locks held) entry.deeds (deeds_then sc s mail q query entry value s.locks k h.deeds)

-- ---- a transaction ends

closed_locked : (sc : Scenario) (entries : List (Option Entry)) (locks : Table) (owner : TxnId) → locks.grants ≡ [] → LockedMeanwhile sc entries locks → LockedMeanwhile sc (slice_set entries owner.0 None) (after_release owner locks)
closed_locked sc entries locks owner taken h =
    let left = slice_set entries owner.0 None in
    record {
      items = length-map locks.lists (left_by owner) ∙ h.items;
      orderly = after_release_orderly owner locks h.orderly;
      deeds = placed_emptied_others (EntryLocked (after_release owner locks)) entries owner.0
          (λ n entry found apart. each_as (DeedLocked locks (record { 0 = n })) (DeedLocked (after_release owner locks) (record { 0 = n }))
          (λ deed held. holds_released (record { 0 = n }) deed.action deed.item owner locks apart held) entry.deeds (h.deeds n entry found));
      waits = released_locks (LockWaits sc entries) (LockWaits sc left) owner locks more_held left_others h.waits;
      grants = released_grants (GrantFits sc left (after_release owner locks)) owner locks grant_fits;
      asks = placed_emptied_others (EntryAsks (after_release owner locks)) entries owner.0
          (λ n entry found apart some.
          let one = h.asks n entry found some in
          let none : granted_to n locks.grants ≡ 0 = ap (granted_to n) taken in
          let moved = release_exact n 0 owner locks.lists (λ same. apart (sym same)) in
          omega (arith, one, none, moved));
      once = λ n. let moved = release_count n 0 owner locks.lists in let one = h.once n in omega (arith, moved, one);
    }
  where
    more_held : (item : ℕ) (lock : LockEntry) (held : Bool) → LockWaits sc (slice_set entries owner.0 None) item lock → LockWaits sc (slice_set entries owner.0 None) item (record lock { held = lock.held || held })
    more_held item lock held k e = let fit = k (or_parts lock.held held e).0 in record { entry = fit.entry; found = fit.found; waited = fit.waited }

    apart_of : (lock : LockEntry) → is_of_other owner lock ≡ true → owner.0 ≡ lock.owner.0 → ⊥
    apart_of lock other same = let its : (lock.owner.0 == owner.0) ≡ true = ap (λ (m : ℕ). m == owner.0) (sym same) ∙ number_itself owner.0 in cc

    fits_left : (item : ℕ) (lock : LockEntry) → is_of_other owner lock ≡ true → WaitFits sc entries item lock → WaitFits sc (slice_set entries owner.0 None) item lock
    fits_left item lock other k = record { entry = k.entry; found = elsewhere_in_locked entries owner.0 lock.owner.0 None k.entry (apart_of lock other) k.found; waited = k.waited }

    left_others : (item : ℕ) (lock : LockEntry) → is_of_other owner lock ≡ true → LockWaits sc entries item lock → LockWaits sc (slice_set entries owner.0 None) item lock
    left_others item lock other k e = fits_left item lock other (k e)

    grant_fits : (grant : Grant) (lock : LockEntry) → IsGrantOf owner locks grant lock → GrantFits sc (slice_set entries owner.0 None) (after_release owner locks) grant
    grant_fits grant lock k =
        let stood = filtered (is_of_other owner) (LockWaits sc entries grant.item.0) k.entries lock k.stood (h.waits grant.item.0 k.entries k.list_is) in
        let fit = fits_left grant.item.0 lock stood.0 (stood.1 k.waited) in
        record {
          entry = fit.entry;
          found = subst (λ (who : TxnId). option_flatten (slice_get (slice_set entries owner.0 None) who.0) ≡ Some fit.entry) (sym k.owner_is) fit.found;
          mode = lock.mode;
          waited = fit.waited;
          held = subst (λ (who : TxnId). Holds who lock.mode (entries_at grant.item (after_release owner locks))) (sym k.owner_is) k.held;
        }

-- ---- a grant is taken

-- what is left of grants fits still
left_grant : (sc : Scenario) (entries : List (Option Entry)) (locks : Table) (grant : Grant) → GrantFits sc entries locks grant → GrantFits sc entries (without_grant locks) grant
left_grant sc entries locks grant h = record { entry = h.entry; found = h.found; mode = h.mode; waited = h.waited; held = h.held }

-- nothing waits for it
passed_locked : (sc : Scenario) (entries : List (Option Entry)) (locks : Table) (grant : Grant) → slice_get locks.grants 0 ≡ Some grant → option_and_then (λ (entry : Entry). entry.waiting) (option_flatten (slice_get entries grant.owner.0)) ≡ None
    → LockedMeanwhile sc entries locks → LockedMeanwhile sc entries (without_grant locks)
passed_locked sc entries locks grant first nobody h =
    record {
      items = h.items;
      orderly = taken_orderly locks h.orderly;
      deeds = h.deeds;
      waits = h.waits;
      grants = each_as (GrantFits sc entries locks) (GrantFits sc entries (without_grant locks)) (left_grant sc entries locks) (drop 1 locks.grants) (each_dropped (GrantFits sc entries locks) locks.grants h.grants);
      asks = λ n entry found some.
          let one = h.asks n entry found some in
          let same = first_of_other n locks.grants grant first (λ own. idle n entry found some own) in
          omega (arith, one, same);
      once = λ n. let fewer = dropped_count n locks.grants in let one = h.once n in omega (arith, fewer, one);
    }
  where
    idle : (n : ℕ) (entry : Entry) → option_flatten (slice_get entries n) ≡ Some entry → is_some entry.waiting ≡ true → grant.owner.0 ≡ n → ⊥
    idle n entry found some own =
        let there : option_flatten (slice_get entries grant.owner.0) ≡ Some entry = subst (λ (m : ℕ). option_flatten (slice_get entries m) ≡ Some entry) (sym own) found in
        let none : entry.waiting ≡ None = sym (ap (option_and_then (λ (e : Entry). e.waiting)) there) ∙ nobody in
        let is_none_there = ap (λ (q : Option QueryRequest). is_some q) none in
        cc

-- what waits for it has the lock of its deed
resumed_has : (sc : Scenario) (s : Server) (at : ServerId) (grant : Grant) (q : QueryRequest) (query : Query) (entry : Entry) (value : ℤ) (deed : Deed) → IsResumed sc at s grant q query entry value → deed.item ≡ item_of query → deed.action ≡ action_of query
    → LockedMeanwhile sc s.entries s.locks → DeedLocked s.locks q.txn deed
resumed_has sc s at grant q query entry value deed k item_is action_is h = by_grant (each_get (GrantFits sc s.entries s.locks) s.locks.grants 0 grant h.grants k.granted)
  where
    by_grant : GrantFits sc s.entries s.locks grant → DeedLocked s.locks q.txn deed
    by_grant first =
        let there : option_flatten (slice_get s.entries grant.owner.0) ≡ Some entry = subst (λ (t : TxnId). option_flatten (slice_get s.entries t.0) ≡ Some entry) (sym k.owner_is) k.found in
        let same : first.entry ≡ entry = same_Some first.entry entry (sym first.found ∙ there) in
        let waiting : Some first.waited.q ≡ Some q = sym first.waited.waiting_is ∙ ap (λ (e : Entry). e.waiting) same ∙ k.waiting_is in
        let asking : first.waited.q ≡ q = same_Some first.waited.q q waiting in
        let query_is : first.waited.query ≡ query = same_Some first.waited.query query (sym first.waited.asked_is ∙ ap (asked_query sc) asking ∙ k.asked_is) in
        let item : grant.item ≡ deed.item = ap (λ (n : ℕ). record { 0 = n }) (sym first.waited.item_is) ∙ ap item_of query_is ∙ sym item_is in
        let mode : first.mode ≡ deed.action = sym first.waited.mode_is ∙ ap action_of query_is ∙ sym action_is in
        subst (λ (i : ItemId). Holds q.txn deed.action (entries_at i s.locks)) item
        (subst (λ (m : Action). Holds q.txn m (entries_at grant.item s.locks)) mode (subst (λ (t : TxnId). Holds t first.mode (entries_at grant.item s.locks)) k.owner_is first.held))

-- it waits no more: it has run, or its proof is false
resumed_locked : (sc : Scenario) (s : Server) (at : ServerId) (grant : Grant) (q : QueryRequest) (query : Query) (entry new : Entry) (value : ℤ) → IsResumed sc at s grant q query entry value → new.waiting ≡ None → EntryLocked s.locks q.txn.0 new
    → LockedMeanwhile sc s.entries s.locks → LockedMeanwhile sc (slice_set s.entries q.txn.0 (Some new)) (without_grant s.locks)
resumed_locked sc s at grant q query entry new value k idle locked h =
    let within = placed_within s.entries q.txn.0 entry k.found in
    let entries = slice_set s.entries q.txn.0 (Some new) in
    let owner : grant.owner.0 ≡ q.txn.0 = ap (λ (t : TxnId). t.0) k.owner_is in
    let counts = first_count q.txn.0 s.locks.grants grant k.granted owner in
    let one = h.once q.txn.0 in
    let none_waits : waiting_on q.txn.0 s.locks.lists ≡ 0 = omega (arith, counts, one) in
    let none_granted : granted_to q.txn.0 (drop 1 s.locks.grants) ≡ 0 = omega (arith, counts, one) in
    let held = held_on q.txn.0 s.locks.lists none_waits in
    let others = not_granted q.txn.0 (drop 1 s.locks.grants) none_granted in
    let granted : Each (GrantFits sc s.entries s.locks) (drop 1 s.locks.grants) = each_dropped (GrantFits sc s.entries s.locks) s.locks.grants h.grants in
    record {
      items = h.items;
      orderly = taken_orderly s.locks h.orderly;
      deeds = placed_set (EntryLocked s.locks) s.entries q.txn.0 new h.deeds locked;
      waits = λ item list found. each_both (IsHeldOf q.txn.0) (LockWaits sc s.entries item) (LockWaits sc entries item)
          (λ lock own p. wait_moved_others sc s.entries q.txn.0 new within item lock own p) list (held item list found) (h.waits item list found);
      grants = each_both (λ (g : Grant). g.owner.0 ≡ q.txn.0 → ⊥) (GrantFits sc s.entries s.locks) (GrantFits sc entries (without_grant s.locks))
          (λ g other p. left_grant sc entries s.locks g (grant_moved sc s.entries s.locks s.locks q.txn.0 new within (λ owner mode item held. held) g (λ own. absurd (other own)) p)) (drop 1 s.locks.grants) others granted;
      asks = placed_others (EntryAsks (without_grant s.locks)) s.entries q.txn.0 new within
          (λ n other found apart some.
          let one = h.asks n other found some in
          let same = first_of_other n s.locks.grants grant k.granted (λ own. apart (sym owner ∙ own)) in
          omega (arith, one, same))
          (λ some. let none = ap (λ (w : Option QueryRequest). is_some w) idle in absurd (cc));
      once = λ n. let fewer = dropped_count n s.locks.grants in let each = h.once n in omega (arith, fewer, each);
    }

-- ---- rows

-- what is known of a query that asks: its transaction has a place, and its item has a list
pub record AskerPlaced (sc : Scenario) (s : Server) (mail : Mail) : Type 0 where
  pub places : length s.entries ≡ length sc.txns
  pub exists : (q : QueryRequest) → mail.letter.body ≡ body.Query q → q.txn.0 < length sc.txns
  pub on_item : (q : QueryRequest) (query : Query) → mail.letter.body ≡ body.Query q → asked_query sc q ≡ Some query → (item_of query).0 < length sc.items

-- every row of a server on receipt of a mail, as grants are taken
row_taking : (sc : Scenario) (s : Server) (mail : Mail) → AreRightWaits sc s → AskerPlaced sc s mail → s.locks.grants ≡ [] → LockedMeanwhile sc s.entries s.locks → RowTaking sc s (server_row sc s mail)
row_taking sc s mail rightly known taken h =
    server_by_locks sc s mail (RowTaking sc s) rightly
    (record {
      ignored = record { state = h; places = refl };
      ran = λ q query entry value proof k granted r.
          let deed = deed_of q.query query value in
          let new = entry_after q entry deed proof in
          let on = known.on_item q query k.said_is k.asked_is in
          let items = h.items in
          let within : (item_of query).0 < length s.locks.lists = omega (arith, on, items) in
          let has : DeedLocked (after_asking s q query entry).locks q.txn deed = holds_granted q.txn entry.age (item_of query) (action_of query) s.locks granted within in
          record {
            state = asked_locked sc s mail q query entry new value asked.Granted granted k (within_for q k.said_is) (λ e. absurd (cc)) (λ some. absurd (not_idle q query entry value k some)) on
                (each_more (DeedLocked (after_asking s q query entry).locks q.txn) entry.deeds deed (asked_deeds sc s mail q query entry value k h) has) h;
            places = length-set s.entries q.txn.0 (Some new);
          };
      denied = λ q query entry value verdict k granted d. let r = answered_locked q query entry value (answer.Denied verdict) asked.Granted granted (λ e. cc) k in record { state = r.state; places = r.places };
      outdated = λ q query entry value newer k granted e. answered_locked q query entry value (answer.Newer newer) asked.Granted granted (λ waits. cc) k;
      waited = λ q query entry value k waiting.
          let new : Entry = record entry { waiting = Some q } in
          record { state = asked_locked sc s mail q query entry new value asked.Waits waiting k (within_for q k.said_is) (λ e. refl) (λ some. refl) (known.on_item q query k.said_is k.asked_is) (asked_deeds sc s mail q query entry value k h) h; places = length-set s.entries q.txn.0 (Some new) };
      died = λ q query entry value other k dying. answered_locked q query entry value (answer.Died other) (asked.Dies other) dying (λ e. cc) k;
      restarted = λ q k. record { state = h; places = refl };
      answered = λ q entry given k. record { state = h; places = refl };
      voted = λ p entry verdicts k.
          let voted : Entry = record entry { ballot = Some (ballot_of (prepared_record (with_wants s p.want) p entry verdicts)) } in
          record { state = voted_locked sc s.entries s.locks p.txn.0 entry voted k.found refl refl h; places = length-set s.entries p.txn.0 (Some voted) };
      shown = λ v entry txn k. record { state = h; places = refl };
      lost_verdicts = λ v k. record { state = h; places = refl };
      voted_again = λ p entry cast k. record { state = h; places = refl };
      refused = λ p entry number value k. record { state = closed_locked sc s.entries s.locks p.txn taken h; places = length-set s.entries p.txn.0 None };
      lost = λ p k. record { state = closed_locked sc s.entries s.locks p.txn taken h; places = length-set s.entries p.txn.0 None };
      refused_again = λ p settled why k. record { state = h; places = refl };
      settled = λ d k. record { state = closed_locked sc s.entries s.locks d.txn taken h; places = length-set s.entries d.txn.0 None };
      acknowledged = λ d settled k. record { state = h; places = refl };
      pushed = λ push k. record { state = h; places = refl };
      passed = λ effect grant first nobody k. record { state = passed_locked sc effect.state.entries effect.state.locks grant first nobody k.state; places = k.places };
      resumed = λ effect grant q query entry value proof k r now.
          let deed = deed_of q.query query value in
          let new = entry_after q (unwaiting entry) deed proof in
          let has : DeedLocked effect.state.locks q.txn deed = resumed_has sc effect.state s.server grant q query entry value deed k refl refl now.state in
          record {
            state = resumed_locked sc effect.state s.server grant q query entry new value k refl (each_more (DeedLocked effect.state.locks q.txn) entry.deeds deed (now.state.deeds q.txn.0 entry k.found) has) now.state;
            places = length-set effect.state.entries q.txn.0 (Some new) ∙ now.places;
          };
      resumed_denied = λ effect grant q query entry value verdict k d now. let r = refused_locked effect grant q query entry value (answer.Denied verdict) k now in record { state = r.state; places = r.places };
      resumed_outdated = λ effect grant q query entry value newer k e now. refused_locked effect grant q query entry value (answer.Newer newer) k now;
    })
  where
    within_for : (q : QueryRequest) → mail.letter.body ≡ body.Query q → q.txn.0 < length s.entries
    within_for q e = let exists = known.exists q e in let places = known.places in omega (arith, exists, places)

    not_idle : (q : QueryRequest) (query : Query) (entry : Entry) (value : ℤ) → IsAsking sc s mail q query entry value → is_some entry.waiting ≡ true → ⊥
    not_idle q query entry value k some = let none = ap (λ (w : Option QueryRequest). is_some w) (idle_then sc s mail q query entry value k) in cc

    -- what waited is given an answer that ends its transaction
    refused_locked : (effect : Effect Server) (grant : Grant) (q : QueryRequest) (query : Query) (entry : Entry) (value : ℤ) (said : Answer) → IsResumed sc s.server effect.state grant q query entry value → RowTaking sc s effect
        → RowTaking sc s (with_locks (followed_by effect (refusing effect.state q entry said)) (without_grant effect.state.locks))
    refused_locked effect grant q query entry value said k now =
        let new = with_answer q (unwaiting entry) said in
        record {
          state = resumed_locked sc effect.state s.server grant q query entry new value k refl (now.state.deeds q.txn.0 entry k.found) now.state;
          places = length-set effect.state.entries q.txn.0 (Some new) ∙ now.places;
        }

    -- the entry of a query that is answered does no more
    answered_locked : (q : QueryRequest) (query : Query) (entry : Entry) (value : ℤ) (said : Answer) (given : Asked) → lock_answer s q query entry ≡ given → (given ≡ asked.Waits → ⊥) → IsAsking sc s mail q query entry value
        → RowTaking sc s (answers_with (after_asking s q query entry) q entry said)
    answered_locked q query entry value said given e settled k =
        let new = with_answer q entry said in
        record {
          state = asked_locked sc s mail q query entry new value given e k (within_for q k.said_is) (λ waits. absurd (settled waits)) (λ some. absurd (not_idle q query entry value k some)) (known.on_item q query k.said_is k.asked_is) (asked_deeds sc s mail q query entry value k h) h;
          places = length-set s.entries q.txn.0 (Some new);
        }

-- every row of a server on receipt of a mail
pub server_row_locked : (sc : Scenario) (s : Server) (mail : Mail) → AreRightWaits sc s → AskerPlaced sc s mail → Locked sc s.entries s.locks → RowLocked sc s (server_row sc s mail)
server_row_locked sc s mail rightly known h =
    let effect = server_row sc s mail in
    let row = row_taking sc s mail rightly known h.taken (locked_first sc s.entries s.locks h) in
    record { state = locked_last sc effect.state.entries effect.state.locks (server_row_taken sc s mail h.taken) row.state; places = row.places }
