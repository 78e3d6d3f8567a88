-- Locks at a server: what is kept of each, of grants that nobody has taken, and of deeds.
use Rattle.std.proofs.Common.{List, Option, Some, [], ap, arith, false, is_some, length, slice_get, subst, sym, true, ℕ, ◌+◌, ◌≡◌, ◌≤◌}
use Rattle.std.specs.Option.{option_flatten}
use Rattle.tp_model.specs.Words.{Action, Deed, Query, QueryRequest, Scenario, TxnId}
use Rattle.tp_lock.specs.Laws.{Holds}
use Rattle.tp_lock.specs.Order.{AreOrderly}
use Rattle.tp_lock.specs.Rule.{entries_at}
use Rattle.tp_lock.specs.Table.{Table}
use Rattle.tp_lock.specs.declared.entry.Grant.{Grant}
use Rattle.tp_lock.specs.declared.entry.LockEntry.{LockEntry}
use Rattle.tp_model.specs.Authorisation.{action_of}
use Rattle.tp_model.specs.Queries.{item_of}
use Rattle.tp_runs.proofs.basics.LockCounts.{granted_to, waiting_on}
use Rattle.tp_runs.proofs.basics.Locks.{EachLock}
use Rattle.tp_types.specs.Each.{Each, EachPlaced}
use Rattle.tp_server.specs.declared.server.Entry.{Entry}
use Rattle.tp_server.specs.Row.{asked_query}

-- the query that waits at an entry is for this item in this mode
pub record IsWaitedFor (sc : Scenario) (entry : Entry) (item : ℕ) (mode : Action) : Type 0 where
  pub q : QueryRequest
  pub waiting_is : entry.waiting ≡ Some q
  pub query : Query
  pub asked_is : asked_query sc q ≡ Some query
  pub item_is : (item_of query).0 ≡ item
  pub mode_is : action_of query ≡ mode

-- a lock that waits is that of the query which waits at its owner's entry
pub record WaitFits (sc : Scenario) (entries : List (Option Entry)) (item : ℕ) (lock : LockEntry) : Type 0 where
  pub entry : Entry
  pub found : option_flatten (slice_get entries lock.owner.0) ≡ Some entry
  pub waited : IsWaitedFor sc entry item lock.mode

abbrev pub LockWaits : Scenario → List (Option Entry) → ℕ → LockEntry → Type 0
LockWaits sc entries item lock = lock.held ≡ false → WaitFits sc entries item lock

-- a grant that nobody has taken is of the query that waits at its owner's entry, and its lock is held
pub record GrantFits (sc : Scenario) (entries : List (Option Entry)) (locks : Table) (grant : Grant) : Type 0 where
  pub entry : Entry
  pub found : option_flatten (slice_get entries grant.owner.0) ≡ Some entry
  pub mode : Action
  pub waited : IsWaitedFor sc entry grant.item.0 mode
  pub held : Holds grant.owner mode (entries_at grant.item locks)

-- a deed has a lock of its owner on its item, of its action or to write
abbrev pub DeedLocked : Table → TxnId → Deed → Type 0
DeedLocked locks owner deed = Holds owner deed.action (entries_at deed.item locks)

abbrev pub EntryLocked : Table → ℕ → Entry → Type 0
EntryLocked locks n entry = Each (DeedLocked locks (record { 0 = n })) entry.deeds

-- an entry at which a query waits has a lock that waits, or a grant that nobody has taken
abbrev pub EntryAsks : Table → ℕ → Entry → Type 0
EntryAsks locks n entry = is_some entry.waiting ≡ true → 1 ≤ waiting_on n locks.lists + granted_to n locks.grants

-- the locks of a server with these entries while it takes grants: there is a list for each item and each is orderly, deeds have their locks,
-- what waits is what queries wait for, each query that waits has asked, and of an owner at most one lock waits or grant is left
pub record LockedMeanwhile (sc : Scenario) (entries : List (Option Entry)) (locks : Table) : Type 0 where
  pub items : length locks.lists ≡ length sc.items
  pub orderly : AreOrderly locks
  pub deeds : EachPlaced (EntryLocked locks) entries
  pub waits : EachLock (LockWaits sc entries) locks
  pub grants : Each (GrantFits sc entries locks) locks.grants
  pub asks : EachPlaced (EntryAsks locks) entries
  pub once : (n : ℕ) → waiting_on n locks.lists + granted_to n locks.grants ≤ 1

-- and between receipts: no grant is left, so each query that waits has a lock that waits
pub record Locked (sc : Scenario) (entries : List (Option Entry)) (locks : Table) : Type 0 where
  pub items : length locks.lists ≡ length sc.items
  pub orderly : AreOrderly locks
  pub deeds : EachPlaced (EntryLocked locks) entries
  pub waits : EachLock (LockWaits sc entries) locks
  pub asks : EachPlaced (λ (n : ℕ) (entry : Entry). is_some entry.waiting ≡ true → 1 ≤ waiting_on n locks.lists) entries
  pub once : (n : ℕ) → waiting_on n locks.lists ≤ 1
  pub taken : locks.grants ≡ []

none_left_of : (n : ℕ) (locks : Table) → locks.grants ≡ [] → granted_to n locks.grants ≡ 0
none_left_of n locks e = ap (granted_to n) e

-- a receipt begins between receipts
pub locked_first : (sc : Scenario) (entries : List (Option Entry)) (locks : Table) → Locked sc entries locks → LockedMeanwhile sc entries locks
locked_first sc entries locks h =
    record {
      items = h.items;
      orderly = h.orderly;
      deeds = h.deeds;
      waits = h.waits;
      grants = subst (Each (GrantFits sc entries locks)) (sym h.taken) tt;
      asks = λ n entry found some. let one = h.asks n entry found some in omega (arith, one);
      once = λ n. let one = h.once n in let none = none_left_of n locks h.taken in omega (arith, one, none);
    }

-- and ends so, once all grants are taken
pub locked_last : (sc : Scenario) (entries : List (Option Entry)) (locks : Table) → locks.grants ≡ [] → LockedMeanwhile sc entries locks → Locked sc entries locks
locked_last sc entries locks taken h =
    record {
      items = h.items;
      orderly = h.orderly;
      deeds = h.deeds;
      waits = h.waits;
      asks = λ n entry found some. let one = h.asks n entry found some in let none = none_left_of n locks taken in omega (arith, one, none);
      once = λ n. let one = h.once n in omega (arith, one);
      taken = taken;
    }
