-- The laws of a table of locks.
use Rattle.std.specs.Prelude.{◌≡◌, ◌≢◌, ℕ, ◌++◌, ◌&&◌, not, List, [], ◌∷◌, true, false, if◌then◌else◌, filter, Option, Some, None}
use Rattle.std.specs.List.{All, Contains, enumerate_from, filter_map, find, flat_map, list_any, zip}
use Rattle.tp_types.specs.declared.ids.ItemId.{ItemId}
use Rattle.tp_types.specs.declared.ids.TxnId.{TxnId}
use Rattle.tp_types.specs.declared.policy.Action.{Action}
use Rattle.tp_lock.specs.declared.entry.Asked.{Asked}
use Rattle.tp_lock.specs.declared.entry.Asked.TheVariants.{Granted, Waits, Dies}
use Rattle.tp_lock.specs.declared.entry.Grant.{Grant}
use Rattle.tp_lock.specs.declared.entry.LockEntry.{LockEntry}
use Rattle.tp_lock.specs.Order.{AreOrderly, EachAfter, HeldDoNotConflict, IsOrderly, all_let_wait, is_younger}
use Rattle.tp_lock.specs.Rule.{after_release, after_request, answer, conflicts, grant_of, grants_in, is_clear, is_elder, is_of, is_of_other, is_older, left_by, lock_of, opening, serves, with_lock, without_grant}
use Rattle.tp_lock.specs.Table.{Table}

-- of two owners the one is older exactly where the other is not
abbrev pub AgesAreOrdered : Type 0
AgesAreOrdered =
    (owner : TxnId) (age : ℕ) (entry : LockEntry) → is_of_other owner entry ≡ true
    → is_younger owner age entry ≡ not (is_older owner age entry)

-- an entry is older than another
abbrev pub IsBefore : LockEntry → LockEntry → Type 0
IsBefore first second = is_older second.owner second.age first ≡ true

-- nobody is older than itself, so no two are older than one another
abbrev pub NobodyIsOlderThanItself : Type 0
NobodyIsOlderThanItself = (entry : LockEntry) → IsBefore entry entry → ⊥

-- who is older than an older one is older, so nobody waits for one that waits for it, directly or through others, where each owner has
-- one age in all its entries
abbrev pub OlderThanTheOlder : Type 0
OlderThanTheOlder =
    (first second third : LockEntry) → IsBefore first second → IsBefore second third
    → IsBefore first third

-- ---- a request

-- this is answered, and these entries are left
pub record Gives (owner : TxnId) (age : ℕ) (mode : Action) (entries : List LockEntry)
    (asked : Asked) (left : List LockEntry) : Type 0 where
  pub answered : answer owner age mode entries ≡ asked
  pub leaves : with_lock owner age mode entries ≡ left

-- the four cases of a request, the first that fits
pub record IsAnswered (owner : TxnId) (age : ℕ) (mode : Action) (entries : List LockEntry)
    : Type 0 where
  -- the owner holds a lock in this mode or to write
  pub served : list_any (serves owner mode) entries ≡ true
      → Gives owner age mode entries Granted entries
  -- no entry conflicts
  pub free : list_any (serves owner mode) entries ≡ false
      → list_any (conflicts owner mode) entries ≡ false
      → Gives owner age mode entries Granted (entries ++ lock_of owner age mode true ∷ [])
  -- some entry conflicts, and each that does has a greater age
  pub waits : list_any (serves owner mode) entries ≡ false
      → list_any (conflicts owner mode) entries ≡ true → all_let_wait owner age mode entries ≡ true
      → Gives owner age mode entries Waits (entries ++ lock_of owner age mode false ∷ [])
  -- one that conflicts has a smaller age: the first such is named
  pub dies : list_any (serves owner mode) entries ≡ false
      → all_let_wait owner age mode entries ≡ false
      → (elder : LockEntry) × (find (is_elder owner age mode) entries ≡ Some elder)
      × Gives owner age mode entries (Dies elder.owner) entries

abbrev pub RequestsAreAnswered : Type 0
RequestsAreAnswered =
    (owner : TxnId) (age : ℕ) (mode : Action) (entries : List LockEntry)
    → IsAnswered owner age mode entries

-- an owner holds a lock that serves it in this mode
abbrev pub Holds : TxnId → Action → List LockEntry → Type 0
Holds owner mode entries = list_any (serves owner mode) entries ≡ true

-- who is granted a lock holds one that serves
abbrev pub GrantedIsHeld : Type 0
GrantedIsHeld =
    (owner : TxnId) (age : ℕ) (mode : Action) (entries : List LockEntry)
    → answer owner age mode entries ≡ Granted
    → Holds owner mode (with_lock owner age mode entries)

-- what an owner holds it keeps through every request
abbrev pub KeptByRequests : Type 0
KeptByRequests =
    (holder : TxnId) (held : Action) (owner : TxnId) (age : ℕ) (mode : Action)
    (entries : List LockEntry)
    → Holds holder held entries → Holds holder held (with_lock owner age mode entries)

-- and through the releases of others
abbrev pub KeptByReleases : Type 0
KeptByReleases =
    (holder : TxnId) (held : Action) (owner : TxnId) (entries : List LockEntry) → holder.0 ≢ owner.0
    → Holds holder held entries → Holds holder held (left_by owner entries)

-- ---- order

abbrev pub OpeningIsOrderly : Type 0
OpeningIsOrderly = (items : ℕ) → AreOrderly (opening items)

abbrev pub RequestsKeepOrder : Type 0
RequestsKeepOrder =
    (owner : TxnId) (age : ℕ) (item : ItemId) (mode : Action) (table : Table) → AreOrderly table
    → AreOrderly (after_request owner age item mode table)

abbrev pub ReleasesKeepOrder : Type 0
ReleasesKeepOrder =
    (owner : TxnId) (table : Table) → AreOrderly table → AreOrderly (after_release owner table)

abbrev pub TakingKeepsOrder : Type 0
TakingKeepsOrder = (table : Table) → AreOrderly table → AreOrderly (without_grant table)

-- in an orderly list no two locks that are held conflict
abbrev pub OrderExcludes : Type 0
OrderExcludes = (entries : List LockEntry) → IsOrderly entries → HeldDoNotConflict entries

-- ---- a release

-- the owner has no entry left
abbrev pub OwnersAreGone : Type 0
OwnersAreGone =
    (owner : TxnId) (entries : List LockEntry)
    → list_any (is_of owner) (left_by owner entries) ≡ false

-- only whether an entry is held may have changed, from waiting to held
pub record IsGrown (old new : LockEntry) : Type 0 where
  pub same : new ≡ record old { held = new.held }
  pub stays : old.held ≡ true → new.held ≡ true

-- so many entries as before in the same order, each grown
abbrev pub AreGrown : List LockEntry → List LockEntry → Type 0
AreGrown [] [] = Unit {0}
AreGrown [] (new ∷ news) = ⊥
AreGrown (old ∷ olds) [] = ⊥
AreGrown (old ∷ olds) (new ∷ news) = IsGrown old new × AreGrown olds news

-- the entries of other owners stay, in their order
abbrev pub OthersStay : Type 0
OthersStay =
    (owner : TxnId) (entries : List LockEntry)
    → AreGrown (filter (is_of_other owner) entries) (left_by owner entries)

-- what is clear of what stands before it is held
abbrev pub ClearIsHeld : Type 0
ClearIsHeld =
    (owner : TxnId) (entries : List LockEntry)
    → EachAfter (λ earlier entry. is_clear earlier entry ≡ true → entry.held ≡ true) []
    (left_by owner entries)

-- a grant where an entry waited before and is held now
abbrev pub grant_between : ℕ → LockEntry × LockEntry → Option Grant
grant_between item pair =
    if not pair.0.held && pair.1.held then Some (grant_of pair.1.owner item) else None

-- the grants of an item are for the entries that waited and are held now, in the list's order
abbrev pub GrantsAreThose : Type 0
GrantsAreThose = (owner : TxnId) (item : ℕ) (entries : List LockEntry)
    → grants_in owner item entries
    ≡ filter_map (grant_between item)
    (zip (filter (is_of_other owner) entries) (left_by owner entries))

-- a grant is for an entry that stood there and waited, and that is held now with nothing else changed
pub record IsGrantFor (item : ℕ) (old new : List LockEntry) (grant : Grant) : Type 0 where
  pub entry : LockEntry
  pub waited : entry.held ≡ false
  pub stood : Contains old entry
  pub stands : Contains new (record entry { held = true })
  pub names : grant ≡ grant_of entry.owner item

abbrev pub GrantsAreHeld : Type 0
GrantsAreHeld = (owner : TxnId) (item : ℕ) (entries : List LockEntry)
    → All (IsGrantFor item (filter (is_of_other owner) entries) (left_by owner entries))
    (grants_in owner item entries)

-- the grants of a release are those of the items, by number
abbrev pub GrantsGoByItem : Type 0
GrantsGoByItem = (owner : TxnId) (table : Table)
    → (after_release owner table).grants
    ≡ flat_map (λ numbered. grants_in owner numbered.0 numbered.1) (enumerate_from 0 table.lists)

-- nothing changes in an orderly list where the owner has no entry
pub record IsUntouched (owner : TxnId) (item : ℕ) (entries : List LockEntry) : Type 0 where
  pub stays : left_by owner entries ≡ entries
  pub no_grants : grants_in owner item entries ≡ []

abbrev pub AbsentChangesNothing : Type 0
AbsentChangesNothing =
    (owner : TxnId) (item : ℕ) (entries : List LockEntry) → IsOrderly entries
    → list_any (is_of owner) entries ≡ false → IsUntouched owner item entries
