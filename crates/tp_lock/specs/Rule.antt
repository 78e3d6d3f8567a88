-- The rules of a table of locks, as functions on its lists.
use Rattle.std.specs.Prelude.{ℕ, suc, ◌==◌, ◌++◌, ◌&&◌, ◌||◌, not, nat_lt, List, [], ◌∷◌, Bool, true, false, if◌then◌else◌, map, filter, drop, Option, Some, None, slice_get, slice_set, slice_index_or, replicate}
use Rattle.std.specs.List.{find, list_any}
use Rattle.tp_types.specs.declared.ids.ItemId.{ItemId}
use Rattle.tp_types.specs.declared.ids.TxnId.{TxnId}
use Rattle.tp_types.specs.declared.policy.Action.{Action}
use Rattle.tp_types.specs.declared.policy.Action.TheVariants.{Read, Write}
use Rattle.tp_lock.specs.declared.entry.Asked.{Asked}
use Rattle.tp_lock.specs.declared.entry.Asked.TheVariants.{Granted, Waits, Dies}
use Rattle.tp_lock.specs.declared.entry.Grant.{Grant}
use Rattle.tp_lock.specs.declared.entry.LockEntry.{LockEntry}
use Rattle.tp_lock.specs.Table.{Table}

-- ---- one entry

abbrev pub is_write : Action → Bool
is_write Read = false
is_write Write = true

abbrev pub is_of : TxnId → LockEntry → Bool
is_of owner entry = entry.owner.0 == owner.0

abbrev pub is_of_other : TxnId → LockEntry → Bool
is_of_other owner entry = not (is_of owner entry)

-- a lock of the owner in this mode conflicts with an entry of another owner where one of the two writes
abbrev pub conflicts : TxnId → Action → LockEntry → Bool
conflicts owner mode entry = is_of_other owner entry && (is_write mode || is_write entry.mode)

-- the entry is a lock that the owner holds, in this mode or to write
abbrev pub serves : TxnId → Action → LockEntry → Bool
serves owner mode entry =
    entry.held && (is_of owner entry && (is_write entry.mode || not (is_write mode)))

-- the entry has a smaller age; of two equal ages the greater number counts as greater
abbrev pub is_older : TxnId → ℕ → LockEntry → Bool
is_older owner age entry =
    nat_lt entry.age age || (entry.age == age && nat_lt entry.owner.0 owner.0)

-- the entry conflicts, and is older
abbrev pub is_elder : TxnId → ℕ → Action → LockEntry → Bool
is_elder owner age mode entry = conflicts owner mode entry && is_older owner age entry

-- ---- a request, at the list of its item

abbrev pub waits_or_dies : Option LockEntry → Asked
waits_or_dies None = Waits
waits_or_dies (Some elder) = Dies elder.owner

-- the answer where the owner holds no lock that serves
abbrev pub answer_to_new : TxnId → ℕ → Action → List LockEntry → Asked
answer_to_new owner age mode entries =
    if list_any (conflicts owner mode) entries
    then waits_or_dies (find (is_elder owner age mode) entries)
    else Granted

abbrev pub answer : TxnId → ℕ → Action → List LockEntry → Asked
answer owner age mode entries =
    if list_any (serves owner mode) entries then Granted else answer_to_new owner age mode entries

abbrev pub lock_of : TxnId → ℕ → Action → Bool → LockEntry
lock_of owner age mode held = record { owner = owner; age = age; mode = mode; held = held }

-- the list with the entry that an answer adds
abbrev pub with_answer : TxnId → ℕ → Action → Asked → List LockEntry → List LockEntry
with_answer owner age mode Granted entries = entries ++ lock_of owner age mode true ∷ []
with_answer owner age mode Waits entries = entries ++ lock_of owner age mode false ∷ []
with_answer owner age mode (Dies other) entries = entries

abbrev pub with_lock : TxnId → ℕ → Action → List LockEntry → List LockEntry
with_lock owner age mode entries =
    if list_any (serves owner mode) entries then entries
    else with_answer owner age mode (answer_to_new owner age mode entries) entries

-- ---- a release, at one list

-- no earlier entry conflicts
abbrev pub is_clear : List LockEntry → LockEntry → Bool
is_clear earlier entry = not (list_any (conflicts entry.owner entry.mode) earlier)

-- the entry waits, and is clear
abbrev pub is_granted : List LockEntry → LockEntry → Bool
is_granted earlier entry = not entry.held && is_clear earlier entry

abbrev pub with_grant : List LockEntry → LockEntry → LockEntry
with_grant earlier entry = record entry { held = entry.held || is_granted earlier entry }

-- the entries of a list after the earlier ones, each that waits and is clear now held
abbrev pub with_grants_from : List LockEntry → List LockEntry → List LockEntry
with_grants_from earlier [] = []
with_grants_from earlier (entry ∷ entries) =
    with_grant earlier entry ∷ with_grants_from (earlier ++ with_grant earlier entry ∷ []) entries

-- the list without the owner
abbrev pub left_by : TxnId → List LockEntry → List LockEntry
left_by owner entries = with_grants_from [] (filter (is_of_other owner) entries)

abbrev pub grant_of : TxnId → ℕ → Grant
grant_of owner item = record { owner = owner; item = record { 0 = item } }

-- a grant for each entry that becomes held, in the list's order
abbrev pub grants_from : ℕ → List LockEntry → List LockEntry → List Grant
grants_from item earlier [] = []
grants_from item earlier (entry ∷ entries) =
    (if is_granted earlier entry then grant_of entry.owner item ∷ [] else [])
    ++ grants_from item (earlier ++ with_grant earlier entry ∷ []) entries

abbrev pub grants_in : TxnId → ℕ → List LockEntry → List Grant
grants_in owner item entries = grants_from item [] (filter (is_of_other owner) entries)

-- the grants of a release in the lists of the items from this one on
abbrev pub grants_of : TxnId → ℕ → List (List LockEntry) → List Grant
grants_of owner item [] = []
grants_of owner item (entries ∷ lists) =
    grants_in owner item entries ++ grants_of owner (suc item) lists

-- ---- the calls of a table

abbrev pub opening : ℕ → Table
opening items = record { lists = replicate items []; grants = [] }

abbrev pub entries_at : ItemId → Table → List LockEntry
entries_at item table = slice_index_or table.lists item.0 []

abbrev pub answer_at : TxnId → ℕ → ItemId → Action → Table → Asked
answer_at owner age item mode table = answer owner age mode (entries_at item table)

abbrev pub after_request : TxnId → ℕ → ItemId → Action → Table → Table
after_request owner age item mode table = record table {
  lists = slice_set table.lists item.0 (with_lock owner age mode (entries_at item table));
}

abbrev pub after_release : TxnId → Table → Table
after_release owner table = record {
  lists = map (left_by owner) table.lists;
  grants = grants_of owner 0 table.lists;
}

abbrev pub first_grant : Table → Option Grant
first_grant table = slice_get table.grants 0

abbrev pub without_grant : Table → Table
without_grant table = record table { grants = drop 1 table.grants }
