-- What holds of every store.
use Rattle.std.specs.Prelude.{List, ◌≡◌, ◌≢◌, ℕ, ◌<◌, nat_le, length, Bool, true, false, filter, MatchOption, [], ◌∷◌, not, ◌&&◌, find, Option, Some, slice_get, slice_set, ℤ}
use Rattle.std.specs.List.{list_all, list_any}
use Rattle.std.specs.Option.{option_map_or}
use Rattle.tp_model.specs.Words.{ItemId, TxnId}
use Rattle.tp_model.specs.Ids.{same_item}
use Rattle.tp_store.specs.declared.writes.TentativeWrite.{TentativeWrite}
use Rattle.tp_store.specs.Contents.{Contents}
use Rattle.tp_store.specs.Rule.{after_write, first_outside_in, kept_write, read_in, writes_of}
use Rattle.tp_store.specs.Writes.{is_on, is_outside, values_after, with_write}

-- ---- reads

-- the write is not by an earlier query than the one that is kept
abbrev pub is_last_of : TentativeWrite → Option TentativeWrite → Bool
is_last_of write kept =
    option_map_or (λ (other : TentativeWrite). nat_le other.query write.query) kept true

-- the transaction keeps no write of this item by a later query
abbrev pub is_last : Contents → TxnId → TentativeWrite → Bool
is_last store txn write = is_last_of write (kept_write store txn write.item)

-- after its last write of an item by query, a transaction of the store reads what it wrote
abbrev pub OwnWritesAreRead : Type 0
OwnWritesAreRead =
    (store : Contents) (txn : TxnId) (write : TentativeWrite) → txn.0 < length store.tentative
    → is_last store txn write ≡ true
    → read_in (after_write store txn write) txn write.item ≡ write.value

-- a write changes nothing that is kept of another item
abbrev pub OtherItemsStay : Type 0
OtherItemsStay =
    (store : Contents) (txn : TxnId) (write : TentativeWrite) (item : ItemId)
    → txn.0 < length store.tentative → same_item write.item item ≡ false
    → kept_write (after_write store txn write) txn item ≡ kept_write store txn item

-- nor what is kept of another transaction
abbrev pub OtherTransactionsStay : Type 0
OtherTransactionsStay =
    (store : Contents) (txn other : TxnId) (write : TentativeWrite) → other.0 ≢ txn.0
    → writes_of (after_write store txn write) other ≡ writes_of store other

-- ---- ranges

abbrev pub is_not_before : ℕ → TentativeWrite → Bool
is_not_before query write = nat_le query write.query

-- one of the transaction's writes is of this query and this value and outside its range, and each that is outside is not of a lesser query
pub record IsLeastOutside (store : Contents) (txn : TxnId) (first : ℕ × ℤ) : Type 0 where
  pub write : TentativeWrite
  pub at : ℕ
  pub kept : slice_get (writes_of store txn) at ≡ Some write
  pub query : first.0 ≡ write.query
  pub value : first.1 ≡ write.value
  pub outside : is_outside store.bounds write ≡ true
  pub least : list_all (is_not_before first.0) (filter (is_outside store.bounds) (writes_of store txn))
      ≡ true

-- None is answered where each write is within its range, and else the least that is outside
abbrev pub FirstOutsideIsLeast : Type 0
FirstOutsideIsLeast = (store : Contents) (txn : TxnId)
    → MatchOption (first_outside_in store txn)
    (list_any (is_outside store.bounds) (writes_of store txn) ≡ false) (IsLeastOutside store txn)

-- ---- what is applied

-- no two of the writes are of one item
abbrev pub are_apart : List TentativeWrite → Bool
are_apart [] = true
are_apart (write ∷ writes) = not (list_any (is_on write.item) writes) && are_apart writes

-- applying one write more, where it is the last of its item by query, is applying the others and then setting its item
abbrev pub AppliedInOrder : Type 0
AppliedInOrder =
    (values : List ℤ) (writes : List TentativeWrite) (write : TentativeWrite)
    → are_apart writes ≡ true
    → is_last_of write (find (is_on write.item) writes) ≡ true
    → values_after values (with_write writes write)
    ≡ slice_set (values_after values writes) write.item.0 write.value

-- and it leaves no two of one item
abbrev pub StayApart : Type 0
StayApart =
    (writes : List TentativeWrite) (write : TentativeWrite) → are_apart writes ≡ true
    → are_apart (with_write writes write) ≡ true
