-- The calls of a store, as functions on what it has.
use Rattle.std.specs.Prelude.{ℕ, max, List, [], map, replicate, length, Option, slice_get, slice_set, unwrap_or, option_map, ℤ}
use Rattle.std.specs.List.{filter, find}
use Rattle.std.specs.Option.{option_map_or}
use Rattle.tp_model.specs.Words.{AdminId, Item, ItemId, Scenario, ServerDecl, ServerId, TxnId, Version}
use Rattle.tp_model.specs.SerialRun.{number_at, opening_store}
use Rattle.tp_store.specs.declared.writes.Bounds.{Bounds}
use Rattle.tp_store.specs.declared.writes.TentativeWrite.{TentativeWrite}
use Rattle.tp_store.specs.Contents.{Contents}
use Rattle.tp_store.specs.Writes.{first_of, is_on, is_outside, values_after, with_write}

-- ---- before the first step

abbrev pub bounds_of : Item → Bounds
bounds_of item = record { min = item.min; max = item.max }

-- the versions that the scenario says the server knows
abbrev pub known_at_first : Scenario → ServerId → List Version
known_at_first sc server =
    option_map_or (λ (declared : ServerDecl). declared.knows) (slice_get sc.servers server.0) []

-- these ranges, values and versions, and none of so many transactions has a write
abbrev pub over : List Bounds → ℕ → List ℤ → List Version → Contents
over ranges txns values known = record {
  bounds = ranges;
  values = values;
  known = known;
  tentative = replicate txns [];
}

-- the ranges of the scenario's items
abbrev pub ranges_of : Scenario → List Bounds
ranges_of sc = map bounds_of sc.items

-- these values and versions, and no transaction has a write
abbrev pub restored : Scenario → List ℤ → List Version → Contents
restored sc values known = over (ranges_of sc) (length sc.txns) values known

-- all items have their opening values
abbrev pub opening : Scenario → ServerId → Contents
opening sc server = restored sc (opening_store sc) (known_at_first sc server)

-- ---- items

-- the value of an item; 0 where there is no such item
abbrev pub value_in : Contents → ItemId → ℤ
value_in store item = number_at store.values item.0

-- of a table the writes of a transaction; none where there is no such transaction
abbrev pub writes_in : List (List TentativeWrite) → TxnId → List TentativeWrite
writes_in table txn = unwrap_or (slice_get table txn.0) []

abbrev pub writes_of : Contents → TxnId → List TentativeWrite
writes_of store txn = writes_in store.tentative txn

abbrev pub with_writes : Contents → TxnId → List TentativeWrite → Contents
with_writes store txn writes = record store { tentative = slice_set store.tentative txn.0 writes }

-- the write that is kept of a transaction and an item
abbrev pub kept_write : Contents → TxnId → ItemId → Option TentativeWrite
kept_write store txn item = find (is_on item) (writes_of store txn)

abbrev pub value_of : TentativeWrite → ℤ
value_of write = write.value

-- what the transaction itself has written, or else the item's value
abbrev pub read_in : Contents → TxnId → ItemId → ℤ
read_in store txn item = option_map_or value_of (kept_write store txn item) (value_in store item)

-- the last write of the item by query is kept; a transaction that is not there keeps nothing
abbrev pub after_write : Contents → TxnId → TentativeWrite → Contents
after_write store txn write = with_writes store txn (with_write (writes_of store txn) write)

abbrev pub query_and_value : TentativeWrite → ℕ × ℤ
query_and_value write = (write.query, write.value)

-- of the writes outside their ranges that of the least query
abbrev pub first_outside_in : Contents → TxnId → Option (ℕ × ℤ)
first_outside_in store txn =
    option_map query_and_value (first_of (filter (is_outside store.bounds) (writes_of store txn)))

-- the writes of a transaction are the values of their items from now on
abbrev pub after_apply : Contents → TxnId → Contents
after_apply store txn =
    with_writes (record store { values = values_after store.values (writes_of store txn) }) txn []

-- the writes of a transaction are dropped
abbrev pub after_forget : Contents → TxnId → Contents
after_forget store txn = with_writes store txn []

-- ---- versions

-- the newest version known of an administrator; the first where there is no such administrator
abbrev pub newest_in : Contents → AdminId → Version
newest_in store admin = unwrap_or (slice_get store.known admin.0) (record { 0 = 1 })

abbrev pub greater : Version → Version → Version
greater one other = record { 0 = max one.0 other.0 }

-- the greater of the version and of the one known is known
abbrev pub with_version : Contents → AdminId → Version → Contents
with_version store admin version =
    record store { known = slice_set store.known admin.0 (greater (newest_in store admin) version) }
