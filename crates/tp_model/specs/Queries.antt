-- What a transaction's queries are about.
use Rattle.std.specs.Prelude.{ℕ, ◌+◌, ◌==◌, List, [], ◌∷◌, length, slice_get, Bool, true, false, Option, Some, None, ℤ, neg_ℤ, if◌then◌else◌, zero, suc}
use Rattle.std.specs.List.{list_any}
use Rattle.std.specs.Option.{option_map_or}
use Rattle.tp_model.specs.Words.{Item, ItemId, Query, Scenario, ServerId, Transaction}
use Rattle.tp_types.specs.declared.scenario.Query.TheVariants.{Read, Write}

-- the member of a list that has exactly one
abbrev pub only : {A : Type 0} → List A → Option A
only [] = None
only (x ∷ []) = Some x
only (x ∷ y ∷ rest) = None

-- the item that a query reads or writes
abbrev pub item_of : Query → ItemId
item_of (Read item into) = item
item_of (Write item expr) = item

-- a transaction's query by its number, which counts from 1
abbrev pub query_at : Transaction → ℕ → Option Query
query_at txn zero = None
query_at txn (suc before) = slice_get txn.queries before

abbrev pub with_sign : Bool → ℤ → ℤ
with_sign false x = x
with_sign true x = neg_ℤ x

-- the query is on an item of this server
abbrev pub is_at_server : Scenario → ℕ → Query → Bool
is_at_server scenario server query =
    option_map_or (λ (item : Item). item.server.0 == server)
    (slice_get scenario.items (item_of query).0) false

-- of so many servers from one on, those with a query on an item of theirs
abbrev pub servers_from : Scenario → List Query → ℕ → ℕ → List ServerId
servers_from scenario queries server zero = []
servers_from scenario queries server (suc left) =
    if list_any (is_at_server scenario server) queries
    then record { 0 = server } ∷ servers_from scenario queries (server + 1) left
    else servers_from scenario queries (server + 1) left

-- the servers of a transaction's queries, in order of number, each once
abbrev pub servers_of : Scenario → Transaction → List ServerId
servers_of scenario txn = servers_from scenario txn.queries 0 (length scenario.servers)
