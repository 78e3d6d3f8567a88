-- What level of consistency a transaction asks of an administrator's versions, and whether it reads the master.
use Rattle.std.specs.Prelude.{slice_get, List, Bool, true, false}
use Rattle.std.specs.List.{list_any}
use Rattle.std.specs.Option.{option_map_or}
use Rattle.tp_model.specs.Words.{AdminId, Item, Level, Query, Scenario, Transaction}
use Rattle.tp_types.specs.declared.scenario.Level.TheVariants.{Global}
use Rattle.tp_model.specs.Queries.{item_of}

abbrev pub is_global : Level → Bool
is_global Global = true
is_global _ = false

-- an administrator that the list of levels lacks is under view consistency
abbrev pub is_global_at : List Level → AdminId → Bool
is_global_at levels admin = option_map_or is_global (slice_get levels admin.0) false

-- the level that a transaction asks for an administrator
abbrev pub level_of : Transaction → AdminId → Level
level_of txn admin = txn.level

-- the level is global for the administrator of the item
abbrev pub is_global_item : Transaction → Item → Bool
is_global_item txn item = is_global (level_of txn item.admin)

-- the query is on an item whose administrator has the level global
abbrev pub is_global_query : Scenario → Transaction → Query → Bool
is_global_query sc txn query =
    option_map_or (is_global_item txn) (slice_get sc.items (item_of query).0) false

-- the transaction reads the newest versions from the master: one of its queries is on an item whose administrator has the level
-- global for it
abbrev pub reads_master : Scenario → Transaction → Bool
reads_master sc txn = list_any (is_global_query sc txn) txn.queries
