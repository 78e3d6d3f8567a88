-- What is made when memory is taken.
use Rattle.std.specs.Prelude.{ℕ, ◌+◌, ◌≡◌, ◌<◌, List, [], ◌∷◌, ◌++◌, length, slice_set}
use Rattle.tp_lock.specs.Rule.{grant_of}
use Rattle.tp_lock.specs.Table.{Table}
use Rattle.tp_lock.specs.declared.entry.LockEntry.{LockEntry}
use Rattle.tp_lock_chain.specs.declared.links.Pool.{Pool}
use Rattle.tp_lock_chain.specs.mirrors.Ends.{ends, lone}
use Rattle.tp_lock_chain.specs.mirrors.Links.{blank}
use Rattle.tp_lock_chain.specs.mirrors.Pool.{IsChained, IsKept, list_of, shown}

abbrev pub opened : ℕ → Pool
opened items = record {
  nodes = [];
  items = ends (items + 1);
  owners = [];
  free = items;
  granted = [];
  given = 0;
  next = 0;
}

-- one ring of an owner more
abbrev pub with_owner : Pool → Pool
with_owner pool = record pool { owners = pool.owners ++ lone (length pool.owners) ∷ [] }

abbrev pub with_place : Pool → Pool
with_place pool =
    record pool { granted = pool.granted ++ grant_of (record { 0 = 0 }) 0 ∷ [] }

-- one node more, with this entry and of this item, in no ring
abbrev pub with_node : ℕ → LockEntry → Pool → Pool
with_node ring entry pool =
    record pool { nodes = pool.nodes ++ record blank { entry = entry; ring = ring } ∷ [] }

-- what holds of the old holds of the new, which shows the same
pub record Keeps (old new : Pool) : Type 0 where
  pub free : new.free ≡ old.free
  pub kept : IsKept old → IsKept new
  pub same : IsKept old → shown new ≡ shown old

-- the table with another list of an item
abbrev pub with_list : ℕ → List LockEntry → Table → Table
with_list item list table = record table { lists = slice_set table.lists item list }

-- the item's list has the entry as its last
pub record Adds (item : ℕ) (entry : LockEntry) (old new : Pool) : Type 0 where
  pub chained : IsKept old → item < old.free → IsChained new
  pub shows : IsKept old → item < old.free
      → shown new ≡ with_list item (list_of old item ++ entry ∷ []) (shown old)
