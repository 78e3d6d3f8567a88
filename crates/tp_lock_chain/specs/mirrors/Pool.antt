-- What a pool of nodes shows, and what it keeps.
use Rattle.std.specs.Prelude.{ℕ, suc, ◌≡◌, ◌≢◌, ◌≤◌, ◌<◌, ◌==◌, ◌&&◌, not, nat_lt, List, [], ◌∷◌, Bool, true, length, map, take, drop}
use Rattle.std.specs.List.{range_with_len}
use Rattle.tp_lock.specs.declared.entry.Grant.{Grant}
use Rattle.tp_lock.specs.declared.entry.LockEntry.{LockEntry}
use Rattle.tp_lock.specs.Order.{AreOrderly}
use Rattle.tp_lock.specs.Table.{Table}
use Rattle.tp_lock_chain.specs.declared.links.Kind.{Kind}
use Rattle.tp_lock_chain.specs.declared.links.Kind.TheVariants.{Item, Owner}
use Rattle.tp_lock_chain.specs.declared.links.Pool.{Pool}
use Rattle.tp_lock_chain.specs.declared.links.Spot.TheVariants.{End}
use Rattle.tp_lock_chain.specs.mirrors.Links.{links, node_at}
use Rattle.tp_lock_chain.specs.mirrors.Rings.{AreRings, walk}

-- ---- what it shows

-- the nodes of a ring, from its end on
abbrev pub ring_of : Kind → Pool → ℕ → List ℕ
ring_of kind pool ring = walk (length pool.nodes) (links kind pool) (links kind pool (End ring)).after

abbrev pub entry_at : Pool → ℕ → LockEntry
entry_at pool node = (node_at pool node).entry

abbrev pub entries_of : Pool → List ℕ → List LockEntry
entries_of pool nodes = map (entry_at pool) nodes

-- the list of an item
abbrev pub list_of : Pool → ℕ → List LockEntry
list_of pool ring = entries_of pool (ring_of Item pool ring)

abbrev pub grants_of : Pool → List Grant
grants_of pool = drop pool.next (take pool.given pool.granted)

abbrev pub shown : Pool → Table
shown pool = record {
  lists = map (list_of pool) (range_with_len 0 pool.free);
  grants = grants_of pool;
}

-- ---- what it keeps

abbrev pub is_there : Pool → ℕ → Bool
is_there pool node = nat_lt node (length pool.nodes)

-- the node is one of the ring of an item, or of that of free nodes
abbrev pub in_item : Pool → ℕ → ℕ → Bool
in_item pool ring node = is_there pool node && ((node_at pool node).ring == ring)

-- the node is used, and one of the owner's
abbrev pub in_owner : Pool → ℕ → ℕ → Bool
in_owner pool owner node =
    is_there pool node
    && (not ((node_at pool node).ring == pool.free) && ((node_at pool node).entry.owner.0 == owner))

-- these nodes go by items, none of which is below this one
abbrev pub AreRising : Pool → ℕ → List ℕ → Type 0
AreRising pool low [] = Unit {0}
AreRising pool low (node ∷ nodes) =
    (low ≤ (node_at pool node).ring) × AreRising pool (node_at pool node).ring nodes

-- Used and free nodes are all, and each is in the ring of its item, or in that of free nodes, and in no other of these;
-- a used one is in the ring of its owner and in no other of these, and a free one in none. Each is there once, and
-- links agree both ways.
pub record IsChained (pool : Pool) : Type 0 where
  pub items : AreRings (links Item pool) (length pool.items) (in_item pool) (ring_of Item pool)
  pub owners : AreRings (links Owner pool) (length pool.owners) (in_owner pool) (ring_of Owner pool)
  pub ends : length pool.items ≡ suc pool.free
  pub placed : (node : ℕ) → is_there pool node ≡ true → (node_at pool node).ring ≤ pool.free
  pub owned : (node : ℕ) → is_there pool node ≡ true → (node_at pool node).ring ≢ pool.free
      → (node_at pool node).entry.owner.0 < length pool.owners
  -- the nodes of an owner go by items
  pub rising : (owner : ℕ) → owner < length pool.owners → AreRising pool 0 (ring_of Owner pool owner)
  -- there is a place for the grant of each node
  pub room : length pool.nodes ≤ length pool.granted
  pub given : pool.given ≤ length pool.granted

pub record IsKept (pool : Pool) : Type 0 where
  pub chained : IsChained pool
  pub order : AreOrderly (shown pool)
