-- What the links of nodes are, and what each change leaves of them.
use Rattle.std.specs.Prelude.{ℕ, List, false, slice_index_or, slice_set}
use Rattle.tp_types.specs.declared.policy.Action.TheVariants.{Read}
use Rattle.tp_lock.specs.declared.entry.LockEntry.{LockEntry}
use Rattle.tp_lock_chain.specs.declared.links.Kind.{Kind}
use Rattle.tp_lock_chain.specs.declared.links.Kind.TheVariants.{Item, Owner}
use Rattle.tp_lock_chain.specs.declared.links.Node.{Node}
use Rattle.tp_lock_chain.specs.declared.links.Pair.{Pair}
use Rattle.tp_lock_chain.specs.declared.links.Pool.{Pool}
use Rattle.tp_lock_chain.specs.declared.links.Spot.{Spot}
use Rattle.tp_lock_chain.specs.declared.links.Spot.TheVariants.{End, On}

abbrev pub nowhere : Pair
nowhere = record { before = End 0; after = End 0 }

abbrev pub blank : Node
blank = record {
  entry = record { owner = record { 0 = 0 }; age = 0; mode = Read; held = false };
  ring = 0;
  by_item = nowhere;
  by_owner = nowhere;
}

abbrev pub node_at : Pool → ℕ → Node
node_at pool node = slice_index_or pool.nodes node blank

abbrev pub end_of : List Pair → ℕ → Pair
end_of ends ring = slice_index_or ends ring nowhere

abbrev pub pair_of : Kind → Node → Pair
pair_of Item node = node.by_item
pair_of Owner node = node.by_owner

abbrev pub with_pair : Kind → Pair → Node → Node
with_pair Item pair node = record node { by_item = pair }
with_pair Owner pair node = record node { by_owner = pair }

abbrev pub links : Kind → Pool → Spot → Pair
links Item pool (End ring) = end_of pool.items ring
links Owner pool (End ring) = end_of pool.owners ring
links kind pool (On node) = pair_of kind (node_at pool node)

abbrev pub with_links : Kind → Spot → Pair → Pool → Pool
with_links Item (End ring) pair pool = record pool { items = slice_set pool.items ring pair }
with_links Owner (End ring) pair pool = record pool { owners = slice_set pool.owners ring pair }
with_links kind (On node) pair pool =
    record pool { nodes = slice_set pool.nodes node (with_pair kind pair (node_at pool node)) }

abbrev pub with_after : Kind → Spot → Spot → Pool → Pool
with_after kind spot after pool =
    with_links kind spot (record (links kind pool spot) { after = after }) pool

abbrev pub with_before : Kind → Spot → Spot → Pool → Pool
with_before kind spot before pool =
    with_links kind spot (record (links kind pool spot) { before = before }) pool

-- between two places there is nothing
abbrev pub joined : Kind → Spot → Spot → Pool → Pool
joined kind first second pool = with_before kind second first (with_after kind first second pool)

unfoldable pub unlinked : Kind → ℕ → Pool → Pool
unlinked kind node pool =
    joined kind (links kind pool (On node)).before (links kind pool (On node)).after pool

abbrev pub linked_between : Kind → ℕ → Spot → Spot → Pool → Pool
linked_between kind node last spot pool =
    with_before kind spot (On node)
    (with_after kind last (On node) (with_links kind (On node) (record { before = last; after = spot }) pool))

unfoldable pub linked_before : Kind → ℕ → Spot → Pool → Pool
linked_before kind node spot pool =
    linked_between kind node (links kind pool spot).before spot pool

abbrev pub with_ring : ℕ → ℕ → Pool → Pool
with_ring node ring pool =
    record pool { nodes = slice_set pool.nodes node (record (node_at pool node) { ring = ring }) }

abbrev pub with_entry : ℕ → LockEntry → Pool → Pool
with_entry node entry pool =
    record pool { nodes = slice_set pool.nodes node (record (node_at pool node) { entry = entry }) }

unfoldable pub moved : ℕ → ℕ → Pool → Pool
moved node ring pool =
    linked_before Item node (End ring) (with_ring node ring (unlinked Item node pool))
