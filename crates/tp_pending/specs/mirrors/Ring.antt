-- The ring of the numbers that are pending: node 0 is its end, and the node of a number is the one behind it.
use Rattle.std.specs.Prelude.{◌≡◌, ◌<◌, ℕ, List, [], ◌∷◌, ◌++◌, Bool, true, false, Some, length, map, slice_get, slice_index_or, slice_set}
use Rattle.tp_pending.specs.Flags.{marked}
use Rattle.tp_pending.specs.declared.nodes.Node.{Node}

abbrev pub end_alone : Node
end_alone = record { pending = false; before = 0; after = 0 }

abbrev pub node_at : List Node → ℕ → Node
node_at nodes at = slice_index_or nodes at end_alone

abbrev pub is_pending_in : Node → Bool
is_pending_in node = node.pending

abbrev pub link_before : Node → ℕ
link_before node = node.before

abbrev pub link_after : Node → ℕ
link_after node = node.after

-- ---- changes

abbrev pub with_after : ℕ → ℕ → List Node → List Node
with_after at after nodes = slice_set nodes at (record (node_at nodes at) { after = after })

abbrev pub with_before : ℕ → ℕ → List Node → List Node
with_before at before nodes = slice_set nodes at (record (node_at nodes at) { before = before })

abbrev pub with_done : ℕ → List Node → List Node
with_done at nodes = slice_set nodes at (record (node_at nodes at) { pending = false })

-- a node is taken out: its neighbours become neighbours of one another
abbrev pub without : ℕ → Node → List Node → List Node
without at node nodes =
    with_done at (with_before node.after node.before (with_after node.before node.after nodes))

-- a node is put behind the last
abbrev pub with_last : ℕ → ℕ → List Node → List Node
with_last at last nodes =
    with_before 0 at
    (with_after last at (nodes ++ record { pending = true; before = last; after = 0 } ∷ []))

-- ---- what a ring is

-- of each number, whether it is pending
abbrev pub flags_of : List Node → List Bool
flags_of [] = []
flags_of (end ∷ nodes) = map is_pending_in nodes

-- the links lead from a node through these nodes to another
abbrev pub Leads : List ℕ → ℕ → List ℕ → ℕ → Type 0
Leads links from [] to = slice_get links from ≡ Some to
Leads links from (node ∷ nodes) to = (slice_get links from ≡ Some node) × Leads links node nodes to

-- the links lead back from a node through these nodes, the last one first, to another
abbrev pub LeadsBack : List ℕ → ℕ → List ℕ → ℕ → Type 0
LeadsBack links from [] to = slice_get links to ≡ Some from
LeadsBack links from (node ∷ nodes) to = (slice_get links node ≡ Some from) × LeadsBack links node nodes to

-- the nodes of the numbers that are pending, which rise
abbrev pub nodes_of : List Bool → List ℕ
nodes_of flags = marked 1 flags

-- the links of these nodes go round both ways through the nodes of all numbers that are pending
pub record IsRing (nodes : List Node) : Type 0 where
  pub ended : 0 < length nodes
  pub ahead : Leads (map link_after nodes) 0 (nodes_of (flags_of nodes)) 0
  pub back : LeadsBack (map link_before nodes) 0 (nodes_of (flags_of nodes)) 0
