-- What a release does with the rings, and the steps that it takes at most.
use Rattle.std.specs.Prelude.{ℕ, zero, suc, ◌+◌, ◌==◌, ◌&&◌, not, nat_lt, Bool, true, false, if◌then◌else◌, length, slice_set}
use Rattle.tp_types.specs.declared.ids.TxnId.{TxnId}
use Rattle.tp_types.specs.declared.policy.Action.{Action}
use Rattle.tp_types.specs.declared.policy.Action.TheVariants.{Read, Write}
use Rattle.tp_lock.specs.Rule as rule
use Rattle.tp_lock.specs.declared.entry.Grant.{Grant}
use Rattle.tp_lock.specs.declared.entry.LockEntry.{LockEntry}
use Rattle.tp_lock_chain.specs.declared.leave.Passed.{Passed}
use Rattle.tp_lock_chain.specs.declared.leave.Seen.{Seen}
use Rattle.tp_lock_chain.specs.declared.leave.Seen.TheVariants.{Nobody, One, Many}
use Rattle.tp_lock_chain.specs.declared.links.Kind.TheVariants.{Item, Owner}
use Rattle.tp_lock_chain.specs.declared.links.Pool.{Pool}
use Rattle.tp_lock_chain.specs.declared.links.Spot.{Spot}
use Rattle.tp_lock_chain.specs.declared.links.Spot.TheVariants.{End, On}
use Rattle.tp_lock_chain.specs.mirrors.Links.{links, moved, node_at, unlinked, with_entry}

-- ---- who was passed

abbrev pub with_owner : TxnId → Seen → Seen
with_owner owner Nobody = One owner
with_owner owner (One first) = if first.0 == owner.0 then One first else Many
with_owner owner Many = Many

abbrev pub has_other : TxnId → Seen → Bool
has_other owner Nobody = false
has_other owner (One first) = not (first.0 == owner.0)
has_other owner Many = true

abbrev pub passed_with : LockEntry → Passed → Passed
passed_with entry passed = record {
  all = with_owner entry.owner passed.all;
  writers = if rule.is_write entry.mode then with_owner entry.owner passed.writers else passed.writers;
}

abbrev pub hinders : TxnId → Action → Passed → Bool
hinders owner Read passed = has_other owner passed.writers
hinders owner Write passed = has_other owner passed.all

abbrev pub nobody : Passed
nobody = record { all = Nobody; writers = Nobody }

-- ---- the grants of a list

abbrev pub is_granted : Passed → LockEntry → Bool
is_granted passed entry = not entry.held && not (hinders entry.owner entry.mode passed)

abbrev pub with_grant : Grant → Pool → Pool
with_grant grant pool =
    if nat_lt pool.given (length pool.granted)
    then record pool { granted = slice_set pool.granted pool.given grant; given = pool.given + 1 }
    else pool

abbrev pub granted_at : ℕ → Pool → Pool
granted_at node pool =
    with_grant (rule.grant_of (node_at pool node).entry.owner (node_at pool node).ring)
    (with_entry node (record (node_at pool node).entry { held = true }) pool)

abbrev pub settled_one : ℕ → Passed → Pool → Pool
settled_one node passed pool =
    if is_granted passed (node_at pool node).entry then granted_at node pool else pool

abbrev pub settled_from : ℕ → Spot → Passed → Pool → Pool
settled_from zero at passed pool = pool
settled_from (suc fuel) (End ring) passed pool = pool
settled_from (suc fuel) (On node) passed pool =
    settled_from fuel (links Item (settled_one node passed pool) (On node)).after
    (passed_with (node_at pool node).entry passed) (settled_one node passed pool)

abbrev pub settled : ℕ → Pool → Pool
settled ring pool =
    settled_from (length pool.nodes) (links Item pool (End ring)).after nobody pool

abbrev pub steps_from : ℕ → Spot → Passed → Pool → ℕ
steps_from zero at passed pool = 0
steps_from (suc fuel) (End ring) passed pool = 0
steps_from (suc fuel) (On node) passed pool =
    2 + steps_from fuel (links Item (settled_one node passed pool) (On node)).after
    (passed_with (node_at pool node).entry passed) (settled_one node passed pool)

abbrev pub settle_steps : ℕ → Pool → ℕ
settle_steps ring pool =
    steps_from (length pool.nodes) (links Item pool (End ring)).after nobody pool

-- ---- the nodes of an owner

unfoldable pub freed : ℕ → Pool → Pool
freed node pool = moved node pool.free (unlinked Owner node pool)

abbrev pub ring_at : ℕ → Pool → ℕ
ring_at node pool = (node_at pool node).ring

unfoldable pub left_one : ℕ → ℕ → Pool → Pool
left_one node ring pool =
    freed node (if not (ring_at node pool == ring) then settled ring pool else pool)

abbrev pub one_steps : ℕ → ℕ → Pool → ℕ
one_steps node ring pool =
    3 + (if not (ring_at node pool == ring) then settle_steps ring pool else 0)

abbrev pub left_from : ℕ → ℕ → ℕ → Pool → Pool
left_from zero owner ring pool = settled ring pool
left_from (suc fuel) owner ring pool = elim (links Owner pool (End owner)).after [
  | End end ↦ settled ring pool
  | On node ↦ left_from fuel owner (ring_at node pool) (left_one node ring pool)
]

abbrev pub left_rest : ℕ → ℕ → Pool → Pool
left_rest owner first pool = left_from (length pool.nodes) owner first pool

abbrev pub rest_from : ℕ → ℕ → ℕ → Pool → ℕ
rest_from zero owner ring pool = settle_steps ring pool
rest_from (suc fuel) owner ring pool = elim (links Owner pool (End owner)).after [
  | End end ↦ settle_steps ring pool
  | On node ↦ one_steps node ring pool + rest_from fuel owner (ring_at node pool) (left_one node ring pool)
]

abbrev pub rest_steps : ℕ → ℕ → Pool → ℕ
rest_steps owner first pool = rest_from (length pool.nodes) owner first pool

abbrev pub forgotten : Pool → Pool
forgotten pool = record pool { given = 0; next = 0 }

abbrev pub left_if : Spot → ℕ → Pool → Pool
left_if (End end) owner pool = pool
left_if (On node) owner pool = left_rest owner (ring_at node pool) (freed node pool)

abbrev pub left : ℕ → Pool → Pool
left owner pool = left_if (links Owner pool (End owner)).after owner (forgotten pool)

abbrev pub steps_if : Spot → ℕ → Pool → ℕ
steps_if (End end) owner pool = 0
steps_if (On node) owner pool = 3 + rest_steps owner (ring_at node pool) (freed node pool)

abbrev pub steps : ℕ → Pool → ℕ
steps owner pool = steps_if (links Owner pool (End owner)).after owner (forgotten pool)
