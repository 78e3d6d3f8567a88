-- Pools that differ in entries and grants alone: the same rings.
use Rattle.std.proofs.Common.{◌≡◌, ◌==◌, ◌<◌, ◌≤◌, ◌&&◌, not, ℕ, zero, suc, List, ◌∷◌, length, refl, sym, ap, ap₂, subst, ◌∙◌, arith}
use Rattle.std.specs.Prelude.{nat_lt}
use Rattle.tp_lock_chain.specs.declared.links.Kind.{Kind}
use Rattle.tp_lock_chain.specs.declared.links.Kind.TheVariants.{Item, Owner}
use Rattle.tp_lock_chain.specs.declared.links.Pair.{Pair}
use Rattle.tp_lock_chain.specs.declared.links.Pool.{Pool}
use Rattle.tp_lock_chain.specs.declared.links.Spot.{Spot}
use Rattle.tp_lock_chain.specs.declared.links.Spot.TheVariants.{End, On}
use Rattle.tp_lock_chain.specs.mirrors.Links.{links, node_at}
use Rattle.tp_lock_chain.specs.mirrors.Pool.{AreRising, IsChained, in_item, in_owner, ring_of}
use Rattle.tp_lock_chain.specs.mirrors.Rings.{walk}
use Rattle.tp_lock_chain.proofs.ChainLemmas.{in_owner_parts, rising_same}
use Rattle.tp_lock_chain.proofs.FamilyLemmas.{found_rings}
use Rattle.tp_lock_chain.proofs.MoveLemmas.{in_item_parts, in_item_same, rings_same}

pub walk_same : (fuel : ℕ) (old new : Spot → Pair) → ((spot : Spot) → new spot ≡ old spot) → (at : Spot) → walk fuel new at ≡ walk fuel old at
walk_same zero old new same at = refl
walk_same (suc fuel) old new same (End ring) = refl
walk_same (suc fuel) old new same (On node) =
    ap (λ ns. node ∷ ns) (walk_same fuel old new same (new (On node)).after ∙ ap (λ (p : Pair). walk fuel old p.after) (same (On node)))

-- the same links, items and owners
pub record IsLike (pool new : Pool) : Type 0 where
  pub links_are : (kind : Kind) (spot : Spot) → links kind new spot ≡ links kind pool spot
  pub nodes : length new.nodes ≡ length pool.nodes
  pub items : length new.items ≡ length pool.items
  pub owners : length new.owners ≡ length pool.owners
  pub rings : (node : ℕ) → (node_at new node).ring ≡ (node_at pool node).ring
  pub owned : (node : ℕ) → (node_at new node).entry.owner ≡ (node_at pool node).entry.owner
  pub free : new.free ≡ pool.free

pub like_itself : (pool : Pool) → IsLike pool pool
like_itself pool = record { links_are = λ kind spot. refl; nodes = refl; items = refl; owners = refl; rings = λ node. refl; owned = λ node. refl; free = refl }

pub like_twice : (pool mid new : Pool) → IsLike pool mid → IsLike mid new → IsLike pool new
like_twice pool mid new a b = record {
  links_are = λ kind spot. b.links_are kind spot ∙ a.links_are kind spot;
  nodes = b.nodes ∙ a.nodes;
  items = b.items ∙ a.items;
  owners = b.owners ∙ a.owners;
  rings = λ node. b.rings node ∙ a.rings node;
  owned = λ node. b.owned node ∙ a.owned node;
  free = b.free ∙ a.free;
}

pub like_rings : (pool new : Pool) (kind : Kind) (ring : ℕ) → IsLike pool new → ring_of kind new ring ≡ ring_of kind pool ring
like_rings pool new kind ring like =
    ap₂ (λ (fuel : ℕ) (p : Pair). walk fuel (links kind new) p.after) like.nodes (like.links_are kind (End ring))
    ∙ walk_same (length pool.nodes) (links kind pool) (links kind new) (like.links_are kind) (links kind pool (End ring)).after

in_owner_like : (pool new : Pool) (owner node : ℕ) → IsLike pool new → in_owner new owner node ≡ in_owner pool owner node
in_owner_like pool new owner node like =
    ap₂ (λ (n f : ℕ). nat_lt node n && (not ((node_at new node).ring == f) && ((node_at new node).entry.owner.0 == owner))) like.nodes like.free
    ∙ ap₂ (λ (r o : ℕ). nat_lt node (length pool.nodes) && (not (r == pool.free) && (o == owner))) (like.rings node) (ap (λ o. o.0) (like.owned node))

pub like_chained : (pool new : Pool) → IsLike pool new → length pool.granted ≤ length new.granted → new.given ≤ length new.granted → IsChained pool → IsChained new
like_chained pool new like room given chained = record {
  items = found_rings (links Item new) (length new.items) (length new.nodes) (in_item new) (ring_of Item pool)
      (rings_same (links Item pool) (links Item new) (length pool.items) (length new.items) (in_item pool) (in_item new) (ring_of Item pool) (like.links_are Item) like.items
      (λ r n. in_item_same pool new r n like.nodes (like.rings n)) chained.items)
      (λ r n is. (in_item_parts new r n is).0);
  owners = found_rings (links Owner new) (length new.owners) (length new.nodes) (in_owner new) (ring_of Owner pool)
      (rings_same (links Owner pool) (links Owner new) (length pool.owners) (length new.owners) (in_owner pool) (in_owner new) (ring_of Owner pool) (like.links_are Owner) like.owners
      (λ r n. in_owner_like pool new r n like) chained.owners)
      (λ r n is. (in_owner_parts new r n is).0);
  ends = like.items ∙ chained.ends ∙ ap suc (sym like.free);
  placed = λ node there.
      subst (λ (f : ℕ). (node_at new node).ring ≤ f) (sym like.free) (subst (λ (r : ℕ). r ≤ pool.free) (sym (like.rings node)) (chained.placed node (ap (nat_lt node) (sym like.nodes) ∙ there)));
  owned = λ node there used.
      subst (λ (n : ℕ). (node_at new node).entry.owner.0 < n) (sym like.owners) (subst (λ (o : ℕ). o < length pool.owners) (sym (ap (λ o. o.0) (like.owned node)))
      (chained.owned node (ap (nat_lt node) (sym like.nodes) ∙ there) (λ same. used (like.rings node ∙ same ∙ sym like.free))));
  rising = λ owner lt.
      subst (λ (nodes : List ℕ). AreRising new 0 nodes) (sym (like_rings pool new Owner owner like))
      (rising_same pool new 0 (ring_of Owner pool owner) (λ n is. like.rings n) (chained.rising owner (subst (λ (n : ℕ). owner < n) like.owners lt)));
  room = subst (λ (n : ℕ). n ≤ length new.granted) (sym like.nodes) (let was = chained.room in omega arith);
  given = given;
}
