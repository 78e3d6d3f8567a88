-- A node that goes from its item's ring to the end of another.
use Rattle.std.proofs.Common.{◌≡◌, ◌≢◌, ◌==◌, ◌<◌, ◌&&◌, not, ℕ, Bool, true, false, List, [], ◌∷◌, ◌++◌, length, refl, sym, ap, ap₂, subst, ◌∙◌}
use Rattle.std.specs.Prelude.{nat_lt}
use Rattle.std.proofs.lemmas.Bool.{and_from, and_parts, and_right, both_ways, eq-eqb, eqb-true, lt-ltb, ltb-true, ne_eqb, not-true, not_from_true}
use Rattle.std.proofs.lemmas.List.{append-nil, get_or-set_other, get_or-set_same, length-set}
use Rattle.tp_lock_chain.specs.declared.links.Kind.TheVariants.{Item, Owner}
use Rattle.tp_lock_chain.specs.declared.links.Node.{Node}
use Rattle.tp_lock_chain.specs.declared.links.Pair.{Pair}
use Rattle.tp_lock_chain.specs.declared.links.Pool.{Pool}
use Rattle.tp_lock_chain.specs.declared.links.Spot.{Spot}
use Rattle.tp_lock_chain.specs.declared.links.Spot.TheVariants.{End, On}
use Rattle.tp_lock_chain.specs.mirrors.Links.{blank, linked_before, links, moved, node_at, unlinked, with_ring}
use Rattle.tp_lock_chain.specs.mirrors.Pool.{in_item}
use Rattle.tp_lock_chain.specs.mirrors.Rings.{AreLinked, AreRings, is_in}
use Rattle.tp_lock_chain.proofs.FamilyLemmas.{IsLess, IsMore, IsOne, rings_with, rings_without, stands_where}
use Rattle.tp_lock_chain.proofs.LinkLemmas.{IsThere, field_stays, linked_is, linked_other_kind, linked_relinked, near_node, near_spot, ring_links, unlinked_is, unlinked_other_kind, unlinked_relinked}
use Rattle.tp_lock_chain.proofs.RingLemmas.{linked_stays}

-- ---- rings that stay

pub linked_same : (old new : Spot → Pair) → ((spot : Spot) → new spot ≡ old spot) → (first : Spot) (nodes : List ℕ) (last : Spot) → AreLinked old first nodes last → AreLinked new first nodes last
linked_same old new same first nodes last linked =
    linked_stays old new first nodes last linked (ap (λ (p : Pair). p.after) (same first)) (ap (λ (p : Pair). p.before) (same last))
    (λ node here. (ap (λ (p : Pair). p.after) (same (On node)), ap (λ (p : Pair). p.before) (same (On node))))

pub rings_same : (old new : Spot → Pair) (count more : ℕ) (belongs others : ℕ → ℕ → Bool) (rings : ℕ → List ℕ) → ((spot : Spot) → new spot ≡ old spot) → more ≡ count
    → ((ring node : ℕ) → others ring node ≡ belongs ring node) → AreRings old count belongs rings → AreRings new more others rings
rings_same old new count more belongs others rings same same_count same_nodes are = record {
  linked = λ ring lt. linked_same old new same (End ring) (rings ring) (End ring) (are.linked ring (subst (λ (n : ℕ). ring < n) same_count lt));
  apart = λ ring lt. are.apart ring (subst (λ (n : ℕ). ring < n) same_count lt);
  own = λ ring lt node. are.own ring (subst (λ (n : ℕ). ring < n) same_count lt) node ∙ sym (same_nodes ring node);
}

-- ---- which ring a node is in

pub in_item_parts : (pool : Pool) (ring node : ℕ) → in_item pool ring node ≡ true → (node < length pool.nodes) × ((node_at pool node).ring ≡ ring)
in_item_parts pool ring node here =
    let parts = and_parts (nat_lt node (length pool.nodes)) ((node_at pool node).ring == ring) here in
    (ltb-true node (length pool.nodes) parts.0, eqb-true (node_at pool node).ring ring parts.1)

pub in_item_from : (pool : Pool) (ring node : ℕ) → node < length pool.nodes → (node_at pool node).ring ≡ ring → in_item pool ring node ≡ true
in_item_from pool ring node lt same =
    and_from (nat_lt node (length pool.nodes)) ((node_at pool node).ring == ring) (lt-ltb node (length pool.nodes) lt) (eq-eqb (node_at pool node).ring ring same)

pub one_item : (pool : Pool) → IsOne (in_item pool)
one_item pool node one other a b = sym (in_item_parts pool one node a).1 ∙ (in_item_parts pool other node b).1

pub in_item_same : (pool new : Pool) (ring node : ℕ) → length new.nodes ≡ length pool.nodes → (node_at new node).ring ≡ (node_at pool node).ring → in_item new ring node ≡ in_item pool ring node
in_item_same pool new ring node same here = ap₂ (λ (n r : ℕ). nat_lt node n && (r == ring)) same here

and_yes : (b : Bool) → (b && true) ≡ b
and_yes true = refl
and_yes false = refl

-- all rings but that a node is in none
abbrev pub but : (ℕ → ℕ → Bool) → ℕ → ℕ → ℕ → Bool
but belongs node ring other = belongs ring other && not (other == node)

pub but_is_less : (belongs : ℕ → ℕ → Bool) (node : ℕ) → IsLess belongs (but belongs node) node
but_is_less belongs node = record {
  none = λ ring. and_right (belongs ring node) (not (node == node)) (not_from_true (node == node) (eq-eqb node node refl));
  others = λ ring other ne. ap (λ b. belongs ring other && not b) (ne_eqb other node ne) ∙ and_yes (belongs ring other);
}

pub but_one : (belongs : ℕ → ℕ → Bool) (node : ℕ) → IsOne belongs → IsOne (but belongs node)
but_one belongs node one at first second a b =
    one at first second (and_parts (belongs first at) (not (at == node)) a).0 (and_parts (belongs second at) (not (at == node)) b).0

pub but_parts : (belongs : ℕ → ℕ → Bool) (node ring other : ℕ) → but belongs node ring other ≡ true → (belongs ring other ≡ true) × (other ≢ node)
but_parts belongs node ring other here =
    let parts = and_parts (belongs ring other) (not (other == node)) here in
    (parts.0, λ same. both_ways (other == node) (not-true (other == node) parts.1) (eq-eqb other node same))

-- ---- a node's ring

pub ring_here : (pool : Pool) (node ring : ℕ) → node < length pool.nodes → (node_at (with_ring node ring pool) node).ring ≡ ring
ring_here pool node ring lt = ap (λ (n : Node). n.ring) (get_or-set_same pool.nodes node (record (node_at pool node) { ring = ring }) blank lt)

pub ring_else : (pool : Pool) (node ring other : ℕ) → other ≢ node → (node_at (with_ring node ring pool) other).ring ≡ (node_at pool other).ring
ring_else pool node ring other ne = ap (λ (n : Node). n.ring) (get_or-set_other pool.nodes node other (record (node_at pool node) { ring = ring }) blank ne)

-- ---- a node that is moved

pub record IsMoved (pool new : Pool) (rings : ℕ → List ℕ) (node ring to : ℕ) : Type 0 where
  pub nodes : length new.nodes ≡ length pool.nodes
  pub items : length new.items ≡ length pool.items
  pub owners : length new.owners ≡ length pool.owners
  pub entries : (other : ℕ) → (node_at new other).entry ≡ (node_at pool other).entry
  pub ring_now : (node_at new node).ring ≡ to
  pub rings_else : (other : ℕ) → other ≢ node → (node_at new other).ring ≡ (node_at pool other).ring
  pub free : new.free ≡ pool.free
  pub granted : new.granted ≡ pool.granted
  pub given : new.given ≡ pool.given
  pub next : new.next ≡ pool.next
  pub by_owner : (spot : Spot) → links Owner new spot ≡ links Owner pool spot
  pub front : List ℕ
  pub back : List ℕ
  pub before : rings ring ≡ front ++ node ∷ back
  pub grown : ℕ → List ℕ
  pub left : grown ring ≡ front ++ back
  pub gained : grown to ≡ rings to ++ node ∷ []
  pub elsewhere : (other : ℕ) → other ≢ ring → other ≢ to → grown other ≡ rings other
  pub are : AreRings (links Item new) (length new.items) (in_item new) grown

-- the last place of a ring in which the node is not
record IsFar (pool : Pool) (node : ℕ) (spot : Spot) : Type 0 where
  there : IsThere Item pool spot
  other : On node ≢ spot

pub moved_is : (pool : Pool) (rings : ℕ → List ℕ) (node ring to : ℕ) → AreRings (links Item pool) (length pool.items) (in_item pool) rings → node < length pool.nodes
    → (node_at pool node).ring ≡ ring → ring < length pool.items → to < length pool.items → to ≢ ring → IsMoved pool (moved node to pool) rings node ring to
unfolding moved
moved_is pool rings node ring to are lt at_ring ring_lt to_lt ne =
    let here : in_item pool ring node ≡ true = in_item_from pool ring node lt at_ring in
    let stands = stands_where node (rings ring) (are.own ring ring_lt node ∙ here) in
    let linked : AreLinked (links Item pool) (End ring) (stands.front ++ node ∷ stands.back) (End ring) =
    subst (λ (nodes : List ℕ). AreLinked (links Item pool) (End ring) nodes (End ring)) stands.whole (are.linked ring ring_lt) in
    let near = near_node (λ spot. IsThere Item pool spot) (links Item pool) (End ring) stands.front node stands.back (End ring) linked ring_lt ring_lt
    (λ n there. (in_item_parts pool ring n (sym (are.own ring ring_lt n) ∙ ap (is_in n) stands.whole ∙ there)).0) in
    let one = unlinked Item node pool in
    let kept1 = unlinked_relinked Item node pool in
    let without = rings_without (links Item pool) (links Item one) (length pool.items) (in_item pool) (but (in_item pool) node) rings ring node are (one_item pool)
    (but_is_less (in_item pool) node) ring_lt here (unlinked_is Item node pool near.0 near.1) in
    let left = without.0 in
    let two = with_ring node to one in
    let lt1 : node < length one.nodes = subst (λ (n : ℕ). node < n) (sym kept1.nodes) lt in
    let nodes2 : length two.nodes ≡ length pool.nodes = length-set one.nodes node (record (node_at one node) { ring = to }) ∙ kept1.nodes in
    let are2 : AreRings (links Item two) (length pool.items) (but (in_item pool) node) left =
    rings_same (links Item one) (links Item two) (length pool.items) (length pool.items) (but (in_item pool) node) (but (in_item pool) node) left
    (ring_links Item node to one) refl (λ r n. refl) without.2 in
    let linked2 : AreLinked (links Item two) (End to) (left to ++ []) (End to) =
    subst (λ (nodes : List ℕ). AreLinked (links Item two) (End to) nodes (End to)) (sym (append-nil (left to))) (are2.linked to to_lt) in
    let to_there : to < length two.items = subst (λ (n : ℕ). to < n) (sym kept1.items) to_lt in
    let last : IsFar two node (links Item two (End to)).before = near_spot (λ spot. IsFar two node spot) (links Item two) (End to) (left to) [] (End to) linked2
    (record { there = to_there; other = λ same. cc })
    (λ n in_left.
    let parts = but_parts (in_item pool) node to n (sym (are2.own to to_lt n) ∙ in_left) in
    record {
      there = subst (λ (m : ℕ). n < m) (sym nodes2) (in_item_parts pool to n parts.0).0;
      other = λ same. parts.1 (let number : n ≡ node = cc in number);
    }) in
    let put = linked_is Item node (End to) two (subst (λ (m : ℕ). node < m) (sym nodes2) lt) to_there last.there last.other (λ same. cc) in
    let new = linked_before Item node (End to) two in
    let kept3 = linked_relinked Item node (End to) two in
    let nodes3 : length new.nodes ≡ length pool.nodes = kept3.nodes ∙ nodes2 in
    let now : (node_at new node).ring ≡ to = kept3.rings node ∙ ring_here one node to lt1 in
    let else3 : (other : ℕ) → other ≢ node → (node_at new other).ring ≡ (node_at pool other).ring =
    λ other ne'. kept3.rings other ∙ ring_else one node to other ne' ∙ kept1.rings other in
    let more : IsMore (but (in_item pool) node) (in_item new) to node = record {
      none = (but_is_less (in_item pool) node).none;
      here = in_item_from new to node (subst (λ (m : ℕ). node < m) (sym nodes3) lt) now;
      only = λ other ne'. and_right (nat_lt node (length new.nodes)) ((node_at new node).ring == other) (ne_eqb (node_at new node).ring other (λ same. ne' (sym same ∙ now)));
      others = λ at other ne'. in_item_same pool new at other nodes3 (else3 other ne') ∙ sym ((but_is_less (in_item pool) node).others at other ne');
    } in
    let with_it = rings_with (links Item two) (links Item new) (length pool.items) (but (in_item pool) node) (in_item new) left to node (left to) [] are2
    (but_one (in_item pool) node (one_item pool)) more to_lt (sym (append-nil (left to))) put in
    record {
      nodes = nodes3;
      items = kept3.items ∙ kept1.items;
      owners = kept3.owners ∙ kept1.owners;
      entries = λ other.
          kept3.entries other ∙ field_stays (λ (n : Node). n.entry) one.nodes node (record (node_at one node) { ring = to }) blank refl other ∙ kept1.entries other;
      ring_now = now;
      rings_else = else3;
      free = kept3.free ∙ kept1.free;
      granted = kept3.granted ∙ kept1.granted;
      given = kept3.given ∙ kept1.given;
      next = kept3.next ∙ kept1.next;
      by_owner = λ spot. linked_other_kind Item node (End to) two spot ∙ ring_links Owner node to one spot ∙ unlinked_other_kind Item node pool spot;
      front = without.1.front;
      back = without.1.back;
      before = without.1.before;
      grown = with_it.0;
      left = with_it.1.elsewhere ring (λ same. ne (sym same)) ∙ without.1.after;
      gained = with_it.1.after ∙ ap (λ (nodes : List ℕ). nodes ++ node ∷ []) (without.1.elsewhere to ne);
      elsewhere = λ other ne1 ne2. with_it.1.elsewhere other ne2 ∙ without.1.elsewhere other ne1;
      are = rings_same (links Item new) (links Item new) (length pool.items) (length new.items) (in_item new) (in_item new) with_it.0 (λ spot. refl) (kept3.items ∙ kept1.items) (λ r n. refl) with_it.2;
    }
