-- A node that is freed, and one that gets an entry: rings and their order are kept, and one list changes.
use Rattle.std.proofs.Common.{◌≡◌, ◌≢◌, ◌==◌, ◌<◌, ◌≤◌, ◌&&◌, ◌||◌, not, ℕ, suc, Bool, true, false, List, [], ◌∷◌, ◌++◌, length, refl, sym, ap, ap₂, subst, ◌∙◌, inl, inr, arith}
use Rattle.std.specs.Prelude.{nat_lt}
use Rattle.std.proofs.lemmas.Bool.{and_from, and_left, and_parts, and_right, both_ways, cases_eq, eq-eqb, eqb-true, lt-ltb, ltb-true, ne_eqb, not-true, not_from_false, not_from_true}
use Rattle.tp_lock.specs.declared.entry.LockEntry.{LockEntry}
use Rattle.tp_lock_chain.specs.declared.links.Kind.TheVariants.{Item, Owner}
use Rattle.tp_lock_chain.specs.declared.links.Pool.{Pool}
use Rattle.tp_lock_chain.specs.declared.links.Spot.TheVariants.{End}
use Rattle.tp_lock_chain.specs.mirrors.Leave.{freed}
use Rattle.tp_lock_chain.specs.mirrors.Links.{links, moved, node_at, unlinked}
use Rattle.tp_lock_chain.specs.mirrors.Pool.{AreRising, IsChained, in_item, in_owner, is_there, ring_of}
use Rattle.tp_lock_chain.specs.mirrors.Rings.{AreLinked, AreRings, is_in}
use Rattle.tp_lock_chain.proofs.FamilyLemmas.{IsOne, found_is, found_rings, rings_without, stands_where}
use Rattle.tp_lock_chain.proofs.LinkLemmas.{IsThere, near_node, unlinked_is, unlinked_other_kind, unlinked_relinked}
use Rattle.tp_lock_chain.proofs.MoveLemmas.{but, but_is_less, in_item_parts, in_item_same, moved_is, rings_same}
use Rattle.tp_lock_chain.proofs.RingLemmas.{head_is_in, tail_is_in}

-- ---- which owner's ring a node is in

pub in_owner_parts : (pool : Pool) (owner node : ℕ) → in_owner pool owner node ≡ true
    → (node < length pool.nodes) × ((node_at pool node).ring ≢ pool.free) × ((node_at pool node).entry.owner.0 ≡ owner)
in_owner_parts pool owner node here =
    let own = not ((node_at pool node).ring == pool.free) in
    let named = (node_at pool node).entry.owner.0 == owner in
    let parts = and_parts (nat_lt node (length pool.nodes)) (own && named) here in
    let more = and_parts own named parts.1 in (
      ltb-true node (length pool.nodes) parts.0,
      λ same. both_ways ((node_at pool node).ring == pool.free) (not-true ((node_at pool node).ring == pool.free) more.0) (eq-eqb (node_at pool node).ring pool.free same),
      eqb-true (node_at pool node).entry.owner.0 owner more.1,
    )

pub in_owner_from : (pool : Pool) (owner node : ℕ) → node < length pool.nodes → (node_at pool node).ring ≢ pool.free → (node_at pool node).entry.owner.0 ≡ owner
    → in_owner pool owner node ≡ true
in_owner_from pool owner node lt used named =
    and_from (nat_lt node (length pool.nodes)) (not ((node_at pool node).ring == pool.free) && ((node_at pool node).entry.owner.0 == owner)) (lt-ltb node (length pool.nodes) lt)
    (and_from (not ((node_at pool node).ring == pool.free)) ((node_at pool node).entry.owner.0 == owner)
    (not_from_false ((node_at pool node).ring == pool.free) (ne_eqb (node_at pool node).ring pool.free used)) (eq-eqb (node_at pool node).entry.owner.0 owner named))

-- a free node is in no owner's ring
pub in_owner_free : (pool : Pool) (owner node : ℕ) → (node_at pool node).ring ≡ pool.free → in_owner pool owner node ≡ false
in_owner_free pool owner node free =
    and_right (nat_lt node (length pool.nodes)) (not ((node_at pool node).ring == pool.free) && ((node_at pool node).entry.owner.0 == owner))
    (and_left (not ((node_at pool node).ring == pool.free)) ((node_at pool node).entry.owner.0 == owner) (not_from_true ((node_at pool node).ring == pool.free) (eq-eqb (node_at pool node).ring pool.free free)))

pub in_owner_else : (pool : Pool) (owner node : ℕ) → (node_at pool node).entry.owner.0 ≢ owner → in_owner pool owner node ≡ false
in_owner_else pool owner node ne =
    and_right (nat_lt node (length pool.nodes)) (not ((node_at pool node).ring == pool.free) && ((node_at pool node).entry.owner.0 == owner))
    (and_right (not ((node_at pool node).ring == pool.free)) ((node_at pool node).entry.owner.0 == owner) (ne_eqb (node_at pool node).entry.owner.0 owner ne))

pub one_owner : (pool : Pool) → IsOne (in_owner pool)
one_owner pool node one other a b = sym (in_owner_parts pool one node a).2 ∙ (in_owner_parts pool other node b).2

pub in_owner_same : (pool new : Pool) (owner node : ℕ) → is_there new node ≡ is_there pool node → new.free ≡ pool.free → (node_at new node).ring ≡ (node_at pool node).ring
    → (node_at new node).entry ≡ (node_at pool node).entry → in_owner new owner node ≡ in_owner pool owner node
in_owner_same pool new owner node same free ring entry =
    ap₂ (λ (b : Bool) (f : ℕ). b && (not ((node_at new node).ring == f) && ((node_at new node).entry.owner.0 == owner))) same free
    ∙ ap₂ (λ (r : ℕ) (e : LockEntry). is_there pool node && (not (r == pool.free) && (e.owner.0 == owner))) ring entry

-- ---- nodes that go by items

pub rising_same : (pool new : Pool) (low : ℕ) (nodes : List ℕ) → ((node : ℕ) → is_in node nodes ≡ true → (node_at new node).ring ≡ (node_at pool node).ring)
    → AreRising pool low nodes → AreRising new low nodes
rising_same pool new low [] same rising = tt
rising_same pool new low (node ∷ nodes) same rising =
    let here = same node (head_is_in node nodes) in (
      subst (λ (r : ℕ). low ≤ r) (sym here) rising.0,
      subst (λ (r : ℕ). AreRising new r nodes) (sym here) (rising_same pool new (node_at pool node).ring nodes (λ other is. same other (tail_is_in other node nodes is)) rising.1),
    )

pub rising_lower : (pool : Pool) (low lower : ℕ) (nodes : List ℕ) → lower ≤ low → AreRising pool low nodes → AreRising pool lower nodes
rising_lower pool low lower [] le rising = tt
rising_lower pool low lower (node ∷ nodes) le rising = (let first : low ≤ (node_at pool node).ring = rising.0 in omega arith, rising.1)

pub rising_without : (pool : Pool) (low : ℕ) (xs : List ℕ) (node : ℕ) (ys : List ℕ) → AreRising pool low (xs ++ node ∷ ys) → AreRising pool low (xs ++ ys)
rising_without pool low [] node ys rising = rising_lower pool (node_at pool node).ring low ys rising.0 rising.1
rising_without pool low (x ∷ xs) node ys rising = (rising.0, rising_without pool (node_at pool x).ring xs node ys rising.1)

-- no node of these has an item below the bound
pub rising_all : (pool : Pool) (low : ℕ) (nodes : List ℕ) (node : ℕ) → AreRising pool low nodes → is_in node nodes ≡ true → low ≤ (node_at pool node).ring
rising_all pool low [] node rising here = absurd (both_ways false refl here)
rising_all pool low (first ∷ nodes) node rising here = elim (cases_eq first node) [
  | inl same ↦ subst (λ (n : ℕ). low ≤ (node_at pool n).ring) same rising.0
  | inr ne ↦
      let later : is_in node nodes ≡ true = ap (λ b. b || is_in node nodes) (sym (ne_eqb first node ne)) ∙ here in
      let first_low : low ≤ (node_at pool first).ring = rising.0 in
      let rest = rising_all pool (node_at pool first).ring nodes node rising.1 later in
      omega arith
]

-- ---- a node that is freed

pub record IsFreed (pool new : Pool) (owner node : ℕ) : Type 0 where
  pub chained : IsChained new
  pub nodes : length new.nodes ≡ length pool.nodes
  pub items : length new.items ≡ length pool.items
  pub owners : length new.owners ≡ length pool.owners
  pub entries : (other : ℕ) → (node_at new other).entry ≡ (node_at pool other).entry
  pub rings_else : (other : ℕ) → other ≢ node → (node_at new other).ring ≡ (node_at pool other).ring
  pub free : new.free ≡ pool.free
  pub granted : new.granted ≡ pool.granted
  pub given : new.given ≡ pool.given
  pub next : new.next ≡ pool.next
  -- its item's ring
  pub front : List ℕ
  pub back : List ℕ
  pub before : ring_of Item pool (node_at pool node).ring ≡ front ++ node ∷ back
  pub after : ring_of Item new (node_at pool node).ring ≡ front ++ back
  pub elsewhere : (ring : ℕ) → ring < pool.free → ring ≢ (node_at pool node).ring → ring_of Item new ring ≡ ring_of Item pool ring
  -- its owner's
  pub own_front : List ℕ
  pub own_back : List ℕ
  pub own_before : ring_of Owner pool owner ≡ own_front ++ node ∷ own_back
  pub own_after : ring_of Owner new owner ≡ own_front ++ own_back

pub freed_is : (pool : Pool) (owner node : ℕ) → IsChained pool → owner < length pool.owners → in_owner pool owner node ≡ true → IsFreed pool (freed node pool) owner node
unfolding freed
freed_is pool owner node chained owner_lt here =
    let parts = in_owner_parts pool owner node here in
    let ring = (node_at pool node).ring in
    let le : ring ≤ pool.free = chained.placed node (lt-ltb node (length pool.nodes) parts.0) in
    let ends : length pool.items ≡ suc pool.free = chained.ends in
    let ring_lt : ring < length pool.items = subst (λ (n : ℕ). ring < n) (sym ends) (omega arith) in
    let free_lt : pool.free < length pool.items = subst (λ (n : ℕ). pool.free < n) (sym ends) (omega arith) in
    let own = ring_of Owner pool owner in
    let stands = stands_where node own (chained.owners.own owner owner_lt node ∙ here) in
    let linked : AreLinked (links Owner pool) (End owner) (stands.front ++ node ∷ stands.back) (End owner) =
    subst (λ (nodes : List ℕ). AreLinked (links Owner pool) (End owner) nodes (End owner)) stands.whole (chained.owners.linked owner owner_lt) in
    let near = near_node (λ spot. IsThere Owner pool spot) (links Owner pool) (End owner) stands.front node stands.back (End owner) linked owner_lt owner_lt
    (λ n there. (in_owner_parts pool owner n (sym (chained.owners.own owner owner_lt n) ∙ ap (is_in n) stands.whole ∙ there)).0) in
    let one = unlinked Owner node pool in
    let kept1 = unlinked_relinked Owner node pool in
    let without = rings_without (links Owner pool) (links Owner one) (length pool.owners) (in_owner pool) (but (in_owner pool) node) (ring_of Owner pool) owner node chained.owners (one_owner pool)
    (but_is_less (in_owner pool) node) owner_lt here (unlinked_is Owner node pool near.0 near.1) in
    let left = without.0 in
    let items1 : AreRings (links Item one) (length one.items) (in_item one) (ring_of Item pool) =
    rings_same (links Item pool) (links Item one) (length pool.items) (length one.items) (in_item pool) (in_item one) (ring_of Item pool)
    (unlinked_other_kind Owner node pool) kept1.items (λ r n. in_item_same pool one r n kept1.nodes (kept1.rings n)) chained.items in
    let move = moved_is one (ring_of Item pool) node ring pool.free items1 (subst (λ (n : ℕ). node < n) (sym kept1.nodes) parts.0) (kept1.rings node)
    (subst (λ (n : ℕ). ring < n) (sym kept1.items) ring_lt) (subst (λ (n : ℕ). pool.free < n) (sym kept1.items) free_lt) (λ same. parts.1 (sym same)) in
    let new = moved node pool.free one in
    let nodes3 : length new.nodes ≡ length pool.nodes = move.nodes ∙ kept1.nodes in
    let free3 : new.free ≡ pool.free = move.free ∙ kept1.free in
    let entries3 : (other : ℕ) → (node_at new other).entry ≡ (node_at pool other).entry = λ other. move.entries other ∙ kept1.entries other in
    let else3 : (other : ℕ) → other ≢ node → (node_at new other).ring ≡ (node_at pool other).ring = λ other ne. move.rings_else other ne ∙ kept1.rings other in
    let owners3 : length new.owners ≡ length pool.owners = move.owners ∙ kept1.owners in
    let items3 : length new.items ≡ length pool.items = move.items ∙ kept1.items in
    let owned3 : (r n : ℕ) → in_owner new r n ≡ but (in_owner pool) node r n = λ r n. elim (cases_eq n node) [
      | inl same ↦
          ap (in_owner new r) same ∙ in_owner_free new r node (move.ring_now ∙ sym free3) ∙ sym ((but_is_less (in_owner pool) node).none r) ∙ ap (but (in_owner pool) node r) (sym same)
      | inr ne ↦ in_owner_same pool new r n (ap (nat_lt n) nodes3) free3 (else3 n ne) (entries3 n) ∙ sym ((but_is_less (in_owner pool) node).others r n ne)
    ] in
    let by_owner : AreRings (links Owner new) (length new.owners) (in_owner new) left =
    rings_same (links Owner one) (links Owner new) (length pool.owners) (length new.owners) (but (in_owner pool) node) (in_owner new) left move.by_owner owners3 owned3 without.2 in
    let within_items : (r n : ℕ) → in_item new r n ≡ true → n < length new.nodes = λ r n is. (in_item_parts new r n is).0 in
    let within_owners : (r n : ℕ) → in_owner new r n ≡ true → n < length new.nodes = λ r n is. (in_owner_parts new r n is).0 in
    let item_rings : (r : ℕ) → r < length new.items → ring_of Item new r ≡ move.grown r = found_is (links Item new) (length new.items) (length new.nodes) (in_item new) move.grown move.are within_items in
    let owner_rings : (r : ℕ) → r < length new.owners → ring_of Owner new r ≡ left r = found_is (links Owner new) (length new.owners) (length new.nodes) (in_owner new) left by_owner within_owners in
    record {
      chained = record {
        items = found_rings (links Item new) (length new.items) (length new.nodes) (in_item new) move.grown move.are within_items;
        owners = found_rings (links Owner new) (length new.owners) (length new.nodes) (in_owner new) left by_owner within_owners;
        ends = items3 ∙ ends ∙ ap suc (sym free3);
        placed = λ other there. elim (cases_eq other node) [
          | inl same ↦ subst (λ (r : ℕ). r ≤ new.free) (sym (ap (λ n. (node_at new n).ring) same ∙ move.ring_now ∙ sym free3)) (omega arith)
          | inr ne ↦ subst (λ (r : ℕ). r ≤ new.free) (sym (else3 other ne)) (subst (λ (f : ℕ). (node_at pool other).ring ≤ f) (sym free3) (chained.placed other (ap (nat_lt other) (sym nodes3) ∙ there)))
        ];
        owned = λ other there used. elim (cases_eq other node) [
          | inl same ↦ absurd (used (ap (λ n. (node_at new n).ring) same ∙ move.ring_now ∙ sym free3))
          | inr ne ↦ subst (λ (n : ℕ). (node_at new other).entry.owner.0 < n) (sym owners3)
              (subst (λ (e : LockEntry). e.owner.0 < length pool.owners) (sym (entries3 other))
              (chained.owned other (ap (nat_lt other) (sym nodes3) ∙ there) (λ is_free. used (else3 other ne ∙ is_free ∙ sym free3))))
        ];
        rising = λ other lt.
            let lt' : other < length pool.owners = subst (λ (n : ℕ). other < n) owners3 lt in
            let apart_from : (n : ℕ) → is_in n (left other) ≡ true → n ≢ node = λ n in_left same.
            both_ways (but (in_owner pool) node other node) ((but_is_less (in_owner pool) node).none other)
            (sym (ap (but (in_owner pool) node other) same) ∙ sym (without.2.own other lt' n) ∙ in_left) in
            let old : AreRising pool 0 (left other) = elim (cases_eq other owner) [
              | inl same ↦
                  let was : AreRising pool 0 (without.1.front ++ node ∷ without.1.back) = subst (λ (nodes : List ℕ). AreRising pool 0 nodes) without.1.before (chained.rising owner owner_lt) in
                  subst (λ (nodes : List ℕ). AreRising pool 0 nodes) (sym (ap left same ∙ without.1.after)) (rising_without pool 0 without.1.front node without.1.back was)
              | inr ne ↦ subst (λ (nodes : List ℕ). AreRising pool 0 nodes) (sym (without.1.elsewhere other ne)) (chained.rising other lt')
            ] in
            subst (λ (nodes : List ℕ). AreRising new 0 nodes) (sym (owner_rings other lt)) (rising_same pool new 0 (left other) (λ n in_left. else3 n (apart_from n in_left)) old);
        room = subst (λ (n : ℕ). n ≤ length new.granted) (sym nodes3) (subst (λ (n : ℕ). length pool.nodes ≤ n) (sym (ap length (move.granted ∙ kept1.granted))) chained.room);
        given = subst (λ (n : ℕ). n ≤ length new.granted) (sym (move.given ∙ kept1.given)) (subst (λ (n : ℕ). pool.given ≤ n) (sym (ap length (move.granted ∙ kept1.granted))) chained.given);
      };
      nodes = nodes3;
      items = items3;
      owners = owners3;
      entries = entries3;
      rings_else = else3;
      free = free3;
      granted = move.granted ∙ kept1.granted;
      given = move.given ∙ kept1.given;
      next = move.next ∙ kept1.next;
      front = move.front;
      back = move.back;
      before = move.before;
      after = item_rings ring (subst (λ (n : ℕ). ring < n) (sym items3) ring_lt) ∙ move.left;
      elsewhere = λ r lt ne.
          item_rings r (subst (λ (n : ℕ). r < n) (sym (items3 ∙ ends)) (omega arith))
          ∙ move.elsewhere r ne (λ same. let clash : pool.free < pool.free = subst (λ (n : ℕ). n < pool.free) same lt in omega arith);
      own_front = without.1.front;
      own_back = without.1.back;
      own_before = without.1.before;
      own_after = owner_rings owner (subst (λ (n : ℕ). owner < n) (sym owners3) owner_lt) ∙ without.1.after;
    }
