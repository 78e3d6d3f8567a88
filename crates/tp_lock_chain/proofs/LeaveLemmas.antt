-- What a release leaves of a pool: the table of the rule.
use Rattle.std.proofs.Common.{◌≡◌, ◌≢◌, ◌<◌, ◌≤◌, ◌+◌, ◌*◌, ℕ, true, false, List, [], ◌∷◌, length, take, drop, map, refl, sym, ap, ap₂, subst, ◌∙◌, inl, inr, arith}
use Rattle.std.proofs.lemmas.Bool.{cases_Bool, cases_lt, eq-eqb, eqb-true, lt-ltb}
use Rattle.std.proofs.lemmas.List.{get_or_past}
use Rattle.std.proofs.lemmas.List.FromFn.{get_or-map-range_with_len}
use Rattle.std.specs.List.{list_any, range_with_len}
use Rattle.tp_types.specs.declared.ids.TxnId.{TxnId}
use Rattle.tp_lock.specs.Order.{AreOrderly, IsOrderly}
use Rattle.tp_lock.specs.Rule as rule
use Rattle.tp_lock.specs.Table.{Table}
use Rattle.tp_lock.specs.declared.entry.Grant.{Grant}
use Rattle.tp_lock.specs.declared.entry.LockEntry.{LockEntry}
use Rattle.tp_lock.proofs.ReleaseLaws.{after_release_orderly, untouched}
use Rattle.tp_lock.proofs.RequestLaws.{orderly_at}
use Rattle.tp_lock_chain.specs.Cost.{most_steps, owned, shared}
use Rattle.tp_lock_chain.specs.declared.links.Kind.{Kind}
use Rattle.tp_lock_chain.specs.declared.links.Kind.TheVariants.{Item, Owner}
use Rattle.tp_lock_chain.specs.declared.links.Pair.{Pair}
use Rattle.tp_lock_chain.specs.declared.links.Pool.{Pool}
use Rattle.tp_lock_chain.specs.declared.links.Spot.{Spot}
use Rattle.tp_lock_chain.specs.declared.links.Spot.TheVariants.{End, On}
use Rattle.tp_lock_chain.specs.mirrors.Leave.{forgotten, freed, left, left_if, ring_at, steps, steps_if}
use Rattle.tp_lock_chain.specs.mirrors.Links.{links, node_at, nowhere}
use Rattle.tp_lock_chain.specs.mirrors.Pool.{AreRising, IsChained, IsKept, entry_at, list_of, ring_of, shown}
use Rattle.tp_lock_chain.specs.mirrors.Rings.{is_in}
use Rattle.tp_lock_chain.proofs.ChainLemmas.{in_owner_parts}
use Rattle.tp_lock_chain.proofs.FamilyLemmas.{few}
use Rattle.tp_lock_chain.proofs.LikeLemmas.{IsLike, like_chained}
use Rattle.tp_lock_chain.proofs.ListLemmas.{grants_are, grants_upto, grants_stay, lists_same, map_twice, sum_is}
use Rattle.tp_lock_chain.proofs.MoveLemmas.{in_item_from}
use Rattle.tp_lock_chain.proofs.ReleaseLemmas.{IsDone, all_owned, all_shared, any_node, any_there, done_further, done_leaving, first_end, first_on, leaves, none_there, taken}
use Rattle.tp_lock_chain.proofs.RingLemmas.{head_is_in}
use Rattle.tp_lock_chain.proofs.SettleLemmas.{its_nodes}

-- ---- grants that are forgotten

same_links : (kind : Kind) (pool : Pool) (spot : Spot) → links kind (forgotten pool) spot ≡ links kind pool spot
same_links Item pool (End ring) = refl
same_links Owner pool (End ring) = refl
same_links Item pool (On node) = refl
same_links Owner pool (On node) = refl

forgotten_like : (pool : Pool) → IsLike pool (forgotten pool)
forgotten_like pool = record {
  links_are = λ kind spot. same_links kind pool spot;
  nodes = refl;
  items = refl;
  owners = refl;
  rings = λ node. refl;
  owned = λ node. refl;
  free = refl;
}

forgotten_chained : (pool : Pool) → IsChained pool → IsChained (forgotten pool)
forgotten_chained pool chained = like_chained pool (forgotten pool) (forgotten_like pool) (omega arith) (omega arith) chained

pub order_at : (pool : Pool) → AreOrderly (shown pool) → (item : ℕ) → item < pool.free → IsOrderly (list_of pool item)
order_at pool order item lt =
    subst (λ (entries : List LockEntry). IsOrderly entries) (get_or-map-range_with_len (list_of pool) 0 pool.free item item [] lt (omega arith))
    (orderly_at item (map (list_of pool) (range_with_len 0 pool.free)) order)

-- ---- what is left

-- the lists and the grants of the rule, in so many steps
record IsRight (pool : Pool) (owner : TxnId) (new : Pool) (taken : ℕ) : Type 0 where
  chained : IsChained new
  free : new.free ≡ pool.free
  lists : (item : ℕ) → item < pool.free → list_of new item ≡ rule.left_by owner (list_of pool item)
  grants : drop new.next (take new.given new.granted) ≡ grants_upto owner pool.free (list_of pool)
  cost : taken ≤ 3 * all_owned owner pool.free pool + 2 * all_shared owner pool.free (list_of pool)

done_right : (pool : Pool) (owner : TxnId) (new : Pool) (taken : ℕ) → IsDone (list_of pool) pool.free owner pool.free new
    → taken ≤ 3 * all_owned owner pool.free pool + 2 * all_shared owner pool.free (list_of pool) → IsRight pool owner new taken
done_right pool owner new taken done cost = record {
  chained = done.chained;
  free = done.free;
  lists = done.below;
  grants = ap (λ n. drop n (take new.given new.granted)) done.next ∙ done.grants;
  cost = cost;
}

begins : (pool : Pool) (owner : TxnId) → IsChained pool → owner.0 < length pool.owners → IsDone (list_of pool) pool.free owner 0 (forgotten pool)
begins pool owner chained lt = record {
  chained = forgotten_chained pool chained;
  free = refl;
  owner_lt = lt;
  fits = omega arith;
  next = refl;
  below = λ at below. absurd (omega arith);
  above = λ at from inside. refl;
  grants = refl;
}

rising_forgotten : (pool : Pool) (low : ℕ) (nodes : List ℕ) → AreRising pool low nodes → AreRising (forgotten pool) low nodes
rising_forgotten pool low [] rising = tt
rising_forgotten pool low (node ∷ nodes) rising = (rising.0, rising_forgotten pool (node_at pool node).ring nodes rising.1)

right_by_ring : (pool : Pool) (owner : TxnId) (nodes : List ℕ) → IsChained pool → AreOrderly (shown pool) → owner.0 < length pool.owners → ring_of Owner pool owner.0 ≡ nodes
    → IsRight pool owner (left owner.0 pool) (steps owner.0 pool)
right_by_ring pool owner [] chained order lt none =
    let end = first_end pool owner chained lt none in
    let rising : AreRising pool pool.free (ring_of Owner pool owner.0) = subst (λ (nodes : List ℕ). AreRising pool pool.free nodes) (sym none) tt in
    let done = done_further (list_of pool) pool.free owner 0 pool.free (forgotten pool) (begins pool owner chained lt) (omega arith) (order_at pool order)
    (λ item from below. let lt' : item < pool.free = omega arith in none_there pool owner item pool.free chained lt rising lt' lt') in
    let P : Spot → Type 0 = λ spot. IsRight pool owner (left_if spot owner.0 (forgotten pool)) (steps_if spot owner.0 (forgotten pool)) in
    let Q : ℕ → Type 0 = λ n. IsDone (list_of pool) pool.free owner n (forgotten pool) in
    subst P (sym end) (done_right pool owner (forgotten pool) 0 (subst Q (let whole : 0 + pool.free ≡ pool.free = omega arith in whole) done) (omega arith))
right_by_ring pool owner (node ∷ rest) chained order lt ring_is =
    let on = first_on pool owner node rest chained lt ring_is in
    let low = ring_at node pool in
    let was : AreRising pool 0 (node ∷ rest) = subst (λ (nodes : List ℕ). AreRising pool 0 nodes) ring_is (chained.rising owner.0 lt) in
    let from_low : AreRising pool low (node ∷ rest) = (let same : low ≤ low = omega arith in same, was.1) in
    let rising : AreRising pool low (ring_of Owner pool owner.0) = subst (λ (nodes : List ℕ). AreRising pool low nodes) (sym ring_is) from_low in
    let rising' : AreRising (forgotten pool) low (ring_of Owner pool owner.0) = rising_forgotten pool low (ring_of Owner pool owner.0) rising in
    let owns = sym (chained.owners.own owner.0 lt node) ∙ ap (is_in node) ring_is ∙ head_is_in node rest in
    let parts = in_owner_parts pool owner.0 node owns in
    let le = chained.placed node (lt-ltb node (length pool.nodes) parts.0) in
    let inside : low < pool.free = omega (arith, parts.1) in
    let low_items : low < length pool.items = subst (λ (n : ℕ). low < n) (sym chained.ends) (omega arith) in
    let here : is_in node (ring_of Item pool low) ≡ true = chained.items.own low low_items node ∙ in_item_from pool low node parts.0 refl in
    let own : list_any (rule.is_of owner) (list_of pool low) ≡ true = any_there pool owner (ring_of Item pool low) node here (eq-eqb (entry_at pool node).owner.0 owner.0 parts.2) in
    let done = done_further (list_of pool) pool.free owner 0 low (forgotten pool) (begins pool owner chained lt) (omega arith) (order_at pool order)
    (λ item from below. let lt' : item < pool.free = omega arith in none_there pool owner item low chained lt rising (omega arith) lt') in
    let Q : ℕ → Type 0 = λ n. IsDone (list_of pool) pool.free owner n (forgotten pool) in
    let done' : IsDone (list_of pool) pool.free owner low (forgotten pool) = subst Q (let whole : 0 + low ≡ low = omega arith in whole) done in
    let leaving = done_leaving (list_of pool) pool.free owner low (forgotten pool) done' inside rising' own in
    let base = list_of pool in
    let take_it = taken base pool.free owner low (forgotten pool) node rest leaving ring_is refl in
    let new = freed node (forgotten pool) in
    let gone = take_it.leaving in
    let enough : length rest ≤ length new.nodes = subst (λ (nodes : List ℕ). length nodes ≤ length new.nodes) take_it.ring
    (few (ring_of Owner new owner.0) (length new.nodes) (gone.chained.owners.apart owner.0 gone.owner_lt)
    (λ n is. (in_owner_parts new owner.0 n (sym (gone.chained.owners.own owner.0 gone.owner_lt n) ∙ is)).0)) in
    let all = leaves base pool.free owner rest (length new.nodes) low new (order_at pool order) enough gone take_it.ring in
    let P : Spot → Type 0 = λ spot. IsRight pool owner (left_if spot owner.0 (forgotten pool)) (steps_if spot owner.0 (forgotten pool)) in
    let cost = all.1 in
    let less = take_it.less in
    let same : all_owned owner pool.free (forgotten pool) ≡ all_owned owner pool.free pool = refl in
    subst P (sym on) (done_right pool owner (left_if (On node) owner.0 (forgotten pool)) (steps_if (On node) owner.0 (forgotten pool)) all.0 (omega arith))

-- an owner past all that ever asked has no entry
stranger_none : (pool : Pool) (owner : TxnId) (item : ℕ) → IsChained pool → length pool.owners ≤ owner.0 → item < pool.free → list_any (rule.is_of owner) (list_of pool item) ≡ false
stranger_none pool owner item chained past inside = elim (cases_Bool (list_any (rule.is_of owner) (list_of pool item))) [
  | inl some ↦
      let its = any_node pool owner (ring_of Item pool item) some in
      let item_lt : item < length pool.items = subst (λ (n : ℕ). item < n) (sym chained.ends) (omega arith) in
      let parts = its_nodes pool item chained item_lt its.node its.here in
      let used : (node_at pool its.node).ring ≢ pool.free = λ same.
      let clash : pool.free < pool.free = subst (λ (n : ℕ). n < pool.free) (sym parts.1 ∙ same) inside in omega arith in
      let known = chained.owned its.node (lt-ltb its.node (length pool.nodes) parts.0) used in
      let same = eqb-true (entry_at pool its.node).owner.0 owner.0 its.own in
      absurd (omega arith)
  | inr none ↦ none
]

right_for_stranger : (pool : Pool) (owner : TxnId) → IsChained pool → AreOrderly (shown pool) → length pool.owners ≤ owner.0 → IsRight pool owner (left owner.0 pool) (steps owner.0 pool)
right_for_stranger pool owner chained order past =
    let end : (links Owner pool (End owner.0)).after ≡ End 0 = ap (λ (p : Pair). p.after) (get_or_past pool.owners owner.0 nowhere past) in
    let P : Spot → Type 0 = λ spot. IsRight pool owner (left_if spot owner.0 (forgotten pool)) (steps_if spot owner.0 (forgotten pool)) in
    let same = λ (item : ℕ) (lt : item < pool.free). untouched owner item (list_of pool item) (order_at pool order item lt) (stranger_none pool owner item chained past lt) in
    subst P (sym end) (record {
      chained = forgotten_chained pool chained;
      free = refl;
      lists = λ item lt. sym (same item lt).stays;
      grants = sym (grants_stay owner 0 pool.free (list_of pool) (λ item from lt. (same item (omega arith)).no_grants)) ∙ ap (λ n. grants_upto owner n (list_of pool)) (let whole : 0 + pool.free ≡ pool.free = omega arith in whole);
      cost = omega arith;
    })

right : (pool : Pool) (owner : TxnId) → IsKept pool → IsRight pool owner (left owner.0 pool) (steps owner.0 pool)
right pool owner kept = elim (cases_lt owner.0 (length pool.owners)) [
  | inl lt ↦ right_by_ring pool owner (ring_of Owner pool owner.0) kept.chained kept.order lt refl
  | inr past ↦ right_for_stranger pool owner kept.chained kept.order past
]

-- ---- the table

abbrev table_of : List (List LockEntry) → List Grant → Table
table_of lists grants = record { lists = lists; grants = grants }

pub left_shown : (pool : Pool) (owner : TxnId) → IsKept pool → shown (left owner.0 pool) ≡ rule.after_release owner (shown pool)
left_shown pool owner kept =
    let is = right pool owner kept in
    let new = left owner.0 pool in
    let range = range_with_len 0 pool.free in
    let lists : map (list_of new) (range_with_len 0 new.free) ≡ map (rule.left_by owner) (map (list_of pool) range) =
    ap (λ n. map (list_of new) (range_with_len 0 n)) is.free ∙ lists_same pool.free (λ at. rule.left_by owner (list_of pool at)) (list_of new) is.lists
    ∙ sym (map_twice (rule.left_by owner) (list_of pool) range) in
    ap₂ table_of lists (is.grants ∙ grants_are owner pool.free (list_of pool))

pub left_kept : (pool : Pool) (owner : TxnId) → IsKept pool → IsKept (left owner.0 pool)
left_kept pool owner kept = record {
  chained = (right pool owner kept).chained;
  order = subst (λ (table : Table). AreOrderly table) (sym (left_shown pool owner kept)) (after_release_orderly owner (shown pool) kept.order);
}

-- the steps are at most so many
pub left_cost : (pool : Pool) (owner : TxnId) → IsKept pool → steps owner.0 pool ≤ most_steps owner (shown pool)
left_cost pool owner kept =
    let cost = (right pool owner kept).cost in
    let own = sum_is (owned owner) (list_of pool) pool.free in
    let all = sum_is (shared owner) (list_of pool) pool.free in
    omega arith
