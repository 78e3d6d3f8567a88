-- What is made when memory is taken changes nothing that is shown.
use Rattle.std.proofs.Common.{◌≡◌, ◌≢◌, ◌==◌, ◌<◌, ◌+◌, ℕ, zero, suc, true, false, List, [], ◌∷◌, ◌++◌, length, get_or, drop, map, replicate, refl, sym, ap, ap₂, subst, ◌∙◌, inl, inr, arith, add-one}
use Rattle.std.specs.Prelude.{nat_lt}
use Rattle.std.proofs.lemmas.Bool.{and_left, both_ways, cases_Bool, cases_eq, le-ltb, lt-ltb}
use Rattle.std.proofs.lemmas.List.{get_or_append_left, get_or_at, length-append, take-append-le}
use Rattle.std.proofs.lemmas.List.FromFn.{get_or-map-range_with_len, length-map-range_with_len}
use Rattle.std.specs.List.{range_with_len}
use Rattle.tp_lock.specs.Order.{AreOrderly}
use Rattle.tp_lock.specs.Table.{Table}
use Rattle.tp_lock.specs.declared.entry.Grant.{Grant}
use Rattle.tp_lock.specs.declared.entry.LockEntry.{LockEntry}
use Rattle.tp_lock.specs.Rule as rule
use Rattle.tp_lock.proofs.RequestLaws.{opening_orderly}
use Rattle.tp_lock_chain.specs.declared.links.Kind.{Kind}
use Rattle.tp_lock_chain.specs.declared.links.Kind.TheVariants.{Item, Owner}
use Rattle.tp_lock_chain.specs.declared.links.Pair.{Pair}
use Rattle.tp_lock_chain.specs.declared.links.Pool.{Pool}
use Rattle.tp_lock_chain.specs.declared.links.Spot.{Spot}
use Rattle.tp_lock_chain.specs.declared.links.Spot.TheVariants.{End, On}
use Rattle.tp_lock_chain.specs.mirrors.Ends.{ends, lone}
use Rattle.tp_lock_chain.specs.mirrors.Links.{links, node_at, nowhere}
use Rattle.tp_lock_chain.specs.mirrors.Pool.{AreRising, IsChained, IsKept, in_item, in_owner, list_of, ring_of, shown}
use Rattle.tp_lock_chain.specs.mirrors.Rings.{AreApart, AreLinked, is_in, walk}
use Rattle.tp_lock_chain.specs.mirrors.Room.{Keeps, opened, with_owner, with_place}
use Rattle.tp_lock_chain.proofs.ChainLemmas.{in_owner_parts, rising_same}
use Rattle.tp_lock_chain.proofs.LikeLemmas.{IsLike, like_chained}
use Rattle.tp_lock_chain.proofs.MoveLemmas.{rings_same}
use Rattle.tp_lock_chain.proofs.RingLemmas.{linked_stays}

walk_end : (fuel : ℕ) (links : Spot → Pair) (ring : ℕ) → walk fuel links (End ring) ≡ []
walk_end zero links ring = refl
walk_end (suc fuel) links ring = refl

-- a walk reads the links of nodes alone
walk_on_same : (fuel : ℕ) (old new : Spot → Pair) → ((node : ℕ) → new (On node) ≡ old (On node)) → (at : Spot) → walk fuel new at ≡ walk fuel old at
walk_on_same zero old new same at = refl
walk_on_same (suc fuel) old new same (End ring) = refl
walk_on_same (suc fuel) old new same (On node) =
    ap (λ ns. node ∷ ns) (walk_on_same fuel old new same (new (On node)).after ∙ ap (λ (p : Pair). walk fuel old p.after) (same node))

pub keeps_itself : (pool : Pool) → Keeps pool pool
keeps_itself pool = record { free = refl; kept = λ kept. kept; same = λ kept. refl }

pub keeps_twice : (pool mid new : Pool) → Keeps pool mid → Keeps mid new → Keeps pool new
keeps_twice pool mid new a b = record { free = b.free ∙ a.free; kept = λ kept. b.kept (a.kept kept); same = λ kept. b.same (a.kept kept) ∙ a.same kept }

same_items : (pool : Pool) (spot : Spot) → links Item (with_owner pool) spot ≡ links Item pool spot
same_items pool (End ring) = refl
same_items pool (On node) = refl

same_place : (kind : Kind) (pool : Pool) (spot : Spot) → links kind (with_place pool) spot ≡ links kind pool spot
same_place Item pool (End ring) = refl
same_place Owner pool (End ring) = refl
same_place Item pool (On node) = refl
same_place Owner pool (On node) = refl

-- ---- the ring of one more owner

end_before : (pool : Pool) (ring : ℕ) → ring < length pool.owners → links Owner (with_owner pool) (End ring) ≡ links Owner pool (End ring)
end_before pool ring lt = get_or_append_left pool.owners (lone (length pool.owners) ∷ []) nowhere ring lt

end_new : (pool : Pool) → links Owner (with_owner pool) (End (length pool.owners)) ≡ lone (length pool.owners)
end_new pool = get_or_at pool.owners (lone (length pool.owners)) [] nowhere (length pool.owners) refl

ring_before : (pool : Pool) (ring : ℕ) → ring < length pool.owners → ring_of Owner (with_owner pool) ring ≡ ring_of Owner pool ring
ring_before pool ring lt =
    ap (λ (p : Pair). walk (length pool.nodes) (links Owner (with_owner pool)) p.after) (end_before pool ring lt)
    ∙ walk_on_same (length pool.nodes) (links Owner pool) (links Owner (with_owner pool)) (λ node. refl) (links Owner pool (End ring)).after

ring_new : (pool : Pool) → ring_of Owner (with_owner pool) (length pool.owners) ≡ []
ring_new pool =
    ap (λ (p : Pair). walk (length pool.nodes) (links Owner (with_owner pool)) p.after) (end_new pool)
    ∙ walk_end (length pool.nodes) (links Owner (with_owner pool)) (length pool.owners)

nobody_there : (pool : Pool) (node : ℕ) → IsChained pool → in_owner pool (length pool.owners) node ≡ false
nobody_there pool node chained = elim (cases_Bool (in_owner pool (length pool.owners) node)) [
  | inl some ↦
      let parts = in_owner_parts pool (length pool.owners) node some in
      let known = chained.owned node (lt-ltb node (length pool.nodes) parts.0) parts.1 in
      let clash : length pool.owners < length pool.owners = subst (λ (n : ℕ). n < length pool.owners) parts.2 known in
      absurd (omega arith)
  | inr none ↦ none
]

more_owners : (pool : Pool) → length (with_owner pool).owners ≡ suc (length pool.owners)
more_owners pool = length-append pool.owners (lone (length pool.owners) ∷ []) ∙ (let one : length pool.owners + 1 ≡ suc (length pool.owners) = omega arith in one)

last_or_before : (ring count : ℕ) → ring < suc count → (ring ≢ count) → ring < count
last_or_before ring count lt ne = omega (arith, ne)

with_owner_chained : (pool : Pool) → IsChained pool → IsChained (with_owner pool)
with_owner_chained pool chained =
    let new = with_owner pool in
    let more = more_owners pool in
    let before : (ring : ℕ) → ring < length new.owners → ring ≢ length pool.owners → ring < length pool.owners = λ ring lt ne.
    last_or_before ring (length pool.owners) (subst (λ (n : ℕ). ring < n) more lt) ne in
    record {
      items = rings_same (links Item pool) (links Item new) (length pool.items) (length new.items) (in_item pool) (in_item new) (ring_of Item pool) (λ spot. same_items pool spot) refl (λ r n. refl) chained.items;
      owners = record {
        linked = λ ring lt. elim (cases_eq ring (length pool.owners)) [
          | inl same ↦
              subst (λ (r : ℕ). AreLinked (links Owner new) (End r) (ring_of Owner new r) (End r)) (sym same)
              (subst (λ (nodes : List ℕ). AreLinked (links Owner new) (End (length pool.owners)) nodes (End (length pool.owners))) (sym (ring_new pool))
              (ap (λ (p : Pair). p.after) (end_new pool), ap (λ (p : Pair). p.before) (end_new pool)))
          | inr ne ↦
              let lt' = before ring lt ne in
              subst (λ (nodes : List ℕ). AreLinked (links Owner new) (End ring) nodes (End ring)) (sym (ring_before pool ring lt'))
              (linked_stays (links Owner pool) (links Owner new) (End ring) (ring_of Owner pool ring) (End ring) (chained.owners.linked ring lt')
              (ap (λ (p : Pair). p.after) (end_before pool ring lt')) (ap (λ (p : Pair). p.before) (end_before pool ring lt')) (λ node is. (refl, refl)))
        ];
        apart = λ ring lt. elim (cases_eq ring (length pool.owners)) [
          | inl same ↦ subst (λ (nodes : List ℕ). AreApart nodes) (sym (ap (ring_of Owner new) same ∙ ring_new pool)) tt
          | inr ne ↦ let lt' = before ring lt ne in subst (λ (nodes : List ℕ). AreApart nodes) (sym (ring_before pool ring lt')) (chained.owners.apart ring lt')
        ];
        own = λ ring lt node. elim (cases_eq ring (length pool.owners)) [
          | inl same ↦ ap (is_in node) (ap (ring_of Owner new) same ∙ ring_new pool) ∙ sym (ap (λ r. in_owner pool r node) same ∙ nobody_there pool node chained)
          | inr ne ↦ let lt' = before ring lt ne in ap (is_in node) (ring_before pool ring lt') ∙ chained.owners.own ring lt' node
        ];
      };
      ends = chained.ends;
      placed = chained.placed;
      owned = λ node there used. let was = chained.owned node there used in omega arith;
      rising = λ ring lt. elim (cases_eq ring (length pool.owners)) [
        | inl same ↦ subst (λ (nodes : List ℕ). AreRising new 0 nodes) (sym (ap (ring_of Owner new) same ∙ ring_new pool)) tt
        | inr ne ↦
            let lt' = before ring lt ne in
            subst (λ (nodes : List ℕ). AreRising new 0 nodes) (sym (ring_before pool ring lt')) (rising_same pool new 0 (ring_of Owner pool ring) (λ node is. refl) (chained.rising ring lt'))
      ];
      room = chained.room;
      given = chained.given;
    }

pub with_owner_keeps : (pool : Pool) → Keeps pool (with_owner pool)
with_owner_keeps pool = record { free = refl; kept = λ kept. record { chained = with_owner_chained pool kept.chained; order = kept.order }; same = λ kept. refl }

-- ---- a place for a grant

place_like : (pool : Pool) → IsLike pool (with_place pool)
place_like pool = record { links_are = λ kind spot. same_place kind pool spot; nodes = refl; items = refl; owners = refl; rings = λ node. refl; owned = λ node. refl; free = refl }

pub one_place : (pool : Pool) → length (with_place pool).granted ≡ suc (length pool.granted)
one_place pool =
    length-append pool.granted (rule.grant_of (record { 0 = 0 }) 0 ∷ []) ∙ (let one : length pool.granted + 1 ≡ suc (length pool.granted) = omega arith in one)

place_chained : (pool : Pool) → IsChained pool → IsChained (with_place pool)
place_chained pool chained =
    let more = one_place pool in
    let given = chained.given in
    like_chained pool (with_place pool) (place_like pool) (omega arith) (omega arith) chained

place_shown : (pool : Pool) → IsChained pool → shown (with_place pool) ≡ shown pool
place_shown pool chained =
    ap (λ (gs : List Grant). let table : Table = record { lists = (shown pool).lists; grants = drop pool.next gs } in table)
    (take-append-le pool.given pool.granted (rule.grant_of (record { 0 = 0 }) 0 ∷ []) chained.given)

pub with_place_keeps : (pool : Pool) → Keeps pool (with_place pool)
with_place_keeps pool = record {
  free = refl;
  kept = λ kept. record { chained = place_chained pool kept.chained; order = subst (λ (table : Table). AreOrderly table) (sym (place_shown pool kept.chained)) kept.order };
  same = λ kept. place_shown pool kept.chained;
}

-- ---- a table that is opened

end_is : (count ring : ℕ) → ring < count → get_or (ends count) ring nowhere ≡ lone ring
end_is count ring lt = get_or-map-range_with_len lone 0 count ring ring nowhere lt (omega arith)

none_yet : (items ring node : ℕ) → false ≡ in_item (opened items) ring node
none_yet items ring node = sym (and_left (nat_lt node 0) ((node_at (opened items) node).ring == ring) (le-ltb node 0 (omega arith)))

not_there : (node : ℕ) → nat_lt node 0 ≢ true
not_there node same = both_ways (nat_lt node 0) (le-ltb node 0 (omega arith)) same

opened_chained : (items : ℕ) → IsChained (opened items)
opened_chained items =
    let many : length (ends (items + 1)) ≡ items + 1 = length-map-range_with_len lone 0 (items + 1) in
    record {
      items = record {
        linked = λ ring lt.
            let is = end_is (items + 1) ring (subst (λ (n : ℕ). ring < n) many lt) in
            (ap (λ (p : Pair). p.after) is, ap (λ (p : Pair). p.before) is);
        apart = λ ring lt. tt;
        own = λ ring lt node. none_yet items ring node;
      };
      owners = record { linked = λ ring lt. absurd (omega arith); apart = λ ring lt. tt; own = λ ring lt node. absurd (omega arith) };
      ends = many ∙ add-one items;
      placed = λ node there. absurd (not_there node there);
      owned = λ node there used. absurd (not_there node there);
      rising = λ owner lt. absurd (omega arith);
      room = omega arith;
      given = omega arith;
    }

lists_none : (lists : ℕ → List LockEntry) (from count : ℕ) → ((item : ℕ) → lists item ≡ []) → map lists (range_with_len from count) ≡ replicate count []
lists_none lists from zero none = refl
lists_none lists from (suc count) none = ap₂ (λ (l : List LockEntry) (ls : List (List LockEntry)). l ∷ ls) (none from) (lists_none lists (from + 1) count none)

empty_lists : (items from : ℕ) → map (list_of (opened items)) (range_with_len 0 from) ≡ replicate from []
empty_lists items from = lists_none (list_of (opened items)) 0 from (λ item. refl)

pub opened_shown : (items : ℕ) → shown (opened items) ≡ rule.opening items
opened_shown items = ap (λ (ls : List (List LockEntry)). let table : Table = record { lists = ls; grants = [] } in table) (empty_lists items items)

pub opened_kept : (items : ℕ) → IsKept (opened items)
opened_kept items = record { chained = opened_chained items; order = subst (λ (table : Table). AreOrderly table) (sym (opened_shown items)) (opening_orderly items) }

-- ---- turns of loops

pub owner_pushed : (base pool : Pool) (owners : List Pair) (pair : Pair) (count : ℕ) → Keeps base pool → owners ≡ pool.owners ++ pair ∷ [] → pair ≡ lone count → count ≡ length pool.owners
    → Keeps base (record pool { owners = owners })
owner_pushed base pool owners pair count keeps pushed alone many =
    let whole : owners ≡ pool.owners ++ lone (length pool.owners) ∷ [] = pushed ∙ ap (λ (p : Pair). pool.owners ++ p ∷ []) alone ∙ ap (λ n. pool.owners ++ lone n ∷ []) many in
    let P : List Pair → Type 0 = λ os. Keeps base (record pool { owners = os }) in
    subst P (sym whole) (keeps_twice base pool (with_owner pool) keeps (with_owner_keeps pool))
