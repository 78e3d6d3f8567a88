-- A release: item after item, the lists of the rule with its grants, in at most so many steps.
use Rattle.std.proofs.Common.{◌≡◌, ◌≢◌, ◌==◌, ◌<◌, ◌≤◌, ◌+◌, ◌-◌, ◌*◌, not, ℕ, zero, suc, Bool, true, false, cond, List, [], ◌∷◌, ◌++◌, length, take, filter, refl, sym, ap, ap₂, subst, ◌∙◌, inl, inr, arith}
use Rattle.std.proofs.lemmas.Bool.{both_ways, cases_Bool, cases_eq, cases_lt, eq-eqb, eqb-true, ne_eqb, lt-ltb, or_cases, or_left, or_right}
use Rattle.std.proofs.lemmas.List.{length-append, length-map, map-append}
use Rattle.std.specs.List.{list_any}
use Rattle.tp_types.specs.declared.ids.TxnId.{TxnId}
use Rattle.tp_lock.specs.Order.{IsOrderly}
use Rattle.tp_lock.specs.Rule as rule
use Rattle.tp_lock.specs.declared.entry.Grant.{Grant}
use Rattle.tp_lock.specs.declared.entry.LockEntry.{LockEntry}
use Rattle.tp_lock.proofs.ReleaseLaws.{untouched}
use Rattle.tp_lock_chain.specs.Cost.{owned, shared}
use Rattle.tp_lock_chain.specs.declared.links.Kind.TheVariants.{Item, Owner}
use Rattle.tp_lock_chain.specs.declared.links.Pool.{Pool}
use Rattle.tp_lock_chain.specs.declared.links.Spot.{Spot}
use Rattle.tp_lock_chain.specs.declared.links.Spot.TheVariants.{End, On}
use Rattle.tp_lock_chain.specs.mirrors.Leave.{rest_from, freed, left_from, left_one, one_steps, ring_at, settle_steps, settled}
use Rattle.tp_lock_chain.specs.mirrors.Links.{links, node_at}
use Rattle.tp_lock_chain.specs.mirrors.Pool.{AreRising, IsChained, entries_of, entry_at, in_owner, list_of, ring_of}
use Rattle.tp_lock_chain.specs.mirrors.Rings.{AreApart, AreLinked, is_in}
use Rattle.tp_lock_chain.proofs.ChainLemmas.{freed_is, in_owner_from, in_owner_parts, rising_all, rising_same}
use Rattle.tp_lock_chain.proofs.FamilyLemmas.{in_it}
use Rattle.tp_lock_chain.proofs.LikeLemmas.{like_chained, like_rings}
use Rattle.tp_lock_chain.proofs.ListLemmas.{all_other, filter_skips, grants_stay, grants_upto, owned_granted, owned_less, shared_some, sum_grows, sum_less, sum_same, sum_upto}
use Rattle.tp_lock_chain.proofs.MoveLemmas.{in_item_from}
use Rattle.tp_lock_chain.proofs.RingLemmas.{head_is_in, tail_is_in}
use Rattle.tp_lock_chain.proofs.SettleLemmas.{entries_stay, held_few, held_in, held_same, its_nodes, settled_in, settled_is}

-- ---- where an owner has entries

pub record HasNode (pool : Pool) (owner : TxnId) (nodes : List ℕ) : Type 0 where
  pub node : ℕ
  pub here : is_in node nodes ≡ true
  pub own : rule.is_of owner (entry_at pool node) ≡ true

pub any_node : (pool : Pool) (owner : TxnId) (nodes : List ℕ) → list_any (rule.is_of owner) (entries_of pool nodes) ≡ true → HasNode pool owner nodes
any_node pool owner [] some = absurd (both_ways false refl some)
any_node pool owner (node ∷ nodes) some = elim (or_cases (rule.is_of owner (entry_at pool node)) (list_any (rule.is_of owner) (entries_of pool nodes)) some) [
  | inl own ↦ record { node = node; here = head_is_in node nodes; own = own }
  | inr later ↦
      let rest = any_node pool owner nodes later in
      record { node = rest.node; here = tail_is_in rest.node node nodes rest.here; own = rest.own }
]

pub any_there : (pool : Pool) (owner : TxnId) (nodes : List ℕ) (node : ℕ) → is_in node nodes ≡ true → rule.is_of owner (entry_at pool node) ≡ true
    → list_any (rule.is_of owner) (entries_of pool nodes) ≡ true
any_there pool owner [] node here own = here
any_there pool owner (first ∷ nodes) node here own = elim (or_cases (first == node) (is_in node nodes) here) [
  | inl same ↦ or_left (rule.is_of owner (entry_at pool first)) (list_any (rule.is_of owner) (entries_of pool nodes)) (ap (λ n. rule.is_of owner (entry_at pool n)) (eqb-true first node same) ∙ own)
  | inr later ↦ or_right (rule.is_of owner (entry_at pool first)) (list_any (rule.is_of owner) (entries_of pool nodes)) (any_there pool owner nodes node later own)
]

-- where all nodes of an owner are of later items, it has no entry
pub none_there : (pool : Pool) (owner : TxnId) (at low : ℕ) → IsChained pool → owner.0 < length pool.owners → AreRising pool low (ring_of Owner pool owner.0) → at < low → at < pool.free
    → list_any (rule.is_of owner) (list_of pool at) ≡ false
none_there pool owner at low chained lt rising below inside = elim (cases_Bool (list_any (rule.is_of owner) (list_of pool at))) [
  | inl some ↦
      let its = any_node pool owner (ring_of Item pool at) some in
      let at_lt : at < length pool.items = subst (λ (n : ℕ). at < n) (sym chained.ends) (omega arith) in
      let parts = its_nodes pool at chained at_lt its.node its.here in
      let used : (node_at pool its.node).ring ≢ pool.free = λ same.
      let clash : pool.free < pool.free = subst (λ (n : ℕ). n < pool.free) (sym parts.1 ∙ same) inside in omega arith in
      let owns = in_owner_from pool owner.0 its.node parts.0 used (eqb-true (entry_at pool its.node).owner.0 owner.0 its.own) in
      let high = rising_all pool low (ring_of Owner pool owner.0) its.node rising (chained.owners.own owner.0 lt its.node ∙ owns) in
      let clash : low ≤ at = subst (λ (n : ℕ). low ≤ n) parts.1 high in
      absurd (omega arith)
  | inr none ↦ none
]

-- ---- how far a release has come

-- the lists up to this item are those of the rule, with the grants of these, and the others are as they were
pub record IsDone (base : ℕ → List LockEntry) (count : ℕ) (owner : TxnId) (upto : ℕ) (pool : Pool) : Type 0 where
  pub chained : IsChained pool
  pub free : pool.free ≡ count
  pub owner_lt : owner.0 < length pool.owners
  pub fits : pool.given ≤ held_in pool.nodes
  pub next : pool.next ≡ 0
  pub below : (at : ℕ) → at < upto → list_of pool at ≡ rule.left_by owner (base at)
  pub above : (at : ℕ) → upto ≤ at → at < count → list_of pool at ≡ base at
  pub grants : take pool.given pool.granted ≡ grants_upto owner upto base

-- and from the list of this item the owner's nodes are taken one after the other
pub record IsLeaving (base : ℕ → List LockEntry) (count : ℕ) (owner : TxnId) (at : ℕ) (pool : Pool) : Type 0 where
  pub chained : IsChained pool
  pub free : pool.free ≡ count
  pub owner_lt : owner.0 < length pool.owners
  pub fits : pool.given ≤ held_in pool.nodes
  pub next : pool.next ≡ 0
  pub inside : at < count
  pub below : (other : ℕ) → other < at → list_of pool other ≡ rule.left_by owner (base other)
  pub here : filter (rule.is_of_other owner) (list_of pool at) ≡ filter (rule.is_of_other owner) (base at)
  pub shorter : length (list_of pool at) ≤ length (base at)
  pub own : list_any (rule.is_of owner) (base at) ≡ true
  pub above : (other : ℕ) → at < other → other < count → list_of pool other ≡ base other
  pub grants : take pool.given pool.granted ≡ grants_upto owner at base
  pub rising : AreRising pool at (ring_of Owner pool owner.0)

abbrev pub all_owned : TxnId → ℕ → Pool → ℕ
all_owned owner count pool = sum_upto count (λ at. owned owner (list_of pool at))

abbrev pub all_shared : TxnId → ℕ → (ℕ → List LockEntry) → ℕ
all_shared owner count base = sum_upto count (λ at. shared owner (base at))

pub done_leaving : (base : ℕ → List LockEntry) (count : ℕ) (owner : TxnId) (at : ℕ) (pool : Pool) → IsDone base count owner at pool → at < count
    → AreRising pool at (ring_of Owner pool owner.0) → list_any (rule.is_of owner) (list_of pool at) ≡ true → IsLeaving base count owner at pool
done_leaving base count owner at pool done inside rising own =
    let same : list_of pool at ≡ base at = done.above at (omega arith) inside in
    record {
      chained = done.chained;
      free = done.free;
      owner_lt = done.owner_lt;
      fits = done.fits;
      next = done.next;
      inside = inside;
      below = done.below;
      here = ap (filter (rule.is_of_other owner)) same;
      shorter = subst (λ (entries : List LockEntry). length (list_of pool at) ≤ length entries) same (omega arith);
      own = ap (list_any (rule.is_of owner)) (sym same) ∙ own;
      above = λ other lt inside'. done.above other (omega arith) inside';
      grants = done.grants;
      rising = rising;
    }

-- lists without the owner are those of the rule, and grant nothing
pub done_further : (base : ℕ → List LockEntry) (count : ℕ) (owner : TxnId) (upto more : ℕ) (pool : Pool) → IsDone base count owner upto pool → upto + more ≤ count
    → ((at : ℕ) → at < count → IsOrderly (base at)) → ((at : ℕ) → upto ≤ at → at < upto + more → list_any (rule.is_of owner) (base at) ≡ false)
    → IsDone base count owner (upto + more) pool
done_further base count owner upto more pool done le order none = record {
  chained = done.chained;
  free = done.free;
  owner_lt = done.owner_lt;
  fits = done.fits;
  next = done.next;
  below = λ at lt. elim (cases_lt at upto) [
    | inl before ↦ done.below at before
    | inr from ↦ done.above at from (omega arith) ∙ sym (untouched owner at (base at) (order at (omega arith)) (none at from lt)).stays
  ];
  above = λ at from inside. done.above at (omega arith) inside;
  grants = done.grants ∙ sym (grants_stay owner upto more base (λ at from lt. (untouched owner at (base at) (order at (omega arith)) (none at from lt)).no_grants));
}

-- ---- the list of an item that the owner has left

pub record IsFinished (base : ℕ → List LockEntry) (count : ℕ) (owner : TxnId) (at : ℕ) (pool new : Pool) : Type 0 where
  pub done : IsDone base count owner (suc at) new
  pub ring : ring_of Owner new owner.0 ≡ ring_of Owner pool owner.0
  pub rings : (node : ℕ) → ring_at node new ≡ ring_at node pool
  pub owned_same : all_owned owner count new ≡ all_owned owner count pool
  pub steps : settle_steps at pool + 2 * all_shared owner at base ≤ 2 * all_shared owner (suc at) base

pub finishes : (base : ℕ → List LockEntry) (count : ℕ) (owner : TxnId) (at low : ℕ) (pool : Pool) → IsLeaving base count owner at pool → at < low
    → AreRising pool low (ring_of Owner pool owner.0) → IsFinished base count owner at pool (settled at pool)
finishes base count owner at low pool leaving before rising =
    let chained = leaving.chained in
    let new = settled at pool in
    let inside : at < pool.free = subst (λ (n : ℕ). at < n) (sym leaving.free) leaving.inside in
    let at_lt : at < length pool.items = subst (λ (n : ℕ). at < n) (sym chained.ends) (omega arith) in
    let set = settled_is pool at chained at_lt leaving.fits in
    let ring_same : (other : ℕ) → ring_of Item new other ≡ ring_of Item pool other = λ other. like_rings pool new Item other set.like in
    let gone : filter (rule.is_of_other owner) (list_of pool at) ≡ list_of pool at = all_other owner (list_of pool at) (none_there pool owner at low chained leaving.owner_lt rising before inside) in
    let was : list_of pool at ≡ filter (rule.is_of_other owner) (base at) = sym gone ∙ leaving.here in
    let list_now : list_of new at ≡ rule.with_grants_from [] (list_of pool at) = ap (entries_of new) (ring_same at) ∙ set.entries in
    let elsewhere : (other : ℕ) → other < count → other ≢ at → list_of new other ≡ list_of pool other = λ other lt ne.
    ap (entries_of new) (ring_same other)
    ∙ entries_stay pool new (ring_of Item pool other) (λ node is. set.elsewhere node (elim (cases_Bool (is_in node (ring_of Item pool at))) [
      | inl there ↦
          let other_lt : other < length pool.items = subst (λ (n : ℕ). other < n) (sym chained.ends) (let lt' : other < pool.free = subst (λ (n : ℕ). other < n) (sym leaving.free) lt in omega arith) in
          absurd (ne (sym (its_nodes pool other chained other_lt node is).1 ∙ (its_nodes pool at chained at_lt node there).1))
      | inr off ↦ off
    ])) in
    let long : length (list_of pool at) ≡ length (ring_of Item pool at) = length-map (ring_of Item pool at) (entry_at pool) in
    let steps_are : settle_steps at pool ≡ 2 * length (ring_of Item pool at) = settled_in pool at chained at_lt leaving.fits in
    let shares : shared owner (base at) ≡ length (base at) = shared_some owner (base at) leaving.own in
    let shorter = leaving.shorter in
    record {
      done = record {
        chained = like_chained pool new set.like (let same = set.places in omega arith)
            (let fits = set.fits in let few' = held_few new.nodes in let same = set.places in let nodes = set.like.nodes in let room = chained.room in omega arith) chained;
        free = set.like.free ∙ leaving.free;
        owner_lt = subst (λ (n : ℕ). owner.0 < n) (sym set.like.owners) leaving.owner_lt;
        fits = set.fits;
        next = set.next ∙ leaving.next;
        below = λ other lt. elim (cases_eq other at) [
          | inl same ↦ ap (list_of new) same ∙ list_now ∙ ap (rule.with_grants_from []) was ∙ ap (λ n. rule.left_by owner (base n)) (sym same)
          | inr ne ↦ elsewhere other (let inside' = leaving.inside in omega arith) ne ∙ leaving.below other (omega (arith, ne))
        ];
        above = λ other from lt.
            elsewhere other lt (λ same. let clash : suc at ≤ at = subst (λ (n : ℕ). suc at ≤ n) same from in omega arith) ∙ leaving.above other from lt;
        grants = set.grants ∙ ap₂ (λ (gs : List Grant) (es : List LockEntry). gs ++ rule.grants_from at [] es) leaving.grants was;
      };
      ring = like_rings pool new Owner owner.0 set.like;
      rings = set.like.rings;
      owned_same = sum_same count (λ other. owned owner (list_of pool other)) (λ other. owned owner (list_of new other)) (λ other lt. elim (cases_eq other at) [
        | inl same ↦ ap (λ n. owned owner (list_of new n)) same ∙ ap (owned owner) list_now ∙ owned_granted owner [] (list_of pool at) ∙ ap (λ n. owned owner (list_of pool n)) (sym same)
        | inr ne ↦ ap (owned owner) (elsewhere other lt ne)
      ]);
      steps = omega arith;
    }

-- ---- a node of the owner that is freed

tails : (a b : ℕ) (xs ys : List ℕ) → a ∷ xs ≡ b ∷ ys → xs ≡ ys
tails a b xs ys same = cc

split_head : (node : ℕ) (rest front back : List ℕ) → node ∷ rest ≡ front ++ node ∷ back → AreApart (node ∷ rest) → front ++ back ≡ rest
split_head node rest [] back same apart = sym (tails node node rest back same)
split_head node rest (x ∷ front) back same apart =
    absurd (both_ways (is_in node rest) apart.0 (ap (is_in node) (tails node x rest (front ++ node ∷ back) same) ∙ in_it node front back))

pub record IsTaken (base : ℕ → List LockEntry) (count : ℕ) (owner : TxnId) (at : ℕ) (pool new : Pool) (rest : List ℕ) : Type 0 where
  pub leaving : IsLeaving base count owner at new
  pub ring : ring_of Owner new owner.0 ≡ rest
  pub less : all_owned owner count pool ≡ suc (all_owned owner count new)

pub taken : (base : ℕ → List LockEntry) (count : ℕ) (owner : TxnId) (at : ℕ) (pool : Pool) (node : ℕ) (rest : List ℕ) → IsLeaving base count owner at pool
    → ring_of Owner pool owner.0 ≡ node ∷ rest → ring_at node pool ≡ at → IsTaken base count owner at pool (freed node pool) rest
taken base count owner at pool node rest leaving ring_is at_is =
    let chained = leaving.chained in
    let new = freed node pool in
    let owns : in_owner pool owner.0 node ≡ true = sym (chained.owners.own owner.0 leaving.owner_lt node) ∙ ap (is_in node) ring_is ∙ head_is_in node rest in
    let parts = in_owner_parts pool owner.0 node owns in
    let free = freed_is pool owner.0 node chained leaving.owner_lt owns in
    let entry = entry_at pool node in
    let own : rule.is_of owner entry ≡ true = eq-eqb entry.owner.0 owner.0 parts.2 in
    let apart : AreApart (node ∷ rest) = subst (λ (nodes : List ℕ). AreApart nodes) ring_is (chained.owners.apart owner.0 leaving.owner_lt) in
    let ring_now : ring_of Owner new owner.0 ≡ rest = free.own_after ∙ split_head node rest free.own_front free.own_back (sym ring_is ∙ free.own_before) apart in
    let xs = entries_of pool free.front in
    let ys = entries_of pool free.back in
    let was : list_of pool at ≡ xs ++ entry ∷ ys =
    ap (λ n. list_of pool n) (sym at_is) ∙ ap (entries_of pool) free.before ∙ map-append (entry_at pool) free.front (node ∷ free.back) in
    let now : list_of new at ≡ xs ++ ys =
    ap (λ n. list_of new n) (sym at_is) ∙ ap (entries_of new) free.after ∙ entries_stay pool new (free.front ++ free.back) (λ n is. free.entries n)
    ∙ map-append (entry_at pool) free.front free.back in
    let elsewhere : (other : ℕ) → other < count → other ≢ at → list_of new other ≡ list_of pool other = λ other lt ne.
    ap (entries_of new) (free.elsewhere other (subst (λ (n : ℕ). other < n) (sym leaving.free) lt) (λ same. ne (same ∙ at_is)))
    ∙ entries_stay pool new (ring_of Item pool other) (λ n is. free.entries n) in
    let fewer : length (list_of new at) ≤ length (list_of pool at) =
    subst (λ (es : List LockEntry). length es ≤ length (list_of pool at)) (sym now) (subst (λ (es : List LockEntry). length (xs ++ ys) ≤ length es) (sym was)
    (let a = length-append xs ys in let b = length-append xs (entry ∷ ys) in omega arith)) in
    let rising : AreRising pool at (node ∷ rest) = subst (λ (nodes : List ℕ). AreRising pool at nodes) ring_is leaving.rising in
    let rising_rest : AreRising pool at rest = subst (λ (r : ℕ). AreRising pool r rest) at_is rising.1 in
    let not_it : (n : ℕ) → is_in n rest ≡ true → n ≢ node = λ n is same. both_ways (is_in node rest) apart.0 (sym (ap (λ m. is_in m rest) same) ∙ is) in
    record {
      leaving = record {
        chained = free.chained;
        free = free.free ∙ leaving.free;
        owner_lt = subst (λ (n : ℕ). owner.0 < n) (sym free.owners) leaving.owner_lt;
        fits = subst (λ (n : ℕ). n ≤ held_in new.nodes) (sym free.given) (subst (λ (n : ℕ). pool.given ≤ n) (sym (held_same new.nodes pool.nodes free.nodes free.entries)) leaving.fits);
        next = free.next ∙ leaving.next;
        inside = leaving.inside;
        below = λ other lt. elsewhere other (let inside = leaving.inside in omega arith) (λ same. let clash : at < at = subst (λ (n : ℕ). n < at) same lt in omega arith) ∙ leaving.below other lt;
        here = ap (filter (rule.is_of_other owner)) now ∙ sym (ap (filter (rule.is_of_other owner)) was ∙ filter_skips owner entry xs ys own) ∙ leaving.here;
        shorter = let shorter = leaving.shorter in omega arith;
        own = leaving.own;
        above = λ other lt inside. elsewhere other inside (λ same. let clash : at < at = subst (λ (n : ℕ). at < n) same lt in omega arith) ∙ leaving.above other lt inside;
        grants = ap₂ (λ (n : ℕ) (gs : List Grant). take n gs) free.given free.granted ∙ leaving.grants;
        rising = subst (λ (nodes : List ℕ). AreRising new at nodes) (sym ring_now) (rising_same pool new at rest (λ n is. free.rings_else n (not_it n is)) rising_rest);
      };
      ring = ring_now;
      less = sum_less count at (λ other. owned owner (list_of pool other)) (λ other. owned owner (list_of new other)) leaving.inside
          (ap (owned owner) was ∙ owned_less owner entry xs ys own ∙ ap (λ es. suc (owned owner es)) (sym now)) (λ other lt ne. ap (owned owner) (elsewhere other lt ne));
    }

-- ---- all of the owner's nodes

pub record IsLeft (base : ℕ → List LockEntry) (count : ℕ) (owner : TxnId) (new : Pool) (steps before : ℕ) : Type 0 where
  pub done : IsDone base count owner count new
  pub cost : steps + 2 * before ≤ 2 * all_shared owner count base

-- the last list is settled, and those after it have no entry of the owner
last_list : (base : ℕ → List LockEntry) (count : ℕ) (owner : TxnId) (at : ℕ) (pool : Pool) → IsLeaving base count owner at pool → ((item : ℕ) → item < count → IsOrderly (base item))
    → ring_of Owner pool owner.0 ≡ [] → IsLeft base count owner (settled at pool) (settle_steps at pool) (all_shared owner at base)
last_list base count owner at pool leaving order none =
    let inside = leaving.inside in
    let rising : AreRising pool count (ring_of Owner pool owner.0) = subst (λ (nodes : List ℕ). AreRising pool count nodes) (sym none) tt in
    let finish = finishes base count owner at count pool leaving inside rising in
    let new = settled at pool in
    let more = count - suc at in
    let whole : suc at + more ≡ count = omega arith in
    let rising_new : AreRising new count (ring_of Owner new owner.0) = subst (λ (nodes : List ℕ). AreRising new count nodes) (sym (finish.ring ∙ none)) tt in
    let done = finish.done in
    let absent : (item : ℕ) → suc at ≤ item → item < suc at + more → list_any (rule.is_of owner) (base item) ≡ false = λ item from lt.
    let lt' : item < count = omega arith in
    ap (list_any (rule.is_of owner)) (sym (done.above item from lt'))
    ∙ none_there new owner item count done.chained done.owner_lt rising_new lt' (subst (λ (n : ℕ). item < n) (sym done.free) lt') in
    let P : ℕ → Type 0 = λ n. IsDone base count owner n new in
    let grows = sum_grows (suc at) count (λ item. shared owner (base item)) (omega arith) in
    let steps = finish.steps in
    record {
      done = subst P whole (done_further base count owner (suc at) more new done (omega arith) order absent);
      cost = omega arith;
    }

-- a node of a later item: the list of the one before is settled
record IsAt (base : ℕ → List LockEntry) (count : ℕ) (owner : TxnId) (at next : ℕ) (pool mid : Pool) (nodes : List ℕ) (steps : ℕ) : Type 0 where
  leaving : IsLeaving base count owner next mid
  ring : ring_of Owner mid owner.0 ≡ nodes
  rings : (node : ℕ) → ring_at node mid ≡ ring_at node pool
  owned_same : all_owned owner count mid ≡ all_owned owner count pool
  cost : steps + 2 * all_shared owner at base ≤ 2 * all_shared owner next base

later_item : (base : ℕ → List LockEntry) (count : ℕ) (owner : TxnId) (at : ℕ) (pool : Pool) (node : ℕ) (rest : List ℕ) → IsLeaving base count owner at pool
    → ((item : ℕ) → item < count → IsOrderly (base item)) → ring_of Owner pool owner.0 ≡ node ∷ rest → ring_at node pool ≢ at
    → IsAt base count owner at (ring_at node pool) pool (settled at pool) (node ∷ rest) (settle_steps at pool)
later_item base count owner at pool node rest leaving order ring_is ne =
    let chained = leaving.chained in
    let low = ring_at node pool in
    let rising : AreRising pool at (node ∷ rest) = subst (λ (nodes : List ℕ). AreRising pool at nodes) ring_is leaving.rising in
    let le : at ≤ low = rising.0 in
    let before : at < low = omega (arith, ne) in
    let from_low : AreRising pool low (node ∷ rest) = (let same : low ≤ low = omega arith in same, rising.1) in
    let from_low' : AreRising pool low (ring_of Owner pool owner.0) = subst (λ (nodes : List ℕ). AreRising pool low nodes) (sym ring_is) from_low in
    let finish = finishes base count owner at low pool leaving before from_low' in
    let new = settled at pool in
    let done = finish.done in
    let ring_new : ring_of Owner new owner.0 ≡ node ∷ rest = finish.ring ∙ ring_is in
    let owns : in_owner new owner.0 node ≡ true = sym (done.chained.owners.own owner.0 done.owner_lt node) ∙ ap (is_in node) ring_new ∙ head_is_in node rest in
    let parts = in_owner_parts new owner.0 node owns in
    let rising_new : AreRising new low (ring_of Owner new owner.0) =
    subst (λ (nodes : List ℕ). AreRising new low nodes) (sym ring_new) (rising_same pool new low (node ∷ rest) (λ n is. finish.rings n) from_low) in
    let low_le : ring_at node new ≤ new.free = done.chained.placed node (lt-ltb node (length new.nodes) parts.0) in
    let low_is : ring_at node new ≡ low = finish.rings node in
    let free_is : new.free ≡ count = done.free in
    let inside : low < count = omega (arith, parts.1) in
    let more = low - suc at in
    let whole : suc at + more ≡ low = omega arith in
    let absent : (item : ℕ) → suc at ≤ item → item < suc at + more → list_any (rule.is_of owner) (base item) ≡ false = λ item from lt.
    let lt' : item < count = omega arith in
    ap (list_any (rule.is_of owner)) (sym (done.above item from lt'))
    ∙ none_there new owner item low done.chained done.owner_lt rising_new (omega arith) (subst (λ (n : ℕ). item < n) (sym done.free) lt') in
    let P : ℕ → Type 0 = λ n. IsDone base count owner n new in
    let further : IsDone base count owner low new = subst P whole (done_further base count owner (suc at) more new done (omega arith) order absent) in
    let low_items : low < length new.items = subst (λ (n : ℕ). low < n) (sym done.chained.ends) (omega arith) in
    let here : is_in node (ring_of Item new low) ≡ true = done.chained.items.own low low_items node ∙ in_item_from new low node parts.0 low_is in
    let own : list_any (rule.is_of owner) (list_of new low) ≡ true = any_there new owner (ring_of Item new low) node here (eq-eqb (entry_at new node).owner.0 owner.0 parts.2) in
    let grows = sum_grows (suc at) low (λ item. shared owner (base item)) (omega arith) in
    let steps = finish.steps in
    record {
      leaving = done_leaving base count owner low new further inside rising_new own;
      ring = ring_new;
      rings = finish.rings;
      owned_same = finish.owned_same;
      cost = omega arith;
    }

pub first_end : (pool : Pool) (owner : TxnId) → IsChained pool → owner.0 < length pool.owners → ring_of Owner pool owner.0 ≡ [] → (links Owner pool (End owner.0)).after ≡ End owner.0
first_end pool owner chained lt none =
    let linked : AreLinked (links Owner pool) (End owner.0) [] (End owner.0) =
    subst (λ (nodes : List ℕ). AreLinked (links Owner pool) (End owner.0) nodes (End owner.0)) none (chained.owners.linked owner.0 lt) in
    linked.0

pub first_on : (pool : Pool) (owner : TxnId) (node : ℕ) (rest : List ℕ) → IsChained pool → owner.0 < length pool.owners → ring_of Owner pool owner.0 ≡ node ∷ rest
    → (links Owner pool (End owner.0)).after ≡ On node
first_on pool owner node rest chained lt ring_is =
    let linked : AreLinked (links Owner pool) (End owner.0) (node ∷ rest) (End owner.0) =
    subst (λ (nodes : List ℕ). AreLinked (links Owner pool) (End owner.0) nodes (End owner.0)) ring_is (chained.owners.linked owner.0 lt) in
    linked.0

-- the pool at the next node, and the steps up to there
abbrev mid_of : ℕ → ℕ → Pool → Pool
mid_of node ring pool = cond (not (ring_at node pool == ring)) (settled ring pool) pool

abbrev mid_steps : ℕ → ℕ → Pool → ℕ
mid_steps node ring pool = cond (not (ring_at node pool == ring)) (settle_steps ring pool) 0

mid_is : (base : ℕ → List LockEntry) (count : ℕ) (owner : TxnId) (at : ℕ) (pool : Pool) (node : ℕ) (rest : List ℕ) → IsLeaving base count owner at pool
    → ((item : ℕ) → item < count → IsOrderly (base item)) → ring_of Owner pool owner.0 ≡ node ∷ rest
    → IsAt base count owner at (ring_at node pool) pool (mid_of node at pool) (node ∷ rest) (mid_steps node at pool)
mid_is base count owner at pool node rest leaving order ring_is =
    let P : Bool → Type 0 = λ b. IsAt base count owner at (ring_at node pool) pool (cond (not b) (settled at pool) pool) (node ∷ rest) (cond (not b) (settle_steps at pool) 0) in
    elim (cases_eq (ring_at node pool) at) [
      | inl same ↦ subst P (sym (eq-eqb (ring_at node pool) at same)) (record {
        leaving = subst (λ (n : ℕ). IsLeaving base count owner n pool) (sym same) leaving;
        ring = ring_is;
        rings = λ n. refl;
        owned_same = refl;
        cost = subst (λ (n : ℕ). 0 + 2 * all_shared owner at base ≤ 2 * all_shared owner n base) (sym same) (omega arith);
      })
      | inr ne ↦ subst P (sym (ne_eqb (ring_at node pool) at ne)) (later_item base count owner at pool node rest leaving order ring_is ne)
    ]

left_one_is : (node ring : ℕ) (pool : Pool) → left_one node ring pool ≡ freed node (mid_of node ring pool)
unfolding left_one
left_one_is node ring pool = refl

pub leaves : (base : ℕ → List LockEntry) (count : ℕ) (owner : TxnId) (nodes : List ℕ) (fuel at : ℕ) (pool : Pool) → ((item : ℕ) → item < count → IsOrderly (base item))
    → length nodes ≤ fuel → IsLeaving base count owner at pool → ring_of Owner pool owner.0 ≡ nodes
    → IsDone base count owner count (left_from fuel owner.0 at pool)
    × (rest_from fuel owner.0 at pool + 2 * all_shared owner at base ≤ 3 * all_owned owner count pool + 2 * all_shared owner count base)
leaves base count owner [] zero at pool order enough leaving none =
    let last = last_list base count owner at pool leaving order none in
    let steps = last.cost in
    (last.done, omega arith)
leaves base count owner [] (suc fuel) at pool order enough leaving none =
    let last = last_list base count owner at pool leaving order none in
    let end = first_end pool owner leaving.chained leaving.owner_lt none in
    let pool_is : left_from (suc fuel) owner.0 at pool ≡ settled at pool =
    ap (λ (spot : Spot). elim spot [ End e ↦ settled at pool | On node ↦ left_from fuel owner.0 (ring_at node pool) (left_one node at pool) ]) end in
    let steps_are : rest_from (suc fuel) owner.0 at pool ≡ settle_steps at pool =
    ap (λ (spot : Spot). elim spot [ End e ↦ settle_steps at pool | On node ↦ one_steps node at pool + rest_from fuel owner.0 (ring_at node pool) (left_one node at pool) ]) end in
    let steps = last.cost in
    (subst (λ (p : Pool). IsDone base count owner count p) (sym pool_is) last.done, omega arith)
leaves base count owner (node ∷ rest) zero at pool order enough leaving ring_is = absurd (omega arith)
leaves base count owner (node ∷ rest) (suc fuel) at pool order enough leaving ring_is =
    let next = ring_at node pool in
    let mid = mid_of node at pool in
    let met = mid_is base count owner at pool node rest leaving order ring_is in
    let take_it = taken base count owner next mid node rest met.leaving met.ring (met.rings node) in
    let new = left_one node at pool in
    let new_is : new ≡ freed node mid = left_one_is node at pool in
    let leaving' : IsLeaving base count owner next new = subst (λ (p : Pool). IsLeaving base count owner next p) (sym new_is) take_it.leaving in
    let ring' : ring_of Owner new owner.0 ≡ rest = ap (λ (p : Pool). ring_of Owner p owner.0) new_is ∙ take_it.ring in
    let less : all_owned owner count pool ≡ suc (all_owned owner count new) = sym met.owned_same ∙ take_it.less ∙ ap (λ (p : Pool). suc (all_owned owner count p)) (sym new_is) in
    let rec = leaves base count owner rest fuel next new order (omega arith) leaving' ring' in
    let on = first_on pool owner node rest leaving.chained leaving.owner_lt ring_is in
    let pool_is : left_from (suc fuel) owner.0 at pool ≡ left_from fuel owner.0 next new =
    ap (λ (spot : Spot). elim spot [ End e ↦ settled at pool | On n ↦ left_from fuel owner.0 (ring_at n pool) (left_one n at pool) ]) on in
    let steps_are : rest_from (suc fuel) owner.0 at pool ≡ 3 + mid_steps node at pool + rest_from fuel owner.0 next new =
    ap (λ (spot : Spot). elim spot [ End e ↦ settle_steps at pool | On n ↦ one_steps n at pool + rest_from fuel owner.0 (ring_at n pool) (left_one n at pool) ]) on in
    let cost = met.cost in
    let steps = rec.1 in
    (subst (λ (p : Pool). IsDone base count owner count p) (sym pool_is) rec.0, omega arith)
