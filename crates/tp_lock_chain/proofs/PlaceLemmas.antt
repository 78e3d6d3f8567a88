-- A node with an entry, the last of its item's ring and in no owner's: a free one that is moved, or a new one.
use Rattle.std.proofs.Common.{◌≡◌, ◌≢◌, ◌==◌, ◌<◌, ◌≤◌, ◌+◌, ◌&&◌, not, ℕ, zero, suc, Bool, false, true, List, [], ◌∷◌, ◌++◌, length, get_or, refl, sym, ap, ap₂, subst, ◌∙◌, inl, inr, arith}
use Rattle.std.specs.Prelude.{nat_lt}
use Rattle.std.proofs.lemmas.Bool.{and_left, and_right, cases_lt, le-ltb, lt-ltb, ne_eqb}
use Rattle.std.proofs.lemmas.List.{append-nil, get_or-set_other, get_or-set_same, get_or_at, length-append, length-set}
use Rattle.tp_lock.specs.declared.entry.LockEntry.{LockEntry}
use Rattle.tp_lock_chain.specs.declared.links.Kind.{Kind}
use Rattle.tp_lock_chain.specs.declared.links.Kind.TheVariants.{Item, Owner}
use Rattle.tp_lock_chain.specs.declared.links.Node.{Node}
use Rattle.tp_lock_chain.specs.declared.links.Pair.{Pair}
use Rattle.tp_lock_chain.specs.declared.links.Pool.{Pool}
use Rattle.tp_lock_chain.specs.declared.links.Spot.{Spot}
use Rattle.tp_lock_chain.specs.declared.links.Spot.TheVariants.{End, On}
use Rattle.tp_lock_chain.specs.mirrors.Ask.{made}
use Rattle.tp_lock_chain.specs.mirrors.Links.{blank, links, moved, node_at, with_entry}
use Rattle.tp_lock_chain.specs.mirrors.Pool.{IsChained, IsKept, in_item, in_owner, is_there, ring_of}
use Rattle.tp_lock_chain.specs.mirrors.Rings.{AreLinked, AreRings, is_in}
use Rattle.tp_lock_chain.specs.mirrors.Room.{with_node}
use Rattle.tp_lock_chain.proofs.ChainLemmas.{in_owner_free}
use Rattle.tp_lock_chain.proofs.FamilyLemmas.{IsMore, rings_with}
use Rattle.tp_lock_chain.proofs.LinkLemmas.{IsThere, entry_links, field_stays, linked_is, linked_other_kind, linked_relinked, near_spot}
use Rattle.tp_lock_chain.proofs.MoveLemmas.{in_item_from, in_item_parts, in_item_same, moved_is, one_item, rings_same}
use Rattle.tp_lock_chain.proofs.RingLemmas.{head_is_in}

-- the node is there so, and nothing else has changed but links of its item's ring
pub record IsPlaced (pool new : Pool) (node ring : ℕ) (entry : LockEntry) : Type 0 where
  pub there : node < length new.nodes
  pub there_else : (other : ℕ) → other ≢ node → is_there new other ≡ is_there pool other
  pub many : length pool.nodes ≤ length new.nodes
  pub items : length new.items ≡ length pool.items
  pub owners : length new.owners ≡ length pool.owners
  pub entry_now : (node_at new node).entry ≡ entry
  pub entries_else : (other : ℕ) → other ≢ node → (node_at new other).entry ≡ (node_at pool other).entry
  pub ring_now : (node_at new node).ring ≡ ring
  pub rings_else : (other : ℕ) → other ≢ node → (node_at new other).ring ≡ (node_at pool other).ring
  pub free : new.free ≡ pool.free
  pub room : length new.nodes ≤ length new.granted
  pub granted : new.granted ≡ pool.granted
  pub given : new.given ≡ pool.given
  pub next : new.next ≡ pool.next
  pub by_owner : (spot : Spot) → links Owner new spot ≡ links Owner pool spot
  -- it was in no list and no owner's
  pub unowned : (owner : ℕ) → in_owner pool owner node ≡ false
  pub unlisted : (item : ℕ) → item < pool.free → in_item pool item node ≡ false
  pub grown : ℕ → List ℕ
  pub gained : grown ring ≡ ring_of Item pool ring ++ node ∷ []
  pub elsewhere : (other : ℕ) → other < pool.free → other ≢ ring → grown other ≡ ring_of Item pool other
  pub are : AreRings (links Item new) (length new.items) (in_item new) grown

not_below : (first second : ℕ) → first < second → second ≢ first
not_below first second lt same = let clash : first < first = subst (λ (n : ℕ). first < n) same lt in omega arith

-- ---- a free node

on_first : (pool : Pool) (nodes : List ℕ) (node : ℕ) → AreLinked (links Item pool) (End pool.free) nodes (End pool.free) → (links Item pool (End pool.free)).after ≡ On node → is_in node nodes ≡ true
on_first pool [] node linked is = absurd (let clash : End pool.free ≡ On node = sym linked.0 ∙ is in cc)
on_first pool (first ∷ nodes) node linked is =
    let same : On first ≡ On node = sym linked.0 ∙ is in
    let number : first ≡ node = cc in
    ap (λ n. is_in n (first ∷ nodes)) (sym number) ∙ head_is_in first nodes

-- the first of the free nodes is free
pub first_is_free : (pool : Pool) (pair : Pair) (node : ℕ) → pair ≡ links Item pool (End pool.free) → pair.after ≡ On node → IsKept pool → in_item pool pool.free node ≡ true
first_is_free pool pair node read is kept =
    let lt : pool.free < length pool.items = subst (λ (n : ℕ). pool.free < n) (sym kept.chained.ends) (omega arith) in
    sym (kept.chained.items.own pool.free lt node) ∙ on_first pool (ring_of Item pool pool.free) node (kept.chained.items.linked pool.free lt) (ap (λ (p : Pair). p.after) (sym read) ∙ is)

entry_here : (pool : Pool) (node : ℕ) (entry : LockEntry) → node < length pool.nodes → (node_at (with_entry node entry pool) node).entry ≡ entry
entry_here pool node entry lt = ap (λ (n : Node). n.entry) (get_or-set_same pool.nodes node (record (node_at pool node) { entry = entry }) blank lt)

entry_else : (pool : Pool) (node other : ℕ) (entry : LockEntry) → other ≢ node → (node_at (with_entry node entry pool) other).entry ≡ (node_at pool other).entry
entry_else pool node other entry ne = ap (λ (n : Node). n.entry) (get_or-set_other pool.nodes node other (record (node_at pool node) { entry = entry }) blank ne)

pub moved_placed : (pool : Pool) (node ring : ℕ) (entry : LockEntry) → IsChained pool → ring < pool.free → in_item pool pool.free node ≡ true
    → IsPlaced pool (moved node ring (with_entry node entry pool)) node ring entry
moved_placed pool node ring entry chained ring_lt here =
    let parts = in_item_parts pool pool.free node here in
    let ends : length pool.items ≡ suc pool.free = chained.ends in
    let one = with_entry node entry pool in
    let nodes1 : length one.nodes ≡ length pool.nodes = length-set pool.nodes node (record (node_at pool node) { entry = entry }) in
    let rings1 : (other : ℕ) → (node_at one other).ring ≡ (node_at pool other).ring = λ other.
    field_stays (λ (n : Node). n.ring) pool.nodes node (record (node_at pool node) { entry = entry }) blank refl other in
    let items1 : AreRings (links Item one) (length one.items) (in_item one) (ring_of Item pool) =
    rings_same (links Item pool) (links Item one) (length pool.items) (length one.items) (in_item pool) (in_item one) (ring_of Item pool)
    (entry_links Item node entry pool) refl (λ r n. in_item_same pool one r n nodes1 (rings1 n)) chained.items in
    let move = moved_is one (ring_of Item pool) node pool.free ring items1 (subst (λ (n : ℕ). node < n) (sym nodes1) parts.0) (rings1 node ∙ parts.1)
    (subst (λ (n : ℕ). pool.free < n) (sym ends) (omega arith)) (subst (λ (n : ℕ). ring < n) (sym ends) (omega arith)) (λ same. not_below ring pool.free ring_lt (sym same)) in
    let new = moved node ring one in
    let nodes2 : length new.nodes ≡ length pool.nodes = move.nodes ∙ nodes1 in
    record {
      there = subst (λ (n : ℕ). node < n) (sym nodes2) parts.0;
      there_else = λ other ne. ap (nat_lt other) nodes2;
      many = omega arith;
      items = move.items;
      owners = move.owners;
      entry_now = move.entries node ∙ entry_here pool node entry parts.0;
      entries_else = λ other ne. move.entries other ∙ entry_else pool node other entry ne;
      ring_now = move.ring_now;
      rings_else = λ other ne. move.rings_else other ne ∙ rings1 other;
      free = move.free;
      room = subst (λ (n : ℕ). n ≤ length new.granted) (sym nodes2) (subst (λ (n : ℕ). length pool.nodes ≤ n) (sym (ap length move.granted)) chained.room);
      granted = move.granted;
      given = move.given;
      next = move.next;
      by_owner = λ spot. move.by_owner spot ∙ entry_links Owner node entry pool spot;
      unowned = λ owner. in_owner_free pool owner node parts.1;
      unlisted = λ item lt.
          and_right (nat_lt node (length pool.nodes)) ((node_at pool node).ring == item) (ne_eqb (node_at pool node).ring item (λ same. not_below item pool.free lt (sym parts.1 ∙ same)));
      grown = move.grown;
      gained = move.gained;
      elsewhere = λ other lt ne. move.elsewhere other (λ same. not_below other pool.free lt (sym same)) ne;
      are = move.are;
    }

-- ---- a new node

-- where a new last member is as what stands for none, each place is as before
more_same : {A X : Type 0} (f : A → X) (xs : List A) (new default : A) → f new ≡ f default → (other : ℕ) → f (get_or (xs ++ new ∷ []) other default) ≡ f (get_or xs other default)
more_same f [] new default same zero = same
more_same f [] new default same (suc other) = refl
more_same f (x ∷ xs) new default same zero = refl
more_same f (x ∷ xs) new default same (suc other) = more_same f xs new default same other

-- each place but its own is as before
more_else : {A : Type 0} (xs : List A) (new default : A) (other : ℕ) → other ≢ length xs → get_or (xs ++ new ∷ []) other default ≡ get_or xs other default
more_else [] new default zero ne = absurd (ne refl)
more_else [] new default (suc other) ne = refl
more_else (x ∷ xs) new default zero ne = refl
more_else (x ∷ xs) new default (suc other) ne = more_else xs new default other (λ same. ne (ap suc same))

-- a node in no ring has the links of a node that is not there
node_links : (kind : Kind) (ring : ℕ) (entry : LockEntry) (pool : Pool) (spot : Spot) → links kind (with_node ring entry pool) spot ≡ links kind pool spot
node_links Item ring entry pool (End other) = refl
node_links Owner ring entry pool (End other) = refl
node_links Item ring entry pool (On other) = more_same (λ (n : Node). n.by_item) pool.nodes (record blank { entry = entry; ring = ring }) blank refl other
node_links Owner ring entry pool (On other) = more_same (λ (n : Node). n.by_owner) pool.nodes (record blank { entry = entry; ring = ring }) blank refl other

-- a place that is not the new node's
record IsOther (pool : Pool) (node : ℕ) (spot : Spot) : Type 0 where
  there : IsThere Item pool spot
  other : On node ≢ spot

there_before : (count other : ℕ) → other ≢ count → nat_lt other (suc count) ≡ nat_lt other count
there_before count other ne = elim (cases_lt other count) [
  | inl lt ↦ lt-ltb other (suc count) (omega arith) ∙ sym (lt-ltb other count lt)
  | inr past ↦ le-ltb other (suc count) (omega (arith, ne)) ∙ sym (le-ltb other count past)
]

pub made_placed : (pool : Pool) (ring : ℕ) (entry : LockEntry) → IsChained pool → ring < pool.free → length pool.nodes < length pool.granted
    → IsPlaced pool (made ring entry pool) (length pool.nodes) ring entry
made_placed pool ring entry chained ring_lt place =
    let count = length pool.nodes in
    let node : Node = record blank { entry = entry; ring = ring } in
    let one = with_node ring entry pool in
    let nodes1 : length one.nodes ≡ suc count = length-append pool.nodes (node ∷ []) ∙ (let more : count + 1 ≡ suc count = omega arith in more) in
    let ring_there : ring < length pool.items = subst (λ (n : ℕ). ring < n) (sym chained.ends) (omega arith) in
    let items1 : AreRings (links Item one) (length pool.items) (in_item pool) (ring_of Item pool) =
    rings_same (links Item pool) (links Item one) (length pool.items) (length pool.items) (in_item pool) (in_item pool) (ring_of Item pool)
    (node_links Item ring entry pool) refl (λ r n. refl) chained.items in
    let there : IsThere Item one (On count) = subst (λ (n : ℕ). count < n) (sym nodes1) (omega arith) in
    let was = ring_of Item pool ring in
    let linked1 : AreLinked (links Item one) (End ring) (was ++ []) (End ring) =
    subst (λ (nodes : List ℕ). AreLinked (links Item one) (End ring) nodes (End ring)) (sym (append-nil was)) (items1.linked ring ring_there) in
    let last : IsOther one count (links Item one (End ring)).before = near_spot (λ spot. IsOther one count spot) (links Item one) (End ring) was [] (End ring) linked1
    (record { there = ring_there; other = λ same. cc })
    (λ n is.
    let below = (in_item_parts pool ring n (sym (chained.items.own ring ring_there n) ∙ is)).0 in
    record {
      there = subst (λ (m : ℕ). n < m) (sym nodes1) (omega arith);
      other = λ same. let number : n ≡ count = cc in not_below n count below (sym number);
    }) in
    let put = linked_is Item count (End ring) one there ring_there last.there last.other (λ same. cc) in
    let new = made ring entry pool in
    let kept = linked_relinked Item count (End ring) one in
    let nodes2 : length new.nodes ≡ suc count = kept.nodes ∙ nodes1 in
    let there2 : count < length new.nodes = subst (λ (n : ℕ). count < n) (sym nodes2) (omega arith) in
    let here : node_at one count ≡ node = get_or_at pool.nodes node [] blank count refl in
    let ring_now : (node_at new count).ring ≡ ring = kept.rings count ∙ ap (λ (n : Node). n.ring) here in
    let rings_else : (n : ℕ) → n ≢ count → (node_at new n).ring ≡ (node_at pool n).ring = λ n ne. kept.rings n ∙ ap (λ (m : Node). m.ring) (more_else pool.nodes node blank n ne) in
    let there_else : (n : ℕ) → n ≢ count → is_there new n ≡ is_there pool n = λ n ne. ap (nat_lt n) nodes2 ∙ there_before count n ne in
    let not_there : is_there pool count ≡ false = le-ltb count count (omega arith) in
    let unlisted : (item : ℕ) → in_item pool item count ≡ false = λ item. and_left (is_there pool count) ((node_at pool count).ring == item) not_there in
    let more : IsMore (in_item pool) (in_item new) ring count = record {
      none = unlisted;
      here = in_item_from new ring count there2 ring_now;
      only = λ other ne. and_right (is_there new count) ((node_at new count).ring == other) (ne_eqb (node_at new count).ring other (λ same. ne (sym same ∙ ring_now)));
      others = λ at other ne. ap₂ (λ (b : Bool) (r : ℕ). b && (r == at)) (there_else other ne) (rings_else other ne);
    } in
    let with_it = rings_with (links Item one) (links Item new) (length pool.items) (in_item pool) (in_item new) (ring_of Item pool) ring count was [] items1
    (one_item pool) more ring_there (sym (append-nil was)) put in
    record {
      there = there2;
      there_else = there_else;
      many = omega arith;
      items = kept.items;
      owners = kept.owners;
      entry_now = kept.entries count ∙ ap (λ (n : Node). n.entry) here;
      entries_else = λ n ne. kept.entries n ∙ ap (λ (m : Node). m.entry) (more_else pool.nodes node blank n ne);
      ring_now = ring_now;
      rings_else = rings_else;
      free = kept.free;
      room = subst (λ (n : ℕ). n ≤ length new.granted) (sym nodes2) (subst (λ (n : ℕ). suc count ≤ n) (sym (ap length kept.granted)) place);
      granted = kept.granted;
      given = kept.given;
      next = kept.next;
      by_owner = λ spot. linked_other_kind Item count (End ring) one spot ∙ node_links Owner ring entry pool spot;
      unowned = λ owner.
          and_left (is_there pool count) (not ((node_at pool count).ring == pool.free) && ((node_at pool count).entry.owner.0 == owner)) not_there;
      unlisted = λ item lt. unlisted item;
      grown = with_it.0;
      gained = with_it.1.after;
      elsewhere = λ other lt ne. with_it.1.elsewhere other ne;
      are = rings_same (links Item new) (links Item new) (length pool.items) (length new.items) (in_item new) (in_item new) with_it.0 (λ spot. refl) kept.items (λ r n. refl) with_it.2;
    }
