-- What a change of links leaves of a pool.
use Rattle.std.proofs.Common.{◌≡◌, ◌≢◌, ◌<◌, ℕ, zero, suc, true, List, [], ◌∷◌, ◌++◌, length, get_or, set, refl, sym, ap, subst, ◌∙◌}
use Rattle.std.proofs.lemmas.List.{get_or-set_other, get_or-set_same, length-set}
use Rattle.tp_lock.specs.declared.entry.LockEntry.{LockEntry}
use Rattle.tp_lock_chain.specs.declared.links.Kind.{Kind}
use Rattle.tp_lock_chain.specs.declared.links.Kind.TheVariants.{Item, Owner}
use Rattle.tp_lock_chain.specs.declared.links.Node.{Node}
use Rattle.tp_lock_chain.specs.declared.links.Pair.{Pair}
use Rattle.tp_lock_chain.specs.declared.links.Pool.{Pool}
use Rattle.tp_lock_chain.specs.declared.links.Spot.{Spot}
use Rattle.tp_lock_chain.specs.declared.links.Spot.TheVariants.{End, On}
use Rattle.tp_lock_chain.specs.mirrors.Links.{blank, linked_before, linked_between, links, node_at, nowhere, pair_of, unlinked, with_after, with_before, with_entry, with_links, with_pair, with_ring}
use Rattle.tp_lock_chain.specs.mirrors.Rings.{AreLinked, is_in}
use Rattle.tp_lock_chain.proofs.RingLemmas.{IsLinkedBefore, IsUnlinked, head_is_in, head_or, tail_is_in}

-- what a new member has as the one before it, each member has as before
pub field_stays : {A X : Type 0} (f : A → X) (xs : List A) (at : ℕ) (new default : A) → f new ≡ f (get_or xs at default) → (other : ℕ)
    → f (get_or (set xs at new) other default) ≡ f (get_or xs other default)
field_stays f [] at new default same other = refl
field_stays f (x ∷ xs) zero new default same zero = same
field_stays f (x ∷ xs) zero new default same (suc other) = refl
field_stays f (x ∷ xs) (suc at) new default same zero = refl
field_stays f (x ∷ xs) (suc at) new default same (suc other) = field_stays f xs at new default same other

-- ---- links that are set

abbrev pub count_of : Kind → Pool → ℕ
count_of Item pool = length pool.items
count_of Owner pool = length pool.owners

-- the place is that of an end or of a node
abbrev pub IsThere : Kind → Pool → Spot → Type 0
IsThere kind pool (End ring) = ring < count_of kind pool
IsThere kind pool (On node) = node < length pool.nodes

set_here : (kind : Kind) (spot : Spot) (pair : Pair) (pool : Pool) → IsThere kind pool spot → links kind (with_links kind spot pair pool) spot ≡ pair
set_here Item (End ring) pair pool there = get_or-set_same pool.items ring pair nowhere there
set_here Owner (End ring) pair pool there = get_or-set_same pool.owners ring pair nowhere there
set_here Item (On node) pair pool there = ap (pair_of Item) (get_or-set_same pool.nodes node (with_pair Item pair (node_at pool node)) blank there)
set_here Owner (On node) pair pool there = ap (pair_of Owner) (get_or-set_same pool.nodes node (with_pair Owner pair (node_at pool node)) blank there)

set_else : (kind : Kind) (spot : Spot) (pair : Pair) (pool : Pool) (other : Spot) → other ≢ spot → links kind (with_links kind spot pair pool) other ≡ links kind pool other
set_else Item (End ring) pair pool (End other) ne = get_or-set_other pool.items ring other pair nowhere (λ same. ne (ap End same))
set_else Owner (End ring) pair pool (End other) ne = get_or-set_other pool.owners ring other pair nowhere (λ same. ne (ap End same))
set_else Item (End ring) pair pool (On other) ne = refl
set_else Owner (End ring) pair pool (On other) ne = refl
set_else Item (On node) pair pool (End other) ne = refl
set_else Owner (On node) pair pool (End other) ne = refl
set_else Item (On node) pair pool (On other) ne =
    ap (pair_of Item) (get_or-set_other pool.nodes node other (with_pair Item pair (node_at pool node)) blank (λ same. ne (ap On same)))
set_else Owner (On node) pair pool (On other) ne =
    ap (pair_of Owner) (get_or-set_other pool.nodes node other (with_pair Owner pair (node_at pool node)) blank (λ same. ne (ap On same)))

-- the one of two links that is as it was
set_half : (half : Pair → Spot) (kind : Kind) (spot : Spot) (pair : Pair) (pool : Pool) → half pair ≡ half (links kind pool spot) → (other : Spot)
    → half (links kind (with_links kind spot pair pool) other) ≡ half (links kind pool other)
set_half half Item (End ring) pair pool same (End other) = field_stays half pool.items ring pair nowhere same other
set_half half Owner (End ring) pair pool same (End other) = field_stays half pool.owners ring pair nowhere same other
set_half half Item (End ring) pair pool same (On other) = refl
set_half half Owner (End ring) pair pool same (On other) = refl
set_half half Item (On node) pair pool same (End other) = refl
set_half half Owner (On node) pair pool same (End other) = refl
set_half half Item (On node) pair pool same (On other) = field_stays (λ (n : Node). half n.by_item) pool.nodes node (with_pair Item pair (node_at pool node)) blank same other
set_half half Owner (On node) pair pool same (On other) = field_stays (λ (n : Node). half n.by_owner) pool.nodes node (with_pair Owner pair (node_at pool node)) blank same other

-- links of the other kind stay
abbrev pub other_kind : Kind → Kind
other_kind Item = Owner
other_kind Owner = Item

set_other_kind : (kind : Kind) (spot : Spot) (pair : Pair) (pool : Pool) (other : Spot) → links (other_kind kind) (with_links kind spot pair pool) other ≡ links (other_kind kind) pool other
set_other_kind Item (End ring) pair pool (End other) = refl
set_other_kind Owner (End ring) pair pool (End other) = refl
set_other_kind Item (End ring) pair pool (On other) = refl
set_other_kind Owner (End ring) pair pool (On other) = refl
set_other_kind Item (On node) pair pool (End other) = refl
set_other_kind Owner (On node) pair pool (End other) = refl
set_other_kind Item (On node) pair pool (On other) = field_stays (λ (n : Node). n.by_owner) pool.nodes node (with_pair Item pair (node_at pool node)) blank refl other
set_other_kind Owner (On node) pair pool (On other) = field_stays (λ (n : Node). n.by_item) pool.nodes node (with_pair Owner pair (node_at pool node)) blank refl other

-- nothing but links is changed
pub record IsRelinked (pool new : Pool) : Type 0 where
  pub nodes : length new.nodes ≡ length pool.nodes
  pub items : length new.items ≡ length pool.items
  pub owners : length new.owners ≡ length pool.owners
  pub entries : (node : ℕ) → (node_at new node).entry ≡ (node_at pool node).entry
  pub rings : (node : ℕ) → (node_at new node).ring ≡ (node_at pool node).ring
  pub free : new.free ≡ pool.free
  pub granted : new.granted ≡ pool.granted
  pub given : new.given ≡ pool.given
  pub next : new.next ≡ pool.next

pub relinked_twice : (pool mid new : Pool) → IsRelinked pool mid → IsRelinked mid new → IsRelinked pool new
relinked_twice pool mid new a b = record {
  nodes = b.nodes ∙ a.nodes;
  items = b.items ∙ a.items;
  owners = b.owners ∙ a.owners;
  entries = λ node. b.entries node ∙ a.entries node;
  rings = λ node. b.rings node ∙ a.rings node;
  free = b.free ∙ a.free;
  granted = b.granted ∙ a.granted;
  given = b.given ∙ a.given;
  next = b.next ∙ a.next;
}

-- a node of the same ring and entry
node_relinked : (pool : Pool) (node : ℕ) (new : Node) → new.entry ≡ (node_at pool node).entry → new.ring ≡ (node_at pool node).ring
    → IsRelinked pool (record pool { nodes = set pool.nodes node new })
node_relinked pool node new same_entry same_ring = record {
  nodes = length-set pool.nodes node new;
  items = refl;
  owners = refl;
  entries = λ other. field_stays (λ (n : Node). n.entry) pool.nodes node new blank same_entry other;
  rings = λ other. field_stays (λ (n : Node). n.ring) pool.nodes node new blank same_ring other;
  free = refl;
  granted = refl;
  given = refl;
  next = refl;
}

set_relinked : (kind : Kind) (spot : Spot) (pair : Pair) (pool : Pool) → IsRelinked pool (with_links kind spot pair pool)
set_relinked Item (End ring) pair pool = record {
  nodes = refl;
  items = length-set pool.items ring pair;
  owners = refl;
  entries = λ node. refl;
  rings = λ node. refl;
  free = refl;
  granted = refl;
  given = refl;
  next = refl;
}
set_relinked Owner (End ring) pair pool = record {
  nodes = refl;
  items = refl;
  owners = length-set pool.owners ring pair;
  entries = λ node. refl;
  rings = λ node. refl;
  free = refl;
  granted = refl;
  given = refl;
  next = refl;
}
set_relinked Item (On node) pair pool = node_relinked pool node (with_pair Item pair (node_at pool node)) refl refl
set_relinked Owner (On node) pair pool = node_relinked pool node (with_pair Owner pair (node_at pool node)) refl refl

count_stays : (kind : Kind) (pool new : Pool) → IsRelinked pool new → count_of kind new ≡ count_of kind pool
count_stays Item pool new same = same.items
count_stays Owner pool new same = same.owners

there_stays : (kind : Kind) (pool new : Pool) (spot : Spot) → IsRelinked pool new → IsThere kind pool spot → IsThere kind new spot
there_stays kind pool new (End ring) same there = subst (λ (n : ℕ). ring < n) (sym (count_stays kind pool new same)) there
there_stays kind pool new (On node) same there = subst (λ (n : ℕ). node < n) (sym same.nodes) there

-- ---- one of two links

after_here : (kind : Kind) (spot after : Spot) (pool : Pool) → IsThere kind pool spot → (links kind (with_after kind spot after pool) spot).after ≡ after
after_here kind spot after pool there = ap (λ (p : Pair). p.after) (set_here kind spot (record (links kind pool spot) { after = after }) pool there)

after_else : (kind : Kind) (spot after : Spot) (pool : Pool) (other : Spot) → other ≢ spot → (links kind (with_after kind spot after pool) other).after ≡ (links kind pool other).after
after_else kind spot after pool other ne = ap (λ (p : Pair). p.after) (set_else kind spot (record (links kind pool spot) { after = after }) pool other ne)

before_stays : (kind : Kind) (spot after : Spot) (pool : Pool) (other : Spot) → (links kind (with_after kind spot after pool) other).before ≡ (links kind pool other).before
before_stays kind spot after pool other = set_half (λ (p : Pair). p.before) kind spot (record (links kind pool spot) { after = after }) pool refl other

before_here : (kind : Kind) (spot before : Spot) (pool : Pool) → IsThere kind pool spot → (links kind (with_before kind spot before pool) spot).before ≡ before
before_here kind spot before pool there = ap (λ (p : Pair). p.before) (set_here kind spot (record (links kind pool spot) { before = before }) pool there)

before_else : (kind : Kind) (spot before : Spot) (pool : Pool) (other : Spot) → other ≢ spot → (links kind (with_before kind spot before pool) other).before ≡ (links kind pool other).before
before_else kind spot before pool other ne = ap (λ (p : Pair). p.before) (set_else kind spot (record (links kind pool spot) { before = before }) pool other ne)

after_stays : (kind : Kind) (spot before : Spot) (pool : Pool) (other : Spot) → (links kind (with_before kind spot before pool) other).after ≡ (links kind pool other).after
after_stays kind spot before pool other = set_half (λ (p : Pair). p.after) kind spot (record (links kind pool spot) { before = before }) pool refl other

-- ---- a node that is unlinked

pub unlinked_relinked : (kind : Kind) (node : ℕ) (pool : Pool) → IsRelinked pool (unlinked kind node pool)
unfolding unlinked
unlinked_relinked kind node pool =
    let first = (links kind pool (On node)).before in
    let second = (links kind pool (On node)).after in
    let mid = with_after kind first second pool in
    relinked_twice pool mid (with_before kind second first mid) (set_relinked kind first (record (links kind pool first) { after = second }) pool)
    (set_relinked kind second (record (links kind mid second) { before = first }) mid)

pub unlinked_other_kind : (kind : Kind) (node : ℕ) (pool : Pool) (other : Spot) → links (other_kind kind) (unlinked kind node pool) other ≡ links (other_kind kind) pool other
unfolding unlinked
unlinked_other_kind kind node pool other =
    let first = (links kind pool (On node)).before in
    let second = (links kind pool (On node)).after in
    let mid = with_after kind first second pool in
    set_other_kind kind second (record (links kind mid second) { before = first }) mid other ∙ set_other_kind kind first (record (links kind pool first) { after = second }) pool other

pub unlinked_is : (kind : Kind) (node : ℕ) (pool : Pool) → IsThere kind pool (links kind pool (On node)).before → IsThere kind pool (links kind pool (On node)).after
    → IsUnlinked (links kind pool) (links kind (unlinked kind node pool)) node
unfolding unlinked
unlinked_is kind node pool there1 there2 =
    let first = (links kind pool (On node)).before in
    let second = (links kind pool (On node)).after in
    let mid = with_after kind first second pool in
    record {
      hop = after_stays kind second first mid first ∙ after_here kind first second pool there1;
      back = before_here kind second first mid (there_stays kind pool mid second (set_relinked kind first (record (links kind pool first) { after = second }) pool) there2);
      afters = λ spot ne. after_stays kind second first mid spot ∙ after_else kind first second pool spot ne;
      befores = λ spot ne. before_else kind second first mid spot ne ∙ before_stays kind first second pool spot;
    }

-- ---- a node that is linked

between_relinked : (kind : Kind) (node : ℕ) (last spot : Spot) (pool : Pool) → IsRelinked pool (linked_between kind node last spot pool)
between_relinked kind node last spot pool =
    let pair : Pair = record { before = last; after = spot } in
    let one = with_links kind (On node) pair pool in
    let two = with_after kind last (On node) one in
    relinked_twice pool two (with_before kind spot (On node) two)
    (relinked_twice pool one two (set_relinked kind (On node) pair pool) (set_relinked kind last (record (links kind one last) { after = On node }) one))
    (set_relinked kind spot (record (links kind two spot) { before = On node }) two)

pub linked_relinked : (kind : Kind) (node : ℕ) (spot : Spot) (pool : Pool) → IsRelinked pool (linked_before kind node spot pool)
unfolding linked_before
linked_relinked kind node spot pool = between_relinked kind node (links kind pool spot).before spot pool

pub linked_other_kind : (kind : Kind) (node : ℕ) (spot : Spot) (pool : Pool) (other : Spot) → links (other_kind kind) (linked_before kind node spot pool) other ≡ links (other_kind kind) pool other
unfolding linked_before
linked_other_kind kind node spot pool other =
    let last = (links kind pool spot).before in
    let pair : Pair = record { before = last; after = spot } in
    let one = with_links kind (On node) pair pool in
    let two = with_after kind last (On node) one in
    set_other_kind kind spot (record (links kind two spot) { before = On node }) two other
    ∙ set_other_kind kind last (record (links kind one last) { after = On node }) one other ∙ set_other_kind kind (On node) pair pool other

between_is : (kind : Kind) (node : ℕ) (last spot : Spot) (pool : Pool) → (links kind pool spot).before ≡ last → IsThere kind pool (On node) → IsThere kind pool spot → IsThere kind pool last
    → On node ≢ last → On node ≢ spot → IsLinkedBefore (links kind pool) (links kind (linked_between kind node last spot pool)) node spot
between_is kind node last spot pool last_is there here there_last ne_last ne_spot =
    let pair : Pair = record { before = last; after = spot } in
    let one = with_links kind (On node) pair pool in
    let two = with_after kind last (On node) one in
    let kept1 = set_relinked kind (On node) pair pool in
    let kept2 = relinked_twice pool one two kept1 (set_relinked kind last (record (links kind one last) { after = On node }) one) in
    let set : links kind one (On node) ≡ pair = set_here kind (On node) pair pool there in
    record {
      to =
          ap (λ s. (links kind (with_before kind spot (On node) two) s).after) last_is ∙ after_stays kind spot (On node) two last
          ∙ after_here kind last (On node) one (there_stays kind pool one last kept1 there_last);
      from = before_here kind spot (On node) two (there_stays kind pool two spot kept2 here);
      next = after_stays kind spot (On node) two (On node) ∙ after_else kind last (On node) one (On node) ne_last ∙ ap (λ (p : Pair). p.after) set;
      last = before_else kind spot (On node) two (On node) ne_spot ∙ before_stays kind last (On node) one (On node) ∙ ap (λ (p : Pair). p.before) set ∙ sym last_is;
      afters = λ other ne ne_node.
          after_stays kind spot (On node) two other ∙ after_else kind last (On node) one other (λ same. ne (same ∙ sym last_is))
          ∙ ap (λ (p : Pair). p.after) (set_else kind (On node) pair pool other ne_node);
      befores = λ other ne ne_node.
          before_else kind spot (On node) two other ne ∙ before_stays kind last (On node) one other
          ∙ ap (λ (p : Pair). p.before) (set_else kind (On node) pair pool other ne_node);
    }

pub linked_is : (kind : Kind) (node : ℕ) (spot : Spot) (pool : Pool) → IsThere kind pool (On node) → IsThere kind pool spot → IsThere kind pool (links kind pool spot).before
    → On node ≢ (links kind pool spot).before → On node ≢ spot → IsLinkedBefore (links kind pool) (links kind (linked_before kind node spot pool)) node spot
unfolding linked_before
linked_is kind node spot pool there here there_last ne_last ne_spot = between_is kind node (links kind pool spot).before spot pool refl there here there_last ne_last ne_spot

-- ---- what stands next to a node of a ring

pub near_node : (P : Spot → Type 0) (links : Spot → Pair) (first : Spot) (xs : List ℕ) (node : ℕ) (ys : List ℕ) (last : Spot) → AreLinked links first (xs ++ node ∷ ys) last
    → P first → P last → ((n : ℕ) → is_in n (xs ++ node ∷ ys) ≡ true → P (On n)) → P (links (On node)).before × P (links (On node)).after
near_node P links first [] node [] last linked at_first at_last each = (subst P (sym linked.1) at_first, subst P (sym linked.2.0) at_last)
near_node P links first [] node (y ∷ ys) last linked at_first at_last each =
    (subst P (sym linked.1) at_first, subst P (sym linked.2.0) (each y (tail_is_in y node (y ∷ ys) (head_is_in y ys))))
near_node P links first (x ∷ xs) node ys last linked at_first at_last each =
    near_node P links (On x) xs node ys last linked.2 (each x (head_is_in x (xs ++ node ∷ ys))) at_last (λ n here. each n (tail_is_in n x (xs ++ node ∷ ys) here))

pub near_spot : (P : Spot → Type 0) (links : Spot → Pair) (first : Spot) (xs ys : List ℕ) (last : Spot) → AreLinked links first (xs ++ ys) last
    → P first → ((n : ℕ) → is_in n xs ≡ true → P (On n)) → P (links (head_or ys last)).before
near_spot P links first [] [] last linked at_first each = subst P (sym linked.1) at_first
near_spot P links first [] (y ∷ ys) last linked at_first each = subst P (sym linked.1) at_first
near_spot P links first (x ∷ xs) ys last linked at_first each =
    near_spot P links (On x) xs ys last linked.2 (each x (head_is_in x xs)) (λ n here. each n (tail_is_in n x xs here))

-- ---- a node's ring or entry

pub ring_links : (kind : Kind) (node ring : ℕ) (pool : Pool) (other : Spot) → links kind (with_ring node ring pool) other ≡ links kind pool other
ring_links Item node ring pool (End other) = refl
ring_links Owner node ring pool (End other) = refl
ring_links Item node ring pool (On other) = field_stays (λ (n : Node). n.by_item) pool.nodes node (record (node_at pool node) { ring = ring }) blank refl other
ring_links Owner node ring pool (On other) = field_stays (λ (n : Node). n.by_owner) pool.nodes node (record (node_at pool node) { ring = ring }) blank refl other

pub entry_links : (kind : Kind) (node : ℕ) (entry : LockEntry) (pool : Pool) (other : Spot) → links kind (with_entry node entry pool) other ≡ links kind pool other
entry_links Item node entry pool (End other) = refl
entry_links Owner node entry pool (End other) = refl
entry_links Item node entry pool (On other) = field_stays (λ (n : Node). n.by_item) pool.nodes node (record (node_at pool node) { entry = entry }) blank refl other
entry_links Owner node entry pool (On other) = field_stays (λ (n : Node). n.by_owner) pool.nodes node (record (node_at pool node) { entry = entry }) blank refl other
