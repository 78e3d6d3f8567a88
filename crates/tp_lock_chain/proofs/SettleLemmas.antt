-- A list that is settled: its entries and grants are those of the rule, and all else stays.
use Rattle.std.proofs.Common.{◌≡◌, ◌<◌, ◌≤◌, ◌+◌, ◌*◌, ◌||◌, not, ℕ, zero, suc, Bool, true, false, cond, List, [], ◌∷◌, ◌++◌, length, get_or, set, take, refl, sym, ap, ap₂, subst, ◌∙◌, inl, inr, arith, append_assoc}
use Rattle.std.proofs.lemmas.Bool.{and_parts, both_ways, cases_Bool, lt-ltb, not-true}
use Rattle.std.proofs.lemmas.List.{append-nil, get_or-set_other, get_or-set_same, length-set, take_more_set}
use Rattle.tp_lock.specs.Rule as rule
use Rattle.tp_lock.specs.declared.entry.Grant.{Grant}
use Rattle.tp_lock.specs.declared.entry.LockEntry.{LockEntry}
use Rattle.tp_lock_chain.specs.declared.leave.Passed.{Passed}
use Rattle.tp_lock_chain.specs.declared.links.Kind.{Kind}
use Rattle.tp_lock_chain.specs.declared.links.Kind.TheVariants.{Item, Owner}
use Rattle.tp_lock_chain.specs.declared.links.Node.{Node}
use Rattle.tp_lock_chain.specs.declared.links.Pool.{Pool}
use Rattle.tp_lock_chain.specs.declared.links.Spot.{Spot}
use Rattle.tp_lock_chain.specs.declared.links.Spot.TheVariants.{End, On}
use Rattle.tp_lock_chain.specs.mirrors.Leave.{granted_at, nobody, passed_with, settle_steps, settled, settled_from, settled_one, steps_from}
use Rattle.tp_lock_chain.specs.mirrors.Links.{blank, links, node_at, with_entry}
use Rattle.tp_lock_chain.specs.mirrors.Pool.{IsChained, entries_of, entry_at, ring_of}
use Rattle.tp_lock_chain.specs.mirrors.Rings.{AreApart, AreLinked, is_in}
use Rattle.tp_lock_chain.proofs.FamilyLemmas.{few}
use Rattle.tp_lock_chain.proofs.LikeLemmas.{IsLike, like_itself, like_twice}
use Rattle.tp_lock_chain.proofs.LinkLemmas.{entry_links, field_stays}
use Rattle.tp_lock_chain.proofs.MoveLemmas.{in_item_parts, linked_same}
use Rattle.tp_lock_chain.proofs.RingLemmas.{head_is_in, off_from, off_here, off_later, tail_is_in}
use Rattle.tp_lock_chain.proofs.SeenLemmas.{Tells, granted_tells, nobody_tells, with_tells}

-- ---- how many nodes are held

abbrev pub held_in : List Node → ℕ
held_in [] = 0
held_in (node ∷ nodes) = cond node.entry.held (suc (held_in nodes)) (held_in nodes)

abbrev with_held : Node → Node
with_held node = record node { entry = record node.entry { held = true } }

cond_suc : (b : Bool) (n : ℕ) → cond b (suc (suc n)) (suc n) ≡ suc (cond b (suc n) n)
cond_suc true n = refl
cond_suc false n = refl

held_more : (nodes : List Node) (at : ℕ) → at < length nodes → (get_or nodes at blank).entry.held ≡ false
    → held_in (set nodes at (with_held (get_or nodes at blank))) ≡ suc (held_in nodes)
held_more [] at lt waits = absurd (omega arith)
held_more (node ∷ nodes) zero lt waits = sym (ap (λ b. suc (cond b (suc (held_in nodes)) (held_in nodes))) waits)
held_more (node ∷ nodes) (suc at) lt waits =
    ap (λ n. cond node.entry.held (suc n) n) (held_more nodes at (omega arith) waits) ∙ cond_suc node.entry.held (held_in nodes)

cond_le : (b : Bool) (n m : ℕ) → n ≤ m → cond b (suc n) n ≤ suc m
cond_le true n m le = omega arith
cond_le false n m le = omega arith

pub held_few : (nodes : List Node) → held_in nodes ≤ length nodes
held_few [] = omega arith
held_few (node ∷ nodes) = cond_le node.entry.held (held_in nodes) (length nodes) (held_few nodes)

held_fewer : (nodes : List Node) (at : ℕ) → at < length nodes → (get_or nodes at blank).entry.held ≡ false → held_in nodes < length nodes
held_fewer [] at lt waits = absurd (omega arith)
held_fewer (node ∷ nodes) zero lt waits = let rest = held_few nodes in subst (λ (b : Bool). cond b (suc (held_in nodes)) (held_in nodes) < suc (length nodes)) (sym waits) (omega arith)
held_fewer (node ∷ nodes) (suc at) lt waits =
    let rest = held_fewer nodes at (omega arith) waits in
    let le = cond_le node.entry.held (held_in nodes) (held_in nodes) (omega arith) in
    omega arith

-- entries that are the same are as many held
pub held_same : (xs ys : List Node) → length xs ≡ length ys → ((at : ℕ) → (get_or xs at blank).entry ≡ (get_or ys at blank).entry) → held_in xs ≡ held_in ys
held_same [] [] same each = refl
held_same [] (y ∷ ys) same each = absurd (omega arith)
held_same (x ∷ xs) [] same each = absurd (omega arith)
held_same (x ∷ xs) (y ∷ ys) same each =
    ap₂ (λ (e : LockEntry) (n : ℕ). cond e.held (suc n) n) (each 0) (held_same xs ys (omega arith) (λ at. each (suc at)))

-- ---- what settling changes

pub record IsSettled (pool new : Pool) (nodes : List ℕ) (earlier : List LockEntry) (ring : ℕ) : Type 0 where
  pub like : IsLike pool new
  pub elsewhere : (node : ℕ) → is_in node nodes ≡ false → entry_at new node ≡ entry_at pool node
  pub entries : entries_of new nodes ≡ rule.with_grants_from earlier (entries_of pool nodes)
  pub grants : take new.given new.granted ≡ take pool.given pool.granted ++ rule.grants_from ring earlier (entries_of pool nodes)
  pub places : length new.granted ≡ length pool.granted
  pub fits : new.given ≤ held_in new.nodes
  pub next : new.next ≡ pool.next

settled_none : (pool : Pool) (earlier : List LockEntry) (ring : ℕ) → pool.given ≤ held_in pool.nodes → IsSettled pool pool [] earlier ring
settled_none pool earlier ring fits = record {
  like = like_itself pool;
  elsewhere = λ node off. refl;
  entries = refl;
  grants = sym (append-nil (take pool.given pool.granted));
  places = refl;
  fits = fits;
  next = refl;
}

held_or : (held granted : Bool) → granted ≡ true → true ≡ (held || granted)
held_or true granted is = refl
held_or false granted is = sym is

held_not : (held granted : Bool) → granted ≡ false → held ≡ (held || granted)
held_not true granted none = refl
held_not false granted none = sym none

like_links : (kind : Kind) (node : ℕ) (entry : LockEntry) (pool : Pool) (grant : Grant) (spot : Spot)
    → links kind (record (with_entry node entry pool) { granted = set pool.granted pool.given grant; given = pool.given + 1 }) spot ≡ links kind pool spot
like_links Item node entry pool grant (End ring) = refl
like_links Owner node entry pool grant (End ring) = refl
like_links Item node entry pool grant (On other) = entry_links Item node entry pool (On other)
like_links Owner node entry pool grant (On other) = entry_links Owner node entry pool (On other)

first_of : (one other : LockEntry) → one ∷ [] ≡ other ∷ [] → one ≡ other
first_of one other same = cc

pub entries_stay : (pool new : Pool) (nodes : List ℕ) → ((node : ℕ) → is_in node nodes ≡ true → entry_at new node ≡ entry_at pool node) → entries_of new nodes ≡ entries_of pool nodes
entries_stay pool new [] each = refl
entries_stay pool new (node ∷ nodes) each =
    ap₂ (λ (e : LockEntry) (es : List LockEntry). e ∷ es) (each node (head_is_in node nodes)) (entries_stay pool new nodes (λ other is. each other (tail_is_in other node nodes is)))

-- a node of a list is not one that is not in it
alone : (other node : ℕ) (nodes : List ℕ) → is_in node nodes ≡ false → is_in other nodes ≡ true → is_in other (node ∷ []) ≡ false
alone other node nodes off is = off_from other node [] (λ same. both_ways (is_in node nodes) off (ap (λ n. is_in n nodes) (sym same) ∙ is)) refl

off_alone : (other node : ℕ) (nodes : List ℕ) → is_in other (node ∷ nodes) ≡ false → is_in other (node ∷ []) ≡ false
off_alone other node nodes off = off_from other node [] (λ same. off_here other node nodes off (ap On same)) refl

-- the grant of a node that waits, for which there is room
granted_is : (pool : Pool) (node : ℕ) (earlier : List LockEntry) → node < length pool.nodes → length pool.nodes ≤ length pool.granted → pool.given ≤ held_in pool.nodes
    → rule.is_granted earlier (entry_at pool node) ≡ true → IsSettled pool (granted_at node pool) (node ∷ []) earlier (node_at pool node).ring
granted_is pool node earlier lt room fits granted =
    let entry = entry_at pool node in
    let waits : entry.held ≡ false = not-true entry.held (and_parts (not entry.held) (rule.is_clear earlier entry) granted).0 in
    let held : LockEntry = record entry { held = true } in
    let one = with_entry node held pool in
    let grant = rule.grant_of entry.owner (node_at pool node).ring in
    let fewer = held_fewer pool.nodes node lt waits in
    let place : pool.given < length pool.granted = omega arith in
    let now : Pool = record one { granted = set pool.granted pool.given grant; given = pool.given + 1 } in
    let new_is : granted_at node pool ≡ now = ap (λ b. cond b now one) (lt-ltb pool.given (length pool.granted) place) in
    let here : node_at one node ≡ with_held (node_at pool node) = get_or-set_same pool.nodes node (with_held (node_at pool node)) blank lt in
    let more : held_in one.nodes ≡ suc (held_in pool.nodes) = held_more pool.nodes node lt waits in
    let P : Pool → Type 0 = λ new. IsSettled pool new (node ∷ []) earlier (node_at pool node).ring in
    subst P (sym new_is) (record {
      like = record {
        links_are = λ kind spot. like_links kind node held pool grant spot;
        nodes = length-set pool.nodes node (with_held (node_at pool node));
        items = refl;
        owners = refl;
        rings = λ other. field_stays (λ (n : Node). n.ring) pool.nodes node (with_held (node_at pool node)) blank refl other;
        owned = λ other. field_stays (λ (n : Node). n.entry.owner) pool.nodes node (with_held (node_at pool node)) blank refl other;
        free = refl;
      };
      elsewhere = λ other off. ap (λ (n : Node). n.entry) (get_or-set_other pool.nodes node other (with_held (node_at pool node)) blank (λ same. off_here other node [] off (ap On same)));
      entries = ap (λ (n : Node). n.entry ∷ []) here ∙ ap (λ b. let e : LockEntry = record entry { held = b } in e ∷ []) (held_or entry.held (rule.is_granted earlier entry) granted);
      grants = take_more_set pool.granted pool.given grant place ∙ sym (ap (λ b. take pool.given pool.granted ++ (cond b (grant ∷ []) [] ++ [])) granted);
      places = length-set pool.granted pool.given grant;
      fits = subst (λ (n : ℕ). pool.given + 1 ≤ n) (sym more) (omega arith);
      next = refl;
    })

waits_is : (pool : Pool) (node : ℕ) (earlier : List LockEntry) (ring : ℕ) → pool.given ≤ held_in pool.nodes → rule.is_granted earlier (entry_at pool node) ≡ false → IsSettled pool pool (node ∷ []) earlier ring
waits_is pool node earlier ring fits granted =
    let entry = entry_at pool node in
    record {
      like = like_itself pool;
      elsewhere = λ other off. refl;
      entries = ap (λ b. let e : LockEntry = record entry { held = b } in e ∷ []) (held_not entry.held (rule.is_granted earlier entry) granted);
      grants = sym (ap (λ b. take pool.given pool.granted ++ (cond b (rule.grant_of entry.owner ring ∷ []) [] ++ [])) granted ∙ append-nil (take pool.given pool.granted));
      places = refl;
      fits = fits;
      next = refl;
    }

one_is : (pool : Pool) (node : ℕ) (passed : Passed) (earlier : List LockEntry) → node < length pool.nodes → length pool.nodes ≤ length pool.granted → pool.given ≤ held_in pool.nodes
    → Tells passed earlier → IsSettled pool (settled_one node passed pool) (node ∷ []) earlier (node_at pool node).ring
one_is pool node passed earlier lt room fits tells =
    let entry = entry_at pool node in
    let P : Pool → Type 0 = λ new. IsSettled pool new (node ∷ []) earlier (node_at pool node).ring in
    elim (cases_Bool (rule.is_granted earlier entry)) [
      | inl it ↦ subst P (sym (ap (λ b. cond b (granted_at node pool) pool) (granted_tells passed earlier entry tells ∙ it))) (granted_is pool node earlier lt room fits it)
      | inr no_one ↦ subst P (sym (ap (λ b. cond b (granted_at node pool) pool) (granted_tells passed earlier entry tells ∙ no_one))) (waits_is pool node earlier (node_at pool node).ring fits no_one)
    ]

-- one node after another
settled_more : (pool mid new : Pool) (node : ℕ) (nodes : List ℕ) (earlier : List LockEntry) (ring : ℕ) → is_in node nodes ≡ false → IsSettled pool mid (node ∷ []) earlier ring
    → IsSettled mid new nodes (earlier ++ entry_at mid node ∷ []) ring → IsSettled pool new (node ∷ nodes) earlier ring
settled_more pool mid new node nodes earlier ring off a b =
    let entry = entry_at pool node in
    let here : entry_at mid node ≡ rule.with_grant earlier entry = first_of (entry_at mid node) (rule.with_grant earlier entry) a.entries in
    let rest : entries_of mid nodes ≡ entries_of pool nodes = entries_stay pool mid nodes (λ other is. a.elsewhere other (alone other node nodes off is)) in
    record {
      like = like_twice pool mid new a.like b.like;
      elsewhere = λ other away. b.elsewhere other (off_later other node nodes away) ∙ a.elsewhere other (off_alone other node nodes away);
      entries =
          ap₂ (λ (e : LockEntry) (es : List LockEntry). e ∷ es) (b.elsewhere node off ∙ here)
          (b.entries ∙ ap₂ (λ (e : LockEntry) (es : List LockEntry). rule.with_grants_from (earlier ++ e ∷ []) es) here rest);
      grants =
          b.grants ∙ ap (λ (gs : List Grant). gs ++ rule.grants_from ring (earlier ++ entry_at mid node ∷ []) (entries_of mid nodes)) a.grants
          ∙ append_assoc (take pool.given pool.granted) (cond (rule.is_granted earlier entry) (rule.grant_of entry.owner ring ∷ []) [] ++ []) (rule.grants_from ring (earlier ++ entry_at mid node ∷ []) (entries_of mid nodes))
          ∙ ap₂ (λ (gs more : List Grant). take pool.given pool.granted ++ (gs ++ more)) (append-nil (cond (rule.is_granted earlier entry) (rule.grant_of entry.owner ring ∷ []) []))
          (ap₂ (λ (e : LockEntry) (es : List LockEntry). rule.grants_from ring (earlier ++ e ∷ []) es) here rest);
      places = b.places ∙ a.places;
      fits = b.fits;
      next = b.next ∙ a.next;
    }

-- ---- a ring that is settled

pub settles : (pool : Pool) (first : Spot) (nodes : List ℕ) (ring end fuel : ℕ) (passed : Passed) (earlier : List LockEntry) → AreLinked (links Item pool) first nodes (End end)
    → AreApart nodes → length nodes ≤ fuel → ((node : ℕ) → is_in node nodes ≡ true → (node < length pool.nodes) × ((node_at pool node).ring ≡ ring))
    → length pool.nodes ≤ length pool.granted → pool.given ≤ held_in pool.nodes → Tells passed earlier
    → IsSettled pool (settled_from fuel (links Item pool first).after passed pool) nodes earlier ring
settles pool first [] ring end zero passed earlier linked apart enough own room fits tells = settled_none pool earlier ring fits
settles pool first [] ring end (suc fuel) passed earlier linked apart enough own room fits tells =
    subst (λ (spot : Spot). IsSettled pool (settled_from (suc fuel) spot passed pool) [] earlier ring) (sym linked.0) (settled_none pool earlier ring fits)
settles pool first (node ∷ nodes) ring end zero passed earlier linked apart enough own room fits tells = absurd (omega arith)
settles pool first (node ∷ nodes) ring end (suc fuel) passed earlier linked apart enough own room fits tells =
    let mine = own node (head_is_in node nodes) in
    let mid = settled_one node passed pool in
    let entry = entry_at pool node in
    let one : IsSettled pool mid (node ∷ []) earlier ring =
    subst (λ (r : ℕ). IsSettled pool mid (node ∷ []) earlier r) mine.1 (one_is pool node passed earlier mine.0 room fits tells) in
    let here : entry_at mid node ≡ rule.with_grant earlier entry = first_of (entry_at mid node) (rule.with_grant earlier entry) one.entries in
    let tells' : Tells (passed_with entry passed) (earlier ++ entry_at mid node ∷ []) =
    with_tells passed earlier entry (entry_at mid node) (ap (λ (e : LockEntry). e.owner) here) (ap (λ (e : LockEntry). e.mode) here) tells in
    let rest = settles mid (On node) nodes ring end fuel (passed_with entry passed) (earlier ++ entry_at mid node ∷ [])
    (linked_same (links Item pool) (links Item mid) (one.like.links_are Item) (On node) nodes (End end) linked.2) apart.1 (omega arith)
    (λ other is.
    let its = own other (tail_is_in other node nodes is) in
    (subst (λ (n : ℕ). other < n) (sym one.like.nodes) its.0, one.like.rings other ∙ its.1))
    (subst (λ (n : ℕ). n ≤ length mid.granted) (sym one.like.nodes) (subst (λ (n : ℕ). length pool.nodes ≤ n) (sym one.places) room)) one.fits tells' in
    subst (λ (spot : Spot). IsSettled pool (settled_from (suc fuel) spot passed pool) (node ∷ nodes) earlier ring) (sym linked.0)
    (settled_more pool mid (settled_from fuel (links Item mid (On node)).after (passed_with entry passed) mid) node nodes earlier ring apart.0 one rest)

-- it takes two steps for each node
pub settles_in : (pool : Pool) (first : Spot) (nodes : List ℕ) (ring end fuel : ℕ) (passed : Passed) (earlier : List LockEntry) → AreLinked (links Item pool) first nodes (End end)
    → length nodes ≤ fuel → ((node : ℕ) → is_in node nodes ≡ true → (node < length pool.nodes) × ((node_at pool node).ring ≡ ring))
    → length pool.nodes ≤ length pool.granted → pool.given ≤ held_in pool.nodes → Tells passed earlier
    → steps_from fuel (links Item pool first).after passed pool ≡ 2 * length nodes
settles_in pool first [] ring end zero passed earlier linked enough own room fits tells = refl
settles_in pool first [] ring end (suc fuel) passed earlier linked enough own room fits tells = ap (λ (spot : Spot). steps_from (suc fuel) spot passed pool) linked.0
settles_in pool first (node ∷ nodes) ring end zero passed earlier linked enough own room fits tells = absurd (omega arith)
settles_in pool first (node ∷ nodes) ring end (suc fuel) passed earlier linked enough own room fits tells =
    let mine = own node (head_is_in node nodes) in
    let mid = settled_one node passed pool in
    let entry = entry_at pool node in
    let one = one_is pool node passed earlier mine.0 room fits tells in
    let here : entry_at mid node ≡ rule.with_grant earlier entry = first_of (entry_at mid node) (rule.with_grant earlier entry) one.entries in
    let tells' : Tells (passed_with entry passed) (earlier ++ entry_at mid node ∷ []) =
    with_tells passed earlier entry (entry_at mid node) (ap (λ (e : LockEntry). e.owner) here) (ap (λ (e : LockEntry). e.mode) here) tells in
    let rest = settles_in mid (On node) nodes ring end fuel (passed_with entry passed) (earlier ++ entry_at mid node ∷ [])
    (linked_same (links Item pool) (links Item mid) (one.like.links_are Item) (On node) nodes (End end) linked.2) (omega arith)
    (λ other is.
    let its = own other (tail_is_in other node nodes is) in
    (subst (λ (n : ℕ). other < n) (sym one.like.nodes) its.0, one.like.rings other ∙ its.1))
    (subst (λ (n : ℕ). n ≤ length mid.granted) (sym one.like.nodes) (subst (λ (n : ℕ). length pool.nodes ≤ n) (sym one.places) room)) one.fits tells' in
    ap (λ (spot : Spot). steps_from (suc fuel) spot passed pool) linked.0 ∙ (let two : 2 + steps_from fuel (links Item mid (On node)).after (passed_with entry passed) mid ≡ 2 * suc (length nodes) = omega arith in two)

-- the ring of an item has its nodes
pub its_nodes : (pool : Pool) (ring : ℕ) → IsChained pool → ring < length pool.items → (node : ℕ) → is_in node (ring_of Item pool ring) ≡ true
    → (node < length pool.nodes) × ((node_at pool node).ring ≡ ring)
its_nodes pool ring chained lt node is = in_item_parts pool ring node (sym (chained.items.own ring lt node) ∙ is)

pub ring_fits : (pool : Pool) (ring : ℕ) → IsChained pool → ring < length pool.items → length (ring_of Item pool ring) ≤ length pool.nodes
ring_fits pool ring chained lt = few (ring_of Item pool ring) (length pool.nodes) (chained.items.apart ring lt) (λ node is. (its_nodes pool ring chained lt node is).0)

pub settled_is : (pool : Pool) (ring : ℕ) → IsChained pool → ring < length pool.items → pool.given ≤ held_in pool.nodes → IsSettled pool (settled ring pool) (ring_of Item pool ring) [] ring
settled_is pool ring chained lt fits =
    settles pool (End ring) (ring_of Item pool ring) ring ring (length pool.nodes) nobody [] (chained.items.linked ring lt) (chained.items.apart ring lt) (ring_fits pool ring chained lt)
    (its_nodes pool ring chained lt) chained.room fits nobody_tells

pub settled_in : (pool : Pool) (ring : ℕ) → IsChained pool → ring < length pool.items → pool.given ≤ held_in pool.nodes → settle_steps ring pool ≡ 2 * length (ring_of Item pool ring)
settled_in pool ring chained lt fits =
    settles_in pool (End ring) (ring_of Item pool ring) ring ring (length pool.nodes) nobody [] (chained.items.linked ring lt) (ring_fits pool ring chained lt)
    (its_nodes pool ring chained lt) chained.room fits nobody_tells
