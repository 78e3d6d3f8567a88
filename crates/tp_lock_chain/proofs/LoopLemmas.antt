-- One turn of each loop over a ring.
use Rattle.std.proofs.Common.{◌≡◌, ◌≤◌, ◌<◌, ◌+◌, ◌-◌, ◌++◌, ℕ, suc, List, [], ◌∷◌, append-nil, append_assoc, cond, length, sym, ap, ap₂, subst, ◌∙◌, arith}
use Rattle.std.proofs.lemmas.Bool.{le-ltb}
use Rattle.tp_lock.specs.declared.entry.LockEntry.{LockEntry}
use Rattle.tp_lock_chain.specs.declared.ask.Ask.{Ask}
use Rattle.tp_lock_chain.specs.declared.ask.Found.{Found}
use Rattle.tp_lock_chain.specs.declared.leave.Passed.{Passed}
use Rattle.tp_lock_chain.specs.declared.links.Kind.TheVariants.{Item, Owner}
use Rattle.tp_lock_chain.specs.declared.links.Node.{Node}
use Rattle.tp_lock_chain.specs.declared.links.Pair.{Pair}
use Rattle.tp_lock_chain.specs.declared.links.Pool.{Pool}
use Rattle.tp_lock_chain.specs.declared.links.Spot.{Spot}
use Rattle.tp_lock_chain.specs.declared.links.Spot.TheVariants.{End, On}
use Rattle.tp_lock_chain.specs.mirrors.Ask.{met, met_all, spot_from}
use Rattle.tp_lock_chain.specs.mirrors.Leave.{rest_from, left_from, left_one, one_steps, passed_with, ring_at, settle_steps, settled, settled_from, settled_one, steps_from}
use Rattle.tp_lock_chain.specs.mirrors.Links.{links, node_at}
use Rattle.tp_lock_chain.specs.mirrors.Pool.{entries_of}
use Rattle.tp_lock_chain.specs.mirrors.Rings.{walk}

turns_left : (all turn : ℕ) → turn < all → all - turn ≡ suc (all - (turn + 1))
turns_left all turn lt = omega arith

-- ---- what a list says to a request

abbrev pub rest_says : Ask → Pool → ℕ → Spot → Found → Found
rest_says ask pool fuel at found = met_all ask found (entries_of pool (walk fuel (links Item pool) at))

pub look_ends : (ask : Ask) (pool : Pool) (turn : ℕ) (at : Spot) (found : Found) (ring : ℕ) (whole : Found) → turn < length pool.nodes → at ≡ End ring
    → rest_says ask pool (length pool.nodes - turn) at found ≡ whole → found ≡ whole
look_ends ask pool turn at found ring whole lt is rest =
    sym (ap₂ (λ (fuel : ℕ) (spot : Spot). rest_says ask pool fuel spot found) (turns_left (length pool.nodes) turn lt) is) ∙ rest

pub look_turns : (ask : Ask) (pool : Pool) (turn : ℕ) (at : Spot) (found more : Found) (node : ℕ) (got : Node) (pair : Pair) (whole : Found) → turn < length pool.nodes → at ≡ On node
    → got ≡ node_at pool node → more ≡ met ask got.entry found → pair ≡ links Item pool (On node)
    → rest_says ask pool (length pool.nodes - turn) at found ≡ whole → rest_says ask pool (length pool.nodes - (turn + 1)) pair.after more ≡ whole
look_turns ask pool turn at found more node got pair whole lt is read meets next rest =
    ap₂ (λ (spot : Spot) (f : Found). rest_says ask pool (length pool.nodes - (turn + 1)) spot f) (ap (λ (p : Pair). p.after) next) (meets ∙ ap (λ (n : Node). met ask n.entry found) read)
    ∙ sym (ap₂ (λ (fuel : ℕ) (spot : Spot). rest_says ask pool fuel spot found) (turns_left (length pool.nodes) turn lt) is) ∙ rest

-- ---- the entries of a list

abbrev pub rest_has : Pool → ℕ → Spot → List LockEntry → List LockEntry
rest_has pool fuel at entries = entries ++ entries_of pool (walk fuel (links Item pool) at)

pub list_ends : (pool : Pool) (turn : ℕ) (at : Spot) (entries : List LockEntry) (ring : ℕ) (whole : List LockEntry) → turn < length pool.nodes → at ≡ End ring
    → rest_has pool (length pool.nodes - turn) at entries ≡ whole → entries ≡ whole
list_ends pool turn at entries ring whole lt is rest =
    sym (append-nil entries)
    ∙ (sym (ap₂ (λ (fuel : ℕ) (spot : Spot). rest_has pool fuel spot entries) (turns_left (length pool.nodes) turn lt) is) ∙ rest)

pub list_turns : (pool : Pool) (turn : ℕ) (at : Spot) (entries : List LockEntry) (node : ℕ) (got : Node) (pair : Pair) (whole : List LockEntry) → turn < length pool.nodes → at ≡ On node
    → got ≡ node_at pool node → pair ≡ links Item pool (On node)
    → rest_has pool (length pool.nodes - turn) at entries ≡ whole → rest_has pool (length pool.nodes - (turn + 1)) pair.after (entries ++ got.entry ∷ []) ≡ whole
list_turns pool turn at entries node got pair whole lt is read next rest =
    append_assoc entries (got.entry ∷ []) (entries_of pool (walk (length pool.nodes - (turn + 1)) (links Item pool) pair.after))
    ∙ (ap₂ (λ (p : Pair) (n : Node). entries ++ (n.entry ∷ entries_of pool (walk (length pool.nodes - (turn + 1)) (links Item pool) p.after))) next read
    ∙ (sym (ap₂ (λ (fuel : ℕ) (spot : Spot). rest_has pool fuel spot entries) (turns_left (length pool.nodes) turn lt) is) ∙ rest))

-- ---- the place of a new node

passed_by : (pool : Pool) (ring fuel node : ℕ) → (node_at pool node).ring ≤ ring
    → spot_from (suc fuel) pool ring (On node) ≡ spot_from fuel pool ring (links Owner pool (On node)).after
passed_by pool ring fuel node small =
    ap (λ b. cond b (On node) (spot_from fuel pool ring (links Owner pool (On node)).after)) (le-ltb ring (node_at pool node).ring small)

pub spot_turns : (pool : Pool) (ring turn : ℕ) (at : Spot) (node : ℕ) (got : Node) (pair : Pair) (whole : Spot) → turn < length pool.nodes → at ≡ On node
    → got ≡ node_at pool node → pair ≡ links Owner pool (On node) → got.ring ≤ ring
    → spot_from (length pool.nodes - turn) pool ring at ≡ whole → spot_from (length pool.nodes - (turn + 1)) pool ring pair.after ≡ whole
spot_turns pool ring turn at node got pair whole lt is read next small rest =
    let little : (node_at pool node).ring ≤ ring = subst (λ (n : Node). n.ring ≤ ring) read small in
    ap (λ (p : Pair). spot_from (length pool.nodes - (turn + 1)) pool ring p.after) next
    ∙ sym (passed_by pool ring (length pool.nodes - (turn + 1)) node little)
    ∙ sym (ap₂ (λ (fuel : ℕ) (spot : Spot). spot_from fuel pool ring spot) (turns_left (length pool.nodes) turn lt) is) ∙ rest

-- ---- the grants of a list

pub settle_ends : (all turn : ℕ) (pool : Pool) (at : Spot) (passed : Passed) (ring : ℕ) (whole : Pool) → turn < all → at ≡ End ring
    → settled_from (all - turn) at passed pool ≡ whole → pool ≡ whole
settle_ends all turn pool at passed ring whole lt is rest =
    sym (ap₂ (λ (fuel : ℕ) (spot : Spot). settled_from fuel spot passed pool) (turns_left all turn lt) is) ∙ rest

pub settle_turns : (all turn : ℕ) (pool new : Pool) (at : Spot) (passed more : Passed) (node : ℕ) (got : Node) (pair : Pair) (whole : Pool) → turn < all → at ≡ On node
    → got ≡ node_at pool node → new ≡ settled_one node passed pool → more ≡ passed_with got.entry passed → pair ≡ links Item new (On node)
    → settled_from (all - turn) at passed pool ≡ whole → settled_from (all - (turn + 1)) pair.after more new ≡ whole
settle_turns all turn pool new at passed more node got pair whole lt is read changed passes next rest =
    let after_is : pair.after ≡ (links Item (settled_one node passed pool) (On node)).after = ap (λ (p : Pair). p.after) next ∙ ap (λ (p : Pool). (links Item p (On node)).after) changed in
    let passed_is : more ≡ passed_with (node_at pool node).entry passed = passes ∙ ap (λ (n : Node). passed_with n.entry passed) read in
    ap (λ (spot : Spot). settled_from (all - (turn + 1)) spot more new) after_is
    ∙ ap₂ (λ (m : Passed) (p : Pool). settled_from (all - (turn + 1)) (links Item (settled_one node passed pool) (On node)).after m p) passed_is changed
    ∙ sym (ap₂ (λ (fuel : ℕ) (spot : Spot). settled_from fuel spot passed pool) (turns_left all turn lt) is) ∙ rest

pub settle_steps_turn : (all turn : ℕ) (pool new : Pool) (at : Spot) (passed more : Passed) (node : ℕ) (got : Node) (pair : Pair) → turn < all → at ≡ On node
    → got ≡ node_at pool node → new ≡ settled_one node passed pool → more ≡ passed_with got.entry passed → pair ≡ links Item new (On node)
    → 2 + steps_from (all - (turn + 1)) pair.after more new ≡ steps_from (all - turn) at passed pool
settle_steps_turn all turn pool new at passed more node got pair lt is read changed passes next =
    let after_is : pair.after ≡ (links Item (settled_one node passed pool) (On node)).after = ap (λ (p : Pair). p.after) next ∙ ap (λ (p : Pool). (links Item p (On node)).after) changed in
    let passed_is : more ≡ passed_with (node_at pool node).entry passed = passes ∙ ap (λ (n : Node). passed_with n.entry passed) read in
    ap (λ (spot : Spot). 2 + steps_from (all - (turn + 1)) spot more new) after_is
    ∙ ap₂ (λ (m : Passed) (p : Pool). 2 + steps_from (all - (turn + 1)) (links Item (settled_one node passed pool) (On node)).after m p) passed_is changed
    ∙ sym (ap₂ (λ (fuel : ℕ) (spot : Spot). steps_from fuel spot passed pool) (turns_left all turn lt) is)

-- ---- the nodes of an owner

pub leave_ends : (all turn owner ring : ℕ) (pool : Pool) (end : ℕ) (pair : Pair) (whole : Pool) → turn < all → pair ≡ links Owner pool (End owner) → pair.after ≡ End end
    → left_from (all - turn) owner ring pool ≡ whole → settled ring pool ≡ whole
leave_ends all turn owner ring pool end pair whole lt read is rest =
    let end_is : (links Owner pool (End owner)).after ≡ End end = ap (λ (p : Pair). p.after) (sym read) ∙ is in
    sym (ap (λ (fuel : ℕ). left_from fuel owner ring pool) (turns_left all turn lt) ∙ ap (λ (spot : Spot). elim spot [ End end ↦ settled ring pool | On node ↦ left_from (all - (turn + 1)) owner (ring_at node pool) (left_one node ring pool) ]) end_is) ∙ rest

pub leave_ends_steps : (all turn owner ring : ℕ) (pool : Pool) (end : ℕ) (pair : Pair) → turn < all → pair ≡ links Owner pool (End owner) → pair.after ≡ End end
    → settle_steps ring pool ≡ rest_from (all - turn) owner ring pool
leave_ends_steps all turn owner ring pool end pair lt read is =
    let end_is : (links Owner pool (End owner)).after ≡ End end = ap (λ (p : Pair). p.after) (sym read) ∙ is in
    sym (ap (λ (fuel : ℕ). rest_from fuel owner ring pool) (turns_left all turn lt) ∙ ap (λ (spot : Spot). elim spot [ End end ↦ settle_steps ring pool | On node ↦ one_steps node ring pool + rest_from (all - (turn + 1)) owner (ring_at node pool) (left_one node ring pool) ]) end_is)

pub leave_turns : (all turn owner ring next : ℕ) (pool new : Pool) (node : ℕ) (pair : Pair) (whole : Pool) → turn < all → pair ≡ links Owner pool (End owner) → pair.after ≡ On node
    → next ≡ ring_at node pool → new ≡ left_one node ring pool
    → left_from (all - turn) owner ring pool ≡ whole → left_from (all - (turn + 1)) owner next new ≡ whole
leave_turns all turn owner ring next pool new node pair whole lt read is ring_is changed rest =
    let on_is : (links Owner pool (End owner)).after ≡ On node = ap (λ (p : Pair). p.after) (sym read) ∙ is in
    ap₂ (λ (r : ℕ) (p : Pool). left_from (all - (turn + 1)) owner r p) ring_is changed
    ∙ sym (ap (λ (fuel : ℕ). left_from fuel owner ring pool) (turns_left all turn lt) ∙ ap (λ (spot : Spot). elim spot [ End end ↦ settled ring pool | On node ↦ left_from (all - (turn + 1)) owner (ring_at node pool) (left_one node ring pool) ]) on_is) ∙ rest

pub leave_turns_steps : (all turn owner ring next : ℕ) (pool new : Pool) (node : ℕ) (pair : Pair) → turn < all → pair ≡ links Owner pool (End owner) → pair.after ≡ On node
    → next ≡ ring_at node pool → new ≡ left_one node ring pool
    → one_steps node ring pool + rest_from (all - (turn + 1)) owner next new ≡ rest_from (all - turn) owner ring pool
leave_turns_steps all turn owner ring next pool new node pair lt read is ring_is changed =
    let on_is : (links Owner pool (End owner)).after ≡ On node = ap (λ (p : Pair). p.after) (sym read) ∙ is in
    ap₂ (λ (r : ℕ) (p : Pool). one_steps node ring pool + rest_from (all - (turn + 1)) owner r p) ring_is changed
    ∙ sym (ap (λ (fuel : ℕ). rest_from fuel owner ring pool) (turns_left all turn lt) ∙ ap (λ (spot : Spot). elim spot [ End end ↦ settle_steps ring pool | On node ↦ one_steps node ring pool + rest_from (all - (turn + 1)) owner (ring_at node pool) (left_one node ring pool) ]) on_is)
