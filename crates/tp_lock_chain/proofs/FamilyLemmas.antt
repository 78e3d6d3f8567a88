-- Rings with one node less or more, and what a walk finds in them.
use Rattle.std.proofs.Common.{◌≡◌, ◌≢◌, ◌==◌, ◌<◌, ◌≤◌, ◌||◌, ℕ, zero, suc, Bool, true, false, cond, List, [], ◌∷◌, ◌++◌, length, refl, sym, ap, subst, ◌∙◌, inl, inr, arith}
use Rattle.std.proofs.lemmas.Bool.{both_ways, cases_Bool, eq-eqb, eqb-true, ne_eqb, or_left, or_right, or_cases, cases_eq}
use Rattle.std.proofs.lemmas.List.Folds.{list_any-append}
use Rattle.std.proofs.lemmas.Map.Steps.{length-le_from_distinct_below}
use Rattle.std.specs.List.{AllByRecursion, IsDistinct, list_any}
use Rattle.tp_lock_chain.specs.declared.links.Pair.{Pair}
use Rattle.tp_lock_chain.specs.declared.links.Spot.{Spot}
use Rattle.tp_lock_chain.specs.declared.links.Spot.TheVariants.{End, On}
use Rattle.tp_lock_chain.specs.mirrors.Rings.{AreApart, AreLinked, AreRings, is_in, walk}
use Rattle.tp_lock_chain.proofs.RingLemmas.{IsLinkedBefore, IsUnlinked, head_or, after_node, linked_stays, none_is, not_head, linked_with, linked_without, not_before, not_last, off_both, off_here, off_later, off_parts, off_two, off_from}

-- ---- lists of nodes

pub in_append : (node : ℕ) (xs ys : List ℕ) → is_in node (xs ++ ys) ≡ (is_in node xs || is_in node ys)
in_append node xs ys = list_any-append (λ o. o == node) xs ys

-- where a node stands in a list
pub record Stands (node : ℕ) (nodes : List ℕ) : Type 0 where
  pub front : List ℕ
  pub back : List ℕ
  pub whole : nodes ≡ front ++ node ∷ back

pub stands_where : (node : ℕ) (nodes : List ℕ) → is_in node nodes ≡ true → Stands node nodes
stands_where node [] here = absurd (both_ways false refl here)
stands_where node (other ∷ nodes) here = elim (cases_eq other node) [
  | inl same ↦ record { front = []; back = nodes; whole = ap (λ n. n ∷ nodes) same }
  | inr ne ↦
      let rest : is_in node nodes ≡ true = elim (or_cases (other == node) (is_in node nodes) here) [ inl is ↦ absurd (ne (eqb-true other node is)) | inr is ↦ is ] in
      let later = stands_where node nodes rest in
      record { front = other ∷ later.front; back = later.back; whole = ap (λ ns. other ∷ ns) later.whole }
]

apart_front : (node : ℕ) (xs ys : List ℕ) → AreApart (xs ++ node ∷ ys) → is_in node xs ≡ false
apart_front node [] ys apart = refl
apart_front node (x ∷ xs) ys apart =
    off_from node x xs (λ same. off_here x node ys (off_parts x node xs ys apart.0).1 (ap On (sym same))) (apart_front node xs ys apart.1)

apart_back : (node : ℕ) (xs ys : List ℕ) → AreApart (xs ++ node ∷ ys) → is_in node ys ≡ false
apart_back node [] ys apart = apart.0
apart_back node (x ∷ xs) ys apart = apart_back node xs ys apart.1

apart_without : (node : ℕ) (xs ys : List ℕ) → AreApart (xs ++ node ∷ ys) → AreApart (xs ++ ys)
apart_without node [] ys apart = apart.1
apart_without node (x ∷ xs) ys apart =
    let parts = off_parts x node xs ys apart.0 in
    (off_both x xs ys parts.0 (off_later x node ys parts.1), apart_without node xs ys apart.1)

apart_with : (node : ℕ) (xs ys : List ℕ) → AreApart (xs ++ ys) → is_in node (xs ++ ys) ≡ false → AreApart (xs ++ node ∷ ys)
apart_with node [] ys apart new_one = (new_one, apart)
apart_with node (x ∷ xs) ys apart new_one =
    let parts = off_two x xs ys apart.0 in (
      off_both x xs (node ∷ ys) parts.0 (off_from x node ys (λ same. off_here node x (xs ++ ys) new_one (ap On (sym same))) parts.1),
      apart_with node xs ys apart.1 (off_later node x (xs ++ ys) new_one),
    )

-- each node but one is in a list where it is in that with this one more
in_others : (node other : ℕ) (xs ys : List ℕ) → other ≢ node → is_in other (xs ++ node ∷ ys) ≡ is_in other (xs ++ ys)
in_others node other xs ys ne =
    in_append other xs (node ∷ ys) ∙ ap (λ b. is_in other xs || (b || is_in other ys)) (ne_eqb node other (λ same. ne (sym same))) ∙ sym (in_append other xs ys)

pub in_it : (node : ℕ) (xs ys : List ℕ) → is_in node (xs ++ node ∷ ys) ≡ true
in_it node xs ys = in_append node xs (node ∷ ys) ∙ or_right (is_in node xs) (is_in node (node ∷ ys)) (or_left (node == node) (is_in node ys) (eq-eqb node node refl))

-- ---- how many there are

distinct_head : (node : ℕ) (nodes : List ℕ) → is_in node nodes ≡ false → AllByRecursion (λ other. (node == other) ≡ false) nodes
distinct_head node [] off = tt
distinct_head node (other ∷ nodes) off = (ne_eqb node other (λ same. off_here node other nodes off (ap On same)), distinct_head node nodes (off_later node other nodes off))

distinct_from : (nodes : List ℕ) → AreApart nodes → IsDistinct (λ a b. a == b) nodes
unfolding IsDistinct
distinct_from [] apart = tt
distinct_from (node ∷ nodes) apart = (distinct_head node nodes apart.0, distinct_from nodes apart.1)

flipped : (node : ℕ) (nodes : List ℕ) → list_any (λ other. node == other) nodes ≡ true → is_in node nodes ≡ true
flipped node [] here = here
flipped node (other ∷ nodes) here = elim (or_cases (node == other) (list_any (λ o. node == o) nodes) here) [
  | inl is ↦ or_left (other == node) (is_in node nodes) (eq-eqb other node (sym (eqb-true node other is)))
  | inr is ↦ or_right (other == node) (is_in node nodes) (flipped node nodes is)
]

-- numbers below a bound of which none stands twice are at most so many
pub few : (nodes : List ℕ) (bound : ℕ) → AreApart nodes → ((node : ℕ) → is_in node nodes ≡ true → node < bound) → length nodes ≤ bound
few nodes bound apart below = length-le_from_distinct_below nodes bound (distinct_from nodes apart) (λ node here. below node (flipped node nodes here))

-- ---- a walk

pub walk_finds : (links : Spot → Pair) (first : Spot) (nodes : List ℕ) (ring fuel : ℕ) → AreLinked links first nodes (End ring) → length nodes ≤ fuel
    → walk fuel links (links first).after ≡ nodes
walk_finds links first [] ring zero linked enough = refl
walk_finds links first [] ring (suc fuel) linked enough = ap (walk (suc fuel) links) linked.0
walk_finds links first (node ∷ nodes) ring zero linked enough = absurd (omega arith)
walk_finds links first (node ∷ nodes) ring (suc fuel) linked enough =
    ap (walk (suc fuel) links) linked.0 ∙ ap (λ ns. node ∷ ns) (walk_finds links (On node) nodes ring fuel linked.2 (omega arith))

-- the nodes that a walk finds in a ring
abbrev pub found : ℕ → (Spot → Pair) → ℕ → List ℕ
found fuel links ring = walk fuel links (links (End ring)).after

pub found_is : (links : Spot → Pair) (count fuel : ℕ) (belongs : ℕ → ℕ → Bool) (rings : ℕ → List ℕ) → AreRings links count belongs rings
    → ((ring node : ℕ) → belongs ring node ≡ true → node < fuel) → (ring : ℕ) → ring < count → found fuel links ring ≡ rings ring
found_is links count fuel belongs rings are within ring lt =
    walk_finds links (End ring) (rings ring) ring fuel (are.linked ring lt)
    (few (rings ring) fuel (are.apart ring lt) (λ node here. within ring node (sym (are.own ring lt node) ∙ here)))

-- so these are the rings
pub found_rings : (links : Spot → Pair) (count fuel : ℕ) (belongs : ℕ → ℕ → Bool) (rings : ℕ → List ℕ) → AreRings links count belongs rings
    → ((ring node : ℕ) → belongs ring node ≡ true → node < fuel) → AreRings links count belongs (found fuel links)
found_rings links count fuel belongs rings are within =
    let same = found_is links count fuel belongs rings are within in
    record {
      linked = λ ring lt. subst (λ (nodes : List ℕ). AreLinked links (End ring) nodes (End ring)) (sym (same ring lt)) (are.linked ring lt);
      apart = λ ring lt. subst (λ (nodes : List ℕ). AreApart nodes) (sym (same ring lt)) (are.apart ring lt);
      own = λ ring lt node. ap (is_in node) (same ring lt) ∙ are.own ring lt node;
    }

-- ---- one node less

-- each node is in one ring at most
abbrev pub IsOne : (ℕ → ℕ → Bool) → Type 0
IsOne belongs = (node one other : ℕ) → belongs one node ≡ true → belongs other node ≡ true → one ≡ other

-- the rings but for a node that is in none of them now
pub record IsLess (belongs less : ℕ → ℕ → Bool) (node : ℕ) : Type 0 where
  pub none : (ring : ℕ) → less ring node ≡ false
  pub others : (ring other : ℕ) → other ≢ node → less ring other ≡ belongs ring other

-- one ring has a node less
pub record IsWithout (rings left : ℕ → List ℕ) (ring node : ℕ) : Type 0 where
  pub front : List ℕ
  pub back : List ℕ
  pub before : rings ring ≡ front ++ node ∷ back
  pub after : left ring ≡ front ++ back
  pub elsewhere : (other : ℕ) → other ≢ ring → left other ≡ rings other

abbrev pub at_ring : (ℕ → List ℕ) → ℕ → List ℕ → ℕ → List ℕ
at_ring rings ring nodes other = cond (other == ring) nodes (rings other)

pub at_ring_here : (rings : ℕ → List ℕ) (ring : ℕ) (nodes : List ℕ) → at_ring rings ring nodes ring ≡ nodes
at_ring_here rings ring nodes = ap (λ b. cond b nodes (rings ring)) (eq-eqb ring ring refl)

pub at_ring_else : (rings : ℕ → List ℕ) (ring : ℕ) (nodes : List ℕ) (other : ℕ) → other ≢ ring → at_ring rings ring nodes other ≡ rings other
at_ring_else rings ring nodes other ne = ap (λ b. cond b nodes (rings other)) (ne_eqb other ring ne)

not_head_end : (other : ℕ) (nodes : List ℕ) (ring : ℕ) → other ≢ ring → End other ≢ head_or nodes (End ring)
not_head_end other [] ring ne = λ same. ne cc
not_head_end other (y ∷ nodes) ring ne = λ same. cc

-- the neighbours of a node are in its ring
rest_stays : (links new : Spot → Pair) (ring other node : ℕ) (xs ys nodes : List ℕ) → IsUnlinked links new node → other ≢ ring
    → AreLinked links (End ring) (xs ++ node ∷ ys) (End ring) → AreLinked links (End other) nodes (End other)
    → ((n : ℕ) → is_in n nodes ≡ true → is_in n (xs ++ node ∷ ys) ≡ false) → AreLinked new (End other) nodes (End other)
rest_stays links new ring other node xs ys nodes un ne linked rest far =
    let ends : End other ≢ End ring = λ same. ne cc in
    let next_is = after_node links (End ring) xs node ys (End ring) linked in
    linked_stays links new (End other) nodes (End other) rest
    (un.afters (End other) (not_before links (End ring) xs node ys (End ring) (End other) linked ends tt))
    (un.befores (End other) (λ same. not_head_end other ys ring ne (same ∙ next_is)))
    (λ n here.
    let parts = off_parts n node xs ys (far n here) in (
      un.afters (On n) (not_before links (End ring) xs node ys (End ring) (On n) linked (λ same. cc) parts.0),
      un.befores (On n) (λ same. not_head n ys ring (off_later n node ys parts.1) (same ∙ next_is)),
    ))

-- taking a node out of its ring leaves the others as they were
pub rings_without : (links new : Spot → Pair) (count : ℕ) (belongs less : ℕ → ℕ → Bool) (rings : ℕ → List ℕ) (ring node : ℕ) → AreRings links count belongs rings
    → IsOne belongs → IsLess belongs less node → ring < count → belongs ring node ≡ true → IsUnlinked links new node
    → (left : ℕ → List ℕ) × IsWithout rings left ring node × AreRings new count less left
rings_without links new count belongs less rings ring node are one is lt here un =
    let stands = stands_where node (rings ring) (are.own ring lt node ∙ here) in
    let xs = stands.front in
    let ys = stands.back in
    let linked : AreLinked links (End ring) (xs ++ node ∷ ys) (End ring) = subst (λ (nodes : List ℕ). AreLinked links (End ring) nodes (End ring)) stands.whole (are.linked ring lt) in
    let apart : AreApart (xs ++ node ∷ ys) = subst (λ (nodes : List ℕ). AreApart nodes) stands.whole (are.apart ring lt) in
    let left = at_ring rings ring (xs ++ ys) in
    let at : left ring ≡ xs ++ ys = at_ring_here rings ring (xs ++ ys) in
    let elsewhere : (other : ℕ) → other ≢ ring → left other ≡ rings other = at_ring_else rings ring (xs ++ ys) in
    let far : (other : ℕ) → other < count → other ≢ ring → (n : ℕ) → is_in n (rings other) ≡ true → is_in n (xs ++ node ∷ ys) ≡ false =
    λ other lt' ne n there. elim (cases_Bool (is_in n (xs ++ node ∷ ys))) [
      | inl is ↦ absurd (ne (one n other ring (sym (are.own other lt' n) ∙ there) (sym (are.own ring lt n) ∙ ap (is_in n) stands.whole ∙ is)))
      | inr off ↦ off
    ] in (
      left,
      record { front = xs; back = ys; before = stands.whole; after = at; elsewhere = elsewhere },
      record {
        linked = λ other lt'. elim (cases_eq other ring) [
          | inl same ↦
              subst (λ (r : ℕ). AreLinked new (End r) (left r) (End r)) (sym same)
              (subst (λ (nodes : List ℕ). AreLinked new (End ring) nodes (End ring)) (sym at) (linked_without links new (End ring) xs node ys ring un linked tt apart))
          | inr ne ↦
              subst (λ (nodes : List ℕ). AreLinked new (End other) nodes (End other)) (sym (elsewhere other ne))
              (rest_stays links new ring other node xs ys (rings other) un ne linked (are.linked other lt') (far other lt' ne))
        ];
        apart = λ other lt'. elim (cases_eq other ring) [
          | inl same ↦ subst (λ (nodes : List ℕ). AreApart nodes) (sym (ap left same ∙ at)) (apart_without node xs ys apart)
          | inr ne ↦ subst (λ (nodes : List ℕ). AreApart nodes) (sym (elsewhere other ne)) (are.apart other lt')
        ];
        own = λ other lt' n. elim (cases_eq other ring) [
          | inl same ↦ ap (is_in n) (ap left same ∙ at) ∙ elim (cases_eq n node) [
            | inl it ↦ ap (λ m. is_in m (xs ++ ys)) it ∙ off_both node xs ys (apart_front node xs ys apart) (apart_back node xs ys apart) ∙ sym (ap (less other) it ∙ is.none other)
            | inr no_it ↦ sym (in_others node n xs ys no_it) ∙ sym (ap (is_in n) stands.whole) ∙ are.own ring lt n ∙ ap (λ r. belongs r n) (sym same) ∙ sym (is.others other n no_it)
          ]
          | inr ne ↦ ap (is_in n) (elsewhere other ne) ∙ are.own other lt' n ∙ elim (cases_eq n node) [
            | inl it ↦ elim (cases_Bool (belongs other n)) [
              | inl there ↦ absurd (ne (one node other ring (ap (belongs other) (sym it) ∙ there) here))
              | inr away ↦ away ∙ sym (ap (less other) it ∙ is.none other)
            ]
            | inr no_it ↦ sym (is.others other n no_it)
          ]
        ];
      },
    )

-- ---- one node more

-- the rings with a node that was in none of them
pub record IsMore (belongs more : ℕ → ℕ → Bool) (ring node : ℕ) : Type 0 where
  pub none : (other : ℕ) → belongs other node ≡ false
  pub here : more ring node ≡ true
  pub only : (other : ℕ) → other ≢ ring → more other node ≡ false
  pub others : (at other : ℕ) → other ≢ node → more at other ≡ belongs at other

-- one ring has a node more
pub record IsWith (rings grown : ℕ → List ℕ) (ring node : ℕ) (front back : List ℕ) : Type 0 where
  pub after : grown ring ≡ front ++ node ∷ back
  pub elsewhere : (other : ℕ) → other ≢ ring → grown other ≡ rings other

rest_is_kept : (links new : Spot → Pair) (ring other node : ℕ) (xs ys nodes : List ℕ) → IsLinkedBefore links new node (head_or ys (End ring)) → other ≢ ring
    → AreLinked links (End ring) (xs ++ ys) (End ring) → AreLinked links (End other) nodes (End other) → is_in node nodes ≡ false
    → ((n : ℕ) → is_in n nodes ≡ true → is_in n (xs ++ ys) ≡ false) → AreLinked new (End other) nodes (End other)
rest_is_kept links new ring other node xs ys nodes put ne linked rest new_one far =
    let ends : End other ≢ End ring = λ same. ne cc in
    linked_stays links new (End other) nodes (End other) rest
    (put.afters (End other) (not_last links (End ring) xs ys (End ring) (End other) linked ends tt) (λ same. cc))
    (put.befores (End other) (not_head_end other ys ring ne) (λ same. cc))
    (λ n here.
    let parts = off_two n xs ys (far n here) in
    let not_node : On n ≢ On node = none_is (On node) nodes n new_one here in (
      put.afters (On n) (not_last links (End ring) xs ys (End ring) (On n) linked (λ same. cc) parts.0) not_node,
      put.befores (On n) (not_head n ys ring parts.1) not_node,
    ))

-- putting a node into a ring leaves the others as they were
pub rings_with : (links new : Spot → Pair) (count : ℕ) (belongs more : ℕ → ℕ → Bool) (rings : ℕ → List ℕ) (ring node : ℕ) (xs ys : List ℕ) → AreRings links count belongs rings
    → IsOne belongs → IsMore belongs more ring node → ring < count → rings ring ≡ xs ++ ys → IsLinkedBefore links new node (head_or ys (End ring))
    → (grown : ℕ → List ℕ) × IsWith rings grown ring node xs ys × AreRings new count more grown
rings_with links new count belongs more rings ring node xs ys are one is lt whole put =
    let linked : AreLinked links (End ring) (xs ++ ys) (End ring) = subst (λ (nodes : List ℕ). AreLinked links (End ring) nodes (End ring)) whole (are.linked ring lt) in
    let apart : AreApart (xs ++ ys) = subst (λ (nodes : List ℕ). AreApart nodes) whole (are.apart ring lt) in
    let new_one : is_in node (xs ++ ys) ≡ false = ap (is_in node) (sym whole) ∙ are.own ring lt node ∙ is.none ring in
    let grown = at_ring rings ring (xs ++ node ∷ ys) in
    let at : grown ring ≡ xs ++ node ∷ ys = at_ring_here rings ring (xs ++ node ∷ ys) in
    let elsewhere : (other : ℕ) → other ≢ ring → grown other ≡ rings other = at_ring_else rings ring (xs ++ node ∷ ys) in
    let far : (other : ℕ) → other < count → other ≢ ring → (n : ℕ) → is_in n (rings other) ≡ true → is_in n (xs ++ ys) ≡ false =
    λ other lt' ne n there. elim (cases_Bool (is_in n (xs ++ ys))) [
      | inl is ↦ absurd (ne (one n other ring (sym (are.own other lt' n) ∙ there) (sym (are.own ring lt n) ∙ ap (is_in n) whole ∙ is)))
      | inr off ↦ off
    ] in (
      grown,
      record { after = at; elsewhere = elsewhere },
      record {
        linked = λ other lt'. elim (cases_eq other ring) [
          | inl same ↦
              subst (λ (r : ℕ). AreLinked new (End r) (grown r) (End r)) (sym same)
              (subst (λ (nodes : List ℕ). AreLinked new (End ring) nodes (End ring)) (sym at) (linked_with links new (End ring) xs node ys ring put linked tt apart (λ same'. cc) new_one))
          | inr ne ↦
              subst (λ (nodes : List ℕ). AreLinked new (End other) nodes (End other)) (sym (elsewhere other ne))
              (rest_is_kept links new ring other node xs ys (rings other) put ne linked (are.linked other lt') (are.own other lt' node ∙ is.none other) (far other lt' ne))
        ];
        apart = λ other lt'. elim (cases_eq other ring) [
          | inl same ↦ subst (λ (nodes : List ℕ). AreApart nodes) (sym (ap grown same ∙ at)) (apart_with node xs ys apart new_one)
          | inr ne ↦ subst (λ (nodes : List ℕ). AreApart nodes) (sym (elsewhere other ne)) (are.apart other lt')
        ];
        own = λ other lt' n. elim (cases_eq other ring) [
          | inl same ↦ ap (is_in n) (ap grown same ∙ at) ∙ elim (cases_eq n node) [
            | inl it ↦ ap (λ m. is_in m (xs ++ node ∷ ys)) it ∙ in_it node xs ys ∙ sym (ap (λ r. more r n) same ∙ ap (more ring) it ∙ is.here)
            | inr no_it ↦ in_others node n xs ys no_it ∙ sym (ap (is_in n) whole) ∙ are.own ring lt n ∙ ap (λ r. belongs r n) (sym same) ∙ sym (is.others other n no_it)
          ]
          | inr ne ↦ ap (is_in n) (elsewhere other ne) ∙ are.own other lt' n ∙ elim (cases_eq n node) [
            | inl it ↦ ap (belongs other) it ∙ is.none other ∙ sym (ap (more other) it ∙ is.only other ne)
            | inr no_it ↦ sym (is.others other n no_it)
          ]
        ];
      },
    )
