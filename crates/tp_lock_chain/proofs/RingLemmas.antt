-- A node taken out of one of many rings, or put into one: that ring changes by it, and the others stay.
use Rattle.std.proofs.Common.{◌≡◌, ◌≢◌, ◌==◌, ℕ, true, false, List, [], ◌∷◌, ◌++◌, refl, sym, ap, ◌∙◌}
use Rattle.std.proofs.lemmas.Bool.{both_ways, eq-eqb, ne_eqb, or_from, or_parts, or_left, or_right}
use Rattle.std.proofs.lemmas.List.Folds.{list_any-append}
use Rattle.tp_lock_chain.specs.declared.links.Pair.{Pair}
use Rattle.tp_lock_chain.specs.declared.links.Spot.{Spot}
use Rattle.tp_lock_chain.specs.declared.links.Spot.TheVariants.{End, On}
use Rattle.tp_lock_chain.specs.mirrors.Rings.{AreApart, AreLinked, is_in}

-- ---- nodes of a list

pub off_here : (node other : ℕ) (nodes : List ℕ) → is_in node (other ∷ nodes) ≡ false → On node ≢ On other
off_here node other nodes off same =
    let number : node ≡ other = cc in
    both_ways (other == node) (or_parts (other == node) (is_in node nodes) off).0 (eq-eqb other node (sym number))

pub off_later : (node other : ℕ) (nodes : List ℕ) → is_in node (other ∷ nodes) ≡ false → is_in node nodes ≡ false
off_later node other nodes off = (or_parts (other == node) (is_in node nodes) off).1

pub off_from : (node other : ℕ) (nodes : List ℕ) → node ≢ other → is_in node nodes ≡ false → is_in node (other ∷ nodes) ≡ false
off_from node other nodes ne off = or_from (other == node) (is_in node nodes) (ne_eqb other node (λ same. ne (sym same))) off

pub off_parts : (node other : ℕ) (xs ys : List ℕ) → is_in node (xs ++ other ∷ ys) ≡ false → (is_in node xs ≡ false) × (is_in node (other ∷ ys) ≡ false)
off_parts node other xs ys off = or_parts (is_in node xs) (is_in node (other ∷ ys)) (sym (list_any-append (λ o. o == node) xs (other ∷ ys)) ∙ off)

pub off_both : (node : ℕ) (xs ys : List ℕ) → is_in node xs ≡ false → is_in node ys ≡ false → is_in node (xs ++ ys) ≡ false
off_both node xs ys a b = list_any-append (λ o. o == node) xs ys ∙ or_from (is_in node xs) (is_in node ys) a b

pub off_two : (node : ℕ) (xs ys : List ℕ) → is_in node (xs ++ ys) ≡ false → (is_in node xs ≡ false) × (is_in node ys ≡ false)
off_two node xs ys off = or_parts (is_in node xs) (is_in node ys) (sym (list_any-append (λ o. o == node) xs ys) ∙ off)

-- a place is no node of a list
abbrev pub IsOff : Spot → List ℕ → Type 0
IsOff (End ring) nodes = Unit {0}
IsOff (On node) nodes = is_in node nodes ≡ false

pub off_head : (spot : Spot) (node : ℕ) (nodes : List ℕ) → IsOff spot (node ∷ nodes) → spot ≢ On node
off_head (End ring) node nodes off = λ same. cc
off_head (On other) node nodes off = off_here other node nodes off

pub off_tail : (spot : Spot) (node : ℕ) (nodes : List ℕ) → IsOff spot (node ∷ nodes) → IsOff spot nodes
off_tail (End ring) node nodes off = tt
off_tail (On other) node nodes off = off_later other node nodes off

pub off_front : (spot : Spot) (xs ys : List ℕ) → IsOff spot (xs ++ ys) → IsOff spot xs
off_front (End ring) xs ys off = tt
off_front (On other) xs ys off = (off_two other xs ys off).0

pub off_back : (spot : Spot) (xs ys : List ℕ) → IsOff spot (xs ++ ys) → IsOff spot ys
off_back (End ring) xs ys off = tt
off_back (On other) xs ys off = (off_two other xs ys off).1

-- no node of the list is this place
pub none_is : (spot : Spot) (nodes : List ℕ) (node : ℕ) → IsOff spot nodes → is_in node nodes ≡ true → On node ≢ spot
none_is (End ring) nodes node off here = λ same. cc
none_is (On other) nodes node off here = λ same.
    let number : node ≡ other = cc in
    both_ways (is_in other nodes) off (ap (λ n. is_in n nodes) (sym number) ∙ here)

-- the first of these nodes, or what follows
abbrev pub head_or : List ℕ → Spot → Spot
head_or [] last = last
head_or (node ∷ nodes) last = On node

-- ---- what stands next to a node

pub after_node : (links : Spot → Pair) (first : Spot) (xs : List ℕ) (node : ℕ) (ys : List ℕ) (last : Spot) → AreLinked links first (xs ++ node ∷ ys) last
    → (links (On node)).after ≡ head_or ys last
after_node links first [] node [] last linked = linked.2.0
after_node links first [] node (y ∷ ys) last linked = linked.2.0
after_node links first (x ∷ xs) node ys last linked = after_node links (On x) xs node ys last linked.2

pub not_before : (links : Spot → Pair) (first : Spot) (xs : List ℕ) (node : ℕ) (ys : List ℕ) (last spot : Spot) → AreLinked links first (xs ++ node ∷ ys) last
    → spot ≢ first → IsOff spot xs → spot ≢ (links (On node)).before
not_before links first [] node ys last spot linked ne off = λ same. ne (same ∙ linked.1)
not_before links first (x ∷ xs) node ys last spot linked ne off = not_before links (On x) xs node ys last spot linked.2 (off_head spot x xs off) (off_tail spot x xs off)

pub not_last : (links : Spot → Pair) (first : Spot) (xs ys : List ℕ) (last spot : Spot) → AreLinked links first (xs ++ ys) last
    → spot ≢ first → IsOff spot xs → spot ≢ (links (head_or ys last)).before
not_last links first [] [] last spot linked ne off = λ same. ne (same ∙ linked.1)
not_last links first [] (y ∷ ys) last spot linked ne off = λ same. ne (same ∙ linked.1)
not_last links first (x ∷ xs) ys last spot linked ne off = not_last links (On x) xs ys last spot linked.2 (off_head spot x xs off) (off_tail spot x xs off)

pub not_head : (node : ℕ) (nodes : List ℕ) (ring : ℕ) → is_in node nodes ≡ false → On node ≢ head_or nodes (End ring)
not_head node [] ring off = λ same. cc
not_head node (y ∷ nodes) ring off = off_here node y nodes off

-- ---- where links stay

-- both links of a place are as they were
abbrev pub IsSame : (Spot → Pair) → (Spot → Pair) → Spot → Type 0
IsSame links new spot = ((new spot).after ≡ (links spot).after) × ((new spot).before ≡ (links spot).before)

pub head_is_in : (node : ℕ) (nodes : List ℕ) → is_in node (node ∷ nodes) ≡ true
head_is_in node nodes = or_left (node == node) (is_in node nodes) (eq-eqb node node refl)

pub tail_is_in : (node other : ℕ) (nodes : List ℕ) → is_in node nodes ≡ true → is_in node (other ∷ nodes) ≡ true
tail_is_in node other nodes here = or_right (other == node) (is_in node nodes) here

pub linked_stays : (links new : Spot → Pair) (first : Spot) (nodes : List ℕ) (last : Spot) → AreLinked links first nodes last
    → (new first).after ≡ (links first).after → (new last).before ≡ (links last).before
    → ((node : ℕ) → is_in node nodes ≡ true → IsSame links new (On node)) → AreLinked new first nodes last
linked_stays links new first [] last linked here there all = (here ∙ linked.0, there ∙ linked.1)
linked_stays links new first (node ∷ nodes) last linked here there all =
    let same = all node (head_is_in node nodes) in
    (here ∙ linked.0, same.1 ∙ linked.1, linked_stays links new (On node) nodes last linked.2 same.0 there (λ other is. all other (tail_is_in other node nodes is)))

-- ---- a node taken out

-- the neighbours of the node are those of one another, and no other link is changed
pub record IsUnlinked (links new : Spot → Pair) (node : ℕ) : Type 0 where
  pub hop : (new (links (On node)).before).after ≡ (links (On node)).after
  pub back : (new (links (On node)).after).before ≡ (links (On node)).before
  pub afters : (spot : Spot) → spot ≢ (links (On node)).before → (new spot).after ≡ (links spot).after
  pub befores : (spot : Spot) → spot ≢ (links (On node)).after → (new spot).before ≡ (links spot).before

pub linked_without : (links new : Spot → Pair) (first : Spot) (xs : List ℕ) (node : ℕ) (ys : List ℕ) (ring : ℕ) → IsUnlinked links new node
    → AreLinked links first (xs ++ node ∷ ys) (End ring) → IsOff first (xs ++ node ∷ ys) → AreApart (xs ++ node ∷ ys) → AreLinked new first (xs ++ ys) (End ring)
linked_without links new first [] node [] ring un linked off apart = (
  ap (λ s. (new s).after) (sym linked.1) ∙ un.hop ∙ linked.2.0,
  ap (λ s. (new s).before) (sym linked.2.0) ∙ un.back ∙ linked.1,
)
linked_without links new first [] node (y ∷ ys) ring un linked off apart =
    let first_is : (links (On node)).before ≡ first = linked.1 in
    let next_is : (links (On node)).after ≡ On y = linked.2.0 in
    let rest = off_tail first node (y ∷ ys) off in
    let further = off_tail first y ys rest in (
      ap (λ s. (new s).after) (sym first_is) ∙ un.hop ∙ next_is,
      ap (λ s. (new s).before) (sym next_is) ∙ un.back ∙ first_is,
      linked_stays links new (On y) ys (End ring) linked.2.2
          (un.afters (On y) (λ same. off_head first y ys rest (sym (same ∙ first_is))))
          (un.befores (End ring) (λ same. let clash : End ring ≡ On y = same ∙ next_is in cc))
          (λ other is. (
            un.afters (On other) (λ same. none_is first ys other further is (same ∙ first_is)),
            un.befores (On other) (λ same. none_is (On y) ys other apart.1.0 is (same ∙ next_is)),
          )),
    )
linked_without links new first (x ∷ xs) node ys ring un linked off apart =
    let away = off_tail first x (xs ++ node ∷ ys) off in
    let next_is = after_node links (On x) xs node ys (End ring) linked.2 in
    let parts = off_parts x node xs ys apart.0 in (
      un.afters first (not_before links (On x) xs node ys (End ring) first linked.2 (off_head first x (xs ++ node ∷ ys) off) (off_front first xs (node ∷ ys) away)) ∙ linked.0,
      un.befores (On x) (λ same. not_head x ys ring (off_later x node ys parts.1) (same ∙ next_is)) ∙ linked.1,
      linked_without links new (On x) xs node ys ring un linked.2 apart.0 apart.1,
    )

-- ---- a node put in

-- the node stands before a place and after what stood before it, and no other link is changed
pub record IsLinkedBefore (links new : Spot → Pair) (node : ℕ) (spot : Spot) : Type 0 where
  pub to : (new (links spot).before).after ≡ On node
  pub from : (new spot).before ≡ On node
  pub next : (new (On node)).after ≡ spot
  pub last : (new (On node)).before ≡ (links spot).before
  pub afters : (other : Spot) → other ≢ (links spot).before → other ≢ On node → (new other).after ≡ (links other).after
  pub befores : (other : Spot) → other ≢ spot → other ≢ On node → (new other).before ≡ (links other).before

pub linked_with : (links new : Spot → Pair) (first : Spot) (xs : List ℕ) (node : ℕ) (ys : List ℕ) (ring : ℕ) → IsLinkedBefore links new node (head_or ys (End ring))
    → AreLinked links first (xs ++ ys) (End ring) → IsOff first (xs ++ ys) → AreApart (xs ++ ys) → first ≢ On node → is_in node (xs ++ ys) ≡ false
    → AreLinked new first (xs ++ node ∷ ys) (End ring)
linked_with links new first [] node [] ring put linked off apart ne new_one =
    (ap (λ s. (new s).after) (sym linked.1) ∙ put.to, put.last ∙ linked.1, (put.next, put.from))
linked_with links new first [] node (y ∷ ys) ring put linked off apart ne new_one =
    let first_is : (links (On y)).before ≡ first = linked.1 in
    let away = off_tail first y ys off in (
      ap (λ s. (new s).after) (sym first_is) ∙ put.to,
      put.last ∙ first_is,
      (
        put.next,
        put.from,
        linked_stays links new (On y) ys (End ring) linked.2
            (put.afters (On y) (λ same. off_head first y ys off (sym (same ∙ first_is))) (λ same. off_here node y ys new_one (sym same)))
            (put.befores (End ring) (λ same. cc) (λ same. cc))
            (λ other is. (
              put.afters (On other) (λ same. none_is first ys other away is (same ∙ first_is)) (none_is (On node) ys other (off_later node y ys new_one) is),
              put.befores (On other) (none_is (On y) ys other apart.0 is) (none_is (On node) ys other (off_later node y ys new_one) is),
            )),
      ),
    )
linked_with links new first (x ∷ xs) node ys ring put linked off apart ne new_one =
    let away = off_tail first x (xs ++ ys) off in
    let parts = off_two x xs ys apart.0 in
    let apart_from : On x ≢ On node = λ same. off_here node x (xs ++ ys) new_one (sym same) in (
      put.afters first (not_last links (On x) xs ys (End ring) first linked.2 (off_head first x (xs ++ ys) off) (off_front first xs ys away)) ne ∙ linked.0,
      put.befores (On x) (not_head x ys ring parts.1) apart_from ∙ linked.1,
      linked_with links new (On x) xs node ys ring put linked.2 apart.0 apart.1 apart_from (off_later node x (xs ++ ys) new_one),
    )
