-- Links of a ring: a node is taken out, or put at the end, by two changes each way.
use Rattle.std.proofs.Common.{◌≡◌, ℕ, zero, suc, ◌+◌, ◌<◌, ◌≤◌, Bool, List, [], ◌∷◌, ◌++◌, length, slice_get, slice_set, take, true, false, Some, refl, subst, sym, ◌∙◌, ap, arith}
use Rattle.std.proofs.lemmas.Option.{slice_get_within}
use Rattle.std.proofs.lemmas.List.{length-append}
use Rattle.tp_pending.specs.Flags.{marked}
use Rattle.tp_pending.specs.mirrors.Ring.{Leads, LeadsBack}

-- ---- links and changes

set_at : (links : List ℕ) (at to : ℕ) → at < length links → slice_get (slice_set links at to) at ≡ Some to
set_at [] at to h = absurd (omega (arith, h))
set_at (x ∷ links) zero to h = refl
set_at (x ∷ links) (suc at) to h = set_at links at to (omega (arith, h))

set_elsewhere : (links : List ℕ) (at other to : ℕ) → (at ≡ other → ⊥) → slice_get (slice_set links at to) other ≡ slice_get links other
set_elsewhere [] at other to h = refl
set_elsewhere (x ∷ links) zero zero to h = absurd (h refl)
set_elsewhere (x ∷ links) zero (suc other) to h = refl
set_elsewhere (x ∷ links) (suc at) zero to h = refl
set_elsewhere (x ∷ links) (suc at) (suc other) to h = set_elsewhere links at other to (λ e. h (ap suc e))

-- ---- nodes that differ

-- the node is none of these
abbrev pub Misses : ℕ → List ℕ → Type 0
Misses node [] = Unit {0}
Misses node (other ∷ others) = (node ≡ other → ⊥) × Misses node others

-- no two are the same
abbrev pub Apart : List ℕ → Type 0
Apart [] = Unit {0}
Apart (node ∷ others) = Misses node others × Apart others

misses_front : (node : ℕ) (one two : List ℕ) → Misses node (one ++ two) → Misses node one
misses_front node [] two h = tt
misses_front node (x ∷ one) two h = (h.0, misses_front node one two h.1)

misses_rest : (node : ℕ) (one two : List ℕ) → Misses node (one ++ two) → Misses node two
misses_rest node [] two h = h
misses_rest node (x ∷ one) two h = misses_rest node one two h.1

-- numbers that rise differ
rising_misses : (node first : ℕ) (flags : List Bool) → node < first → Misses node (marked first flags)
rising_misses node first [] h = tt
rising_misses node first (true ∷ flags) h = (λ e. omega (arith, h, e), rising_misses node (first + 1) flags (omega (arith, h)))
rising_misses node first (false ∷ flags) h = rising_misses node (first + 1) flags (omega (arith, h))

pub rising_apart : (first : ℕ) (flags : List Bool) → Apart (marked first flags)
rising_apart first [] = tt
rising_apart first (true ∷ flags) = (rising_misses first (first + 1) flags (omega arith), rising_apart (first + 1) flags)
rising_apart first (false ∷ flags) = rising_apart (first + 1) flags

-- the end of the ring is none of them
pub ends_apart : (flags : List Bool) → Apart (0 ∷ marked 1 flags)
ends_apart flags = (rising_misses 0 1 flags (omega arith), rising_apart 1 flags)

-- ---- the last and the first of some nodes

abbrev pub last_of : ℕ → List ℕ → ℕ
last_of from [] = from
last_of from (node ∷ nodes) = last_of node nodes

abbrev pub first_of : List ℕ → ℕ → ℕ
first_of [] to = to
first_of (node ∷ nodes) to = node

misses_last : (node from : ℕ) (nodes : List ℕ) → (node ≡ from → ⊥) → Misses node nodes → node ≡ last_of from nodes → ⊥
misses_last node from [] h others e = h e
misses_last node from (x ∷ nodes) h others e = misses_last node x nodes others.0 others.1 e

misses_first : (node to : ℕ) (nodes : List ℕ) → (node ≡ to → ⊥) → Misses node nodes → node ≡ first_of nodes to → ⊥
misses_first node to [] h others e = h e
misses_first node to (x ∷ nodes) h others e = others.0 e

-- ---- ahead

leads_elsewhere : (links : List ℕ) (at new from : ℕ) (nodes : List ℕ) (to : ℕ) → (at ≡ from → ⊥) → Misses at nodes → Leads links from nodes to → Leads (slice_set links at new) from nodes to
leads_elsewhere links at new from [] to h others l = set_elsewhere links at from new h ∙ l
leads_elsewhere links at new from (node ∷ nodes) to h others l = (set_elsewhere links at from new h ∙ l.0, leads_elsewhere links at new node nodes to others.0 others.1 l.1)

-- what is linked to a node is what stands behind it
pub next_is : (links : List ℕ) (from : ℕ) (front : List ℕ) (node : ℕ) (rest : List ℕ) (to : ℕ) → Leads links from (front ++ node ∷ rest) to → slice_get links node ≡ Some (first_of rest to)
next_is links from [] node [] to l = l.1
next_is links from [] node (x ∷ rest) to l = l.1.0
next_is links from (x ∷ front) node rest to l = next_is links x front node rest to l.1

-- the node before is linked to the one behind, and the node is out
pub ahead_without : (links : List ℕ) (from : ℕ) (front : List ℕ) (node : ℕ) (rest : List ℕ) (to : ℕ) → Apart (from ∷ (front ++ node ∷ rest)) → Leads links from (front ++ node ∷ rest) to
    → Leads (slice_set links (last_of from front) (first_of rest to)) from (front ++ rest) to
ahead_without links from [] node [] to apart l = set_at links from to (slice_get_within links from node l.0)
ahead_without links from [] node (x ∷ rest) to apart l =
    (set_at links from x (slice_get_within links from node l.0), leads_elsewhere links from x x rest to apart.0.1.0 apart.0.1.1 l.1.1)
ahead_without links from (x ∷ front) node rest to apart l =
    let other : last_of x front ≡ from → ⊥ = λ e. misses_last from x front apart.0.0 (misses_front from front (node ∷ rest) apart.0.1) (sym e) in
    (set_elsewhere links (last_of x front) from (first_of rest to) other ∙ l.0, ahead_without links x front node rest to apart.1 l.1)

-- a node is put behind the last
pub ahead_with : (links : List ℕ) (from : ℕ) (nodes : List ℕ) (node to : ℕ) → Apart (from ∷ nodes) → Misses node (from ∷ nodes) → node < length links → Leads links from nodes to
    → Leads (slice_set (slice_set links node to) (last_of from nodes) node) from (nodes ++ node ∷ []) to
ahead_with links from [] node to apart new within l =
    let longer : from < length (slice_set links node to) = slice_get_within (slice_set links node to) from to (set_elsewhere links node from to new.0 ∙ l) in
    (set_at (slice_set links node to) from node longer, set_elsewhere (slice_set links node to) from node node (λ e. new.0 (sym e)) ∙ set_at links node to within)
ahead_with links from (x ∷ nodes) node to apart new within l =
    let other : last_of x nodes ≡ from → ⊥ = λ e. misses_last from x nodes apart.0.0 apart.0.1 (sym e) in
    (set_elsewhere (slice_set links node to) (last_of x nodes) from node other ∙ (set_elsewhere links node from to new.0 ∙ l.0), ahead_with links x nodes node to apart.1 new.1 within l.1)

-- ---- back

back_elsewhere : (links : List ℕ) (at new from : ℕ) (nodes : List ℕ) (to : ℕ) → (at ≡ to → ⊥) → Misses at nodes → LeadsBack links from nodes to → LeadsBack (slice_set links at new) from nodes to
back_elsewhere links at new from [] to h others l = set_elsewhere links at to new h ∙ l
back_elsewhere links at new from (node ∷ nodes) to h others l = (set_elsewhere links at node new others.0 ∙ l.0, back_elsewhere links at new node nodes to h others.1 l.1)

pub last_is : (links : List ℕ) (from : ℕ) (nodes : List ℕ) (to : ℕ) → LeadsBack links from nodes to → slice_get links to ≡ Some (last_of from nodes)
last_is links from [] to l = l
last_is links from (x ∷ nodes) to l = last_is links x nodes to l.1

pub before_is : (links : List ℕ) (from : ℕ) (front : List ℕ) (node : ℕ) (rest : List ℕ) (to : ℕ) → LeadsBack links from (front ++ node ∷ rest) to → slice_get links node ≡ Some (last_of from front)
before_is links from [] node rest to l = l.0
before_is links from (x ∷ front) node rest to l = before_is links x front node rest to l.1

pub back_without : (links : List ℕ) (from : ℕ) (front : List ℕ) (node : ℕ) (rest : List ℕ) (to : ℕ) → Apart (front ++ node ∷ rest) → Misses to (front ++ node ∷ rest) → LeadsBack links from (front ++ node ∷ rest) to
    → LeadsBack (slice_set links (first_of rest to) (last_of from front)) from (front ++ rest) to
back_without links from [] node [] to apart ends l = set_at links to from (slice_get_within links to node l.1)
back_without links from [] node (x ∷ rest) to apart ends l =
    (set_at links x from (slice_get_within links x node l.1.0), back_elsewhere links x from x rest to (λ e. ends.1.0 (sym e)) apart.1.0 l.1.1)
back_without links from (x ∷ front) node rest to apart ends l =
    let other : first_of rest to ≡ x → ⊥ = λ e. misses_first x to rest (λ f. ends.0 (sym f)) (misses_rest x front (node ∷ rest) apart.0).1 (sym e) in
    (set_elsewhere links (first_of rest to) x (last_of x front) other ∙ l.0, back_without links x front node rest to apart.1 ends.1 l.1)

pub back_with : (links : List ℕ) (from : ℕ) (nodes : List ℕ) (node to : ℕ) → Misses node nodes → Misses to nodes → (node ≡ to → ⊥) → node < length links → to < length links → LeadsBack links from nodes to
    → LeadsBack (slice_set (slice_set links node (last_of from nodes)) to node) from (nodes ++ node ∷ []) to
back_with links from [] node to new ends apart within there l =
    (set_elsewhere (slice_set links node from) to node node (λ e. apart (sym e)) ∙ set_at links node from within, set_at (slice_set links node from) to node (set_within links node from to there))
  where
    set_within : (xs : List ℕ) (at v k : ℕ) → k < length xs → k < length (slice_set xs at v)
    set_within [] at v k h = h
    set_within (x ∷ xs) zero v k h = h
    set_within (x ∷ xs) (suc at) v zero h = omega arith
    set_within (x ∷ xs) (suc at) v (suc k) h = omega (arith, set_within xs at v k (omega (arith, h)))
back_with links from (x ∷ nodes) node to new ends apart within there l =
    let one : to ≡ x → ⊥ = ends.0 in
    (set_elsewhere (slice_set links node (last_of x nodes)) to x node one ∙ (set_elsewhere links node x (last_of x nodes) new.0 ∙ l.0), back_with links x nodes node to new.1 ends.1 apart within there l.1)

-- ---- one link more at the end

get_more : (links : List ℕ) (more at : ℕ) (to : ℕ) → slice_get links at ≡ Some to → slice_get (links ++ more ∷ []) at ≡ Some to
get_more [] more at to e = absurd (cc)
get_more (x ∷ links) more zero to e = e
get_more (x ∷ links) more (suc at) to e = get_more links more at to e

leads_more : (links : List ℕ) (more from : ℕ) (nodes : List ℕ) (to : ℕ) → Leads links from nodes to → Leads (links ++ more ∷ []) from nodes to
leads_more links more from [] to l = get_more links more from to l
leads_more links more from (x ∷ nodes) to l = (get_more links more from x l.0, leads_more links more x nodes to l.1)

back_more : (links : List ℕ) (more from : ℕ) (nodes : List ℕ) (to : ℕ) → LeadsBack links from nodes to → LeadsBack (links ++ more ∷ []) from nodes to
back_more links more from [] to l = get_more links more to from l
back_more links more from (x ∷ nodes) to l = (get_more links more x from l.0, back_more links more x nodes to l.1)

set_last : (links : List ℕ) (more : ℕ) → slice_set (links ++ more ∷ []) (length links) more ≡ links ++ more ∷ []
set_last [] more = refl
set_last (x ∷ links) more = ap (λ (others : List ℕ). x ∷ others) (set_last links more)

-- the last node is linked to one more
pub ahead_posted : (links : List ℕ) (from : ℕ) (nodes : List ℕ) (to : ℕ) → Apart (from ∷ nodes) → Misses (length links) (from ∷ nodes) → Leads links from nodes to
    → Leads (slice_set (links ++ to ∷ []) (last_of from nodes) (length links)) from (nodes ++ length links ∷ []) to
ahead_posted links from nodes to apart new l =
    let long : length (links ++ to ∷ []) ≡ length links + 1 = length-append links (to ∷ []) in
    subst (λ (held : List ℕ). Leads (slice_set held (last_of from nodes) (length links)) from (nodes ++ length links ∷ []) to) (set_last links to)
    (ahead_with (links ++ to ∷ []) from nodes (length links) to apart new (omega (arith, long)) (leads_more links to from nodes to l))

pub back_posted : (links : List ℕ) (from : ℕ) (nodes : List ℕ) (to : ℕ) → Misses (length links) nodes → Misses to nodes → (length links ≡ to → ⊥) → to < length links → LeadsBack links from nodes to
    → LeadsBack (slice_set (links ++ last_of from nodes ∷ []) to (length links)) from (nodes ++ length links ∷ []) to
back_posted links from nodes to new ends apart within l =
    let long : length (links ++ last_of from nodes ∷ []) ≡ length links + 1 = length-append links (last_of from nodes ∷ []) in
    subst (λ (held : List ℕ). LeadsBack (slice_set held to (length links)) from (nodes ++ length links ∷ []) to) (set_last links (last_of from nodes))
    (back_with (links ++ last_of from nodes ∷ []) from nodes (length links) to new ends apart (omega (arith, long)) (omega (arith, long, within)) (back_more links (last_of from nodes) from nodes to l))

-- ---- links that are cut off at the end

-- the nodes stand before a place
abbrev pub AllBefore : ℕ → List ℕ → Type 0
AllBefore place [] = Unit {0}
AllBefore place (node ∷ nodes) = (node < place) × AllBefore place nodes

pub marked_before : (first place : ℕ) (flags : List Bool) → first + length flags ≤ place → AllBefore place (marked first flags)
marked_before first place [] h = tt
marked_before first place (true ∷ flags) h = (omega (arith, h), marked_before (first + 1) place flags (omega (arith, h)))
marked_before first place (false ∷ flags) h = marked_before (first + 1) place flags (omega (arith, h))

get_front : (count at : ℕ) (links : List ℕ) → at < count → slice_get (take count links) at ≡ slice_get links at
get_front zero at links h = absurd (omega (arith, h))
get_front (suc count) at [] h = refl
get_front (suc count) zero (x ∷ links) h = refl
get_front (suc count) (suc at) (x ∷ links) h = get_front count at links (omega (arith, h))

pub leads_cut : (count : ℕ) (links : List ℕ) (from : ℕ) (nodes : List ℕ) (to : ℕ) → from < count → AllBefore count nodes → Leads links from nodes to → Leads (take count links) from nodes to
leads_cut count links from [] to h others l = get_front count from links h ∙ l
leads_cut count links from (x ∷ nodes) to h others l = (get_front count from links h ∙ l.0, leads_cut count links x nodes to others.0 others.1 l.1)

pub back_cut : (count : ℕ) (links : List ℕ) (from : ℕ) (nodes : List ℕ) (to : ℕ) → to < count → AllBefore count nodes → LeadsBack links from nodes to → LeadsBack (take count links) from nodes to
back_cut count links from [] to h others l = get_front count to links h ∙ l
back_cut count links from (x ∷ nodes) to h others l = (get_front count x links others.0 ∙ l.0, back_cut count links x nodes to h others.1 l.1)
