-- The ring of the nodes of pending numbers, through what calls do to it.
use Rattle.std.proofs.Common.{◌≡◌, ℕ, zero, suc, ◌+◌, ◌-◌, ◌<◌, ◌≤◌, Bool, List, [], ◌∷◌, ◌++◌, length, map, get_or, slice_get, slice_set, take, true, false, Some, None, Option, unwrap_or, refl, subst, sym, ◌∙◌, ap, arith}
use Rattle.std.proofs.lemmas.List.{length-append, length-set, length-map}
use Rattle.tp_pending.proofs.FlagLemmas.{marked-last, marked-more, marked-next, splits}
use Rattle.tp_pending.proofs.LinkLemmas.{AllBefore, Apart, Misses, ahead_posted, ahead_without, back_cut, back_posted, back_without, before_is, ends_apart, first_of, last_is, last_of, leads_cut, marked_before, next_is}
use Rattle.tp_pending.specs.Flags.{marked}
use Rattle.tp_pending.specs.declared.nodes.Node.{Node}
use Rattle.tp_pending.specs.mirrors.Ring.{IsRing, Leads, LeadsBack, end_alone, flags_of, is_pending_in, link_after, link_before, node_at, nodes_of, with_after, with_before, with_done, with_last, without}

-- ---- reading a list at a place that it may not have

pub read_none : {A : Type 0} (xs : List A) (at : ℕ) (default : A) → None ≡ slice_get xs at → get_or xs at default ≡ default
read_none [] at default none = refl
read_none (x ∷ xs) zero default none = cc
read_none (x ∷ xs) (suc at) default none = read_none xs at default none

pub read_some : {A : Type 0} (xs : List A) (at : ℕ) (default x : A) → Some x ≡ slice_get xs at → get_or xs at default ≡ x
read_some [] at default x some = cc
read_some (y ∷ xs) zero default x some = cc
read_some (y ∷ xs) (suc at) default x some = read_some xs at default x some

pub read_past : {A : Type 0} (xs : List A) (at : ℕ) → None ≡ slice_get xs at → length xs ≤ at
read_past [] at none = omega arith
read_past (x ∷ xs) zero none = absurd (cc)
read_past (x ∷ xs) (suc at) none = omega (arith, read_past xs at none)

-- ---- what a change of a node leaves of all

map_set : {A : Type 0} (f : Node → A) (nodes : List Node) (at : ℕ) (node : Node) → map f (slice_set nodes at node) ≡ slice_set (map f nodes) at (f node)
map_set f [] at node = refl
map_set f (x ∷ nodes) zero node = refl
map_set {A} f (x ∷ nodes) (suc at) node = ap (λ (others : List A). f x ∷ others) (map_set f nodes at node)

map_kept : {A : Type 0} (f : Node → A) (nodes : List Node) (at : ℕ) (node : Node) → f node ≡ f (node_at nodes at) → map f (slice_set nodes at node) ≡ map f nodes
map_kept f [] at node e = refl
map_kept {A} f (x ∷ nodes) zero node e = ap (λ (a : A). a ∷ map f nodes) e
map_kept {A} f (x ∷ nodes) (suc at) node e = ap (λ (others : List A). f x ∷ others) (map_kept f nodes at node e)

flags_kept : (nodes : List Node) (at : ℕ) (node : Node) → is_pending_in node ≡ is_pending_in (node_at nodes at) → flags_of (slice_set nodes at node) ≡ flags_of nodes
flags_kept [] at node e = refl
flags_kept (end ∷ nodes) zero node e = refl
flags_kept (end ∷ nodes) (suc at) node e = map_kept is_pending_in nodes at node e

flags_done : (nodes : List Node) (number : ℕ) → flags_of (with_done (suc number) nodes) ≡ slice_set (flags_of nodes) number false
flags_done [] number = refl
flags_done (end ∷ nodes) number = map_set is_pending_in nodes number (record (node_at nodes number) { pending = false })

read_map : (f : Node → ℕ) (nodes : List Node) (at : ℕ) → f end_alone ≡ 0 → f (node_at nodes at) ≡ unwrap_or (slice_get (map f nodes) at) 0
read_map f [] at e = e
read_map f (x ∷ nodes) zero e = refl
read_map f (x ∷ nodes) (suc at) e = read_map f nodes at e

pub flags_long : (nodes : List Node) → 0 < length nodes → length nodes ≡ length (flags_of nodes) + 1
flags_long [] h = absurd (omega (arith, h))
flags_long (end ∷ nodes) h = omega (arith, length-map nodes is_pending_in)

-- a number behind all is none of them
past_misses : (first : ℕ) (flags : List Bool) → Misses (first + length flags) (marked first flags)
past_misses first [] = tt
past_misses first (true ∷ flags) =
    let same : (first + 1) + length flags ≡ first + suc (length flags) = omega arith in
    (λ e. omega (arith, e), subst (λ (n : ℕ). Misses n (marked (first + 1) flags)) same (past_misses (first + 1) flags))
past_misses first (false ∷ flags) =
    let same : (first + 1) + length flags ≡ first + suc (length flags) = omega arith in
    subst (λ (n : ℕ). Misses n (marked (first + 1) flags)) same (past_misses (first + 1) flags)

-- ---- a number is taken out

suc_more : (number : ℕ) → suc number ≡ number + 1
suc_more number = omega arith

flags_without : (nodes : List Node) (number : ℕ) (node : Node) → flags_of (without (suc number) node nodes) ≡ slice_set (flags_of nodes) number false
flags_without nodes number node =
    let one = with_after node.before node.after nodes in
    let two = with_before node.after node.before one in
    flags_done two number
    ∙ ap (λ (flags : List Bool). slice_set flags number false)
    (flags_kept one node.after (record (node_at one node.after) { before = node.before }) refl ∙ flags_kept nodes node.before (record (node_at nodes node.before) { after = node.after }) refl)

pub taken_flags : (nodes : List Node) (number : ℕ) (node : Node) → flags_of (without (number + 1) node nodes) ≡ slice_set (flags_of nodes) number false
taken_flags nodes number node = subst (λ (at : ℕ). flags_of (without at node nodes) ≡ slice_set (flags_of nodes) number false) (suc_more number) (flags_without nodes number node)

taken_after : (nodes : List Node) (at : ℕ) (node : Node) → map link_after (without at node nodes) ≡ slice_set (map link_after nodes) node.before node.after
taken_after nodes at node =
    let one = with_after node.before node.after nodes in
    let two = with_before node.after node.before one in
    map_kept link_after two at (record (node_at two at) { pending = false }) refl
    ∙ (map_kept link_after one node.after (record (node_at one node.after) { before = node.before }) refl
    ∙ map_set link_after nodes node.before (record (node_at nodes node.before) { after = node.after }))

taken_before : (nodes : List Node) (at : ℕ) (node : Node) → map link_before (without at node nodes) ≡ slice_set (map link_before nodes) node.after node.before
taken_before nodes at node =
    let one = with_after node.before node.after nodes in
    let two = with_before node.after node.before one in
    map_kept link_before two at (record (node_at two at) { pending = false }) refl
    ∙ (map_set link_before one node.after (record (node_at one node.after) { before = node.before })
    ∙ ap (λ (links : List ℕ). slice_set links node.after node.before) (map_kept link_before nodes node.before (record (node_at nodes node.before) { after = node.after }) refl))

long_without : (nodes : List Node) (at : ℕ) (node : Node) → length (without at node nodes) ≡ length nodes
long_without nodes at node =
    let one = with_after node.before node.after nodes in
    let two = with_before node.after node.before one in
    length-set two at (record (node_at two at) { pending = false })
    ∙ (length-set one node.after (record (node_at one node.after) { before = node.before })
    ∙ length-set nodes node.before (record (node_at nodes node.before) { after = node.after }))

-- the number of a node that is pending
ring_without : (nodes : List Node) (number : ℕ) (node : Node) → slice_get (flags_of nodes) number ≡ Some true → node ≡ node_at nodes (suc number) → IsRing nodes → IsRing (without (suc number) node nodes)
ring_without nodes number node e is h =
    let flags : List Bool = flags_of nodes in
    let after : List ℕ = map link_after nodes in
    let before : List ℕ = map link_before nodes in
    let s = splits 1 flags number e in
    let own : suc number ≡ 1 + number = omega arith in
    let ahead : Leads after 0 (s.front ++ (1 + number) ∷ s.rest) 0 = subst (λ (ns : List ℕ). Leads after 0 ns 0) s.whole h.ahead in
    let back : LeadsBack before 0 (s.front ++ (1 + number) ∷ s.rest) 0 = subst (λ (ns : List ℕ). LeadsBack before 0 ns 0) s.whole h.back in
    let apart : Apart (0 ∷ (s.front ++ (1 + number) ∷ s.rest)) = subst (λ (ns : List ℕ). Apart (0 ∷ ns)) s.whole (ends_apart flags) in
    let next_there : node.after ≡ first_of s.rest 0 = ap link_after is ∙ (read_map link_after nodes (suc number) refl ∙ ap (λ (k : ℕ). unwrap_or (slice_get after k) 0) own ∙ ap (λ (o : Option ℕ). unwrap_or o 0) (next_is after 0 s.front (1 + number) s.rest 0 ahead)) in
    let last_there : node.before ≡ last_of 0 s.front = ap link_before is ∙ (read_map link_before nodes (suc number) refl ∙ ap (λ (k : ℕ). unwrap_or (slice_get before k) 0) own ∙ ap (λ (o : Option ℕ). unwrap_or o 0) (before_is before 0 s.front (1 + number) s.rest 0 back)) in
    let left : nodes_of (flags_of (without (suc number) node nodes)) ≡ s.front ++ s.rest = ap nodes_of (flags_without nodes number node) ∙ s.without in
    record {
      ended = omega (arith, h.ended, long_without nodes (suc number) node);
      ahead = subst (λ (ns : List ℕ). Leads (map link_after (without (suc number) node nodes)) 0 ns 0) (sym left)
          (subst (λ (links : List ℕ). Leads links 0 (s.front ++ s.rest) 0) (sym (taken_after nodes (suc number) node))
          (subst (λ (k : ℕ). Leads (slice_set after node.before k) 0 (s.front ++ s.rest) 0) (sym next_there)
          (subst (λ (k : ℕ). Leads (slice_set after k (first_of s.rest 0)) 0 (s.front ++ s.rest) 0) (sym last_there)
          (ahead_without after 0 s.front (1 + number) s.rest 0 apart ahead))));
      back = subst (λ (ns : List ℕ). LeadsBack (map link_before (without (suc number) node nodes)) 0 ns 0) (sym left)
          (subst (λ (links : List ℕ). LeadsBack links 0 (s.front ++ s.rest) 0) (sym (taken_before nodes (suc number) node))
          (subst (λ (k : ℕ). LeadsBack (slice_set before node.after k) 0 (s.front ++ s.rest) 0) (sym last_there)
          (subst (λ (k : ℕ). LeadsBack (slice_set before k (last_of 0 s.front)) 0 (s.front ++ s.rest) 0) (sym next_there)
          (back_without before 0 s.front (1 + number) s.rest 0 apart.1 apart.0 back))));
    }

pub taken_ring : (nodes : List Node) (number : ℕ) (node : Node) → slice_get (flags_of nodes) number ≡ Some true → node ≡ node_at nodes (number + 1) → IsRing nodes → IsRing (without (number + 1) node nodes)
taken_ring nodes number node e is h =
    subst (λ (at : ℕ). IsRing (without at node nodes)) (suc_more number) (ring_without nodes number node e (is ∙ ap (node_at nodes) (sym (suc_more number))) h)

-- ---- the next number is posted

abbrev pub new_node : ℕ → Node
new_node last = record { pending = true; before = last; after = 0 }

pub posted_flags : (nodes : List Node) (at last : ℕ) → 0 < length nodes → flags_of (with_last at last nodes) ≡ flags_of nodes ++ true ∷ []
posted_flags nodes at last h =
    let one = nodes ++ new_node last ∷ [] in
    let two = with_after last at one in
    flags_kept two 0 (record (node_at two 0) { before = at }) refl
    ∙ (flags_kept one last (record (node_at one last) { after = at }) refl ∙ flags_more nodes h)
  where
    map_more : (others : List Node) → map is_pending_in (others ++ new_node last ∷ []) ≡ map is_pending_in others ++ true ∷ []
    map_more [] = refl
    map_more (x ∷ others) = ap (λ (flags : List Bool). is_pending_in x ∷ flags) (map_more others)

    flags_more : (all : List Node) → 0 < length all → flags_of (all ++ new_node last ∷ []) ≡ flags_of all ++ true ∷ []
    flags_more [] some = absurd (omega (arith, some))
    flags_more (end ∷ others) some = map_more others

map_one_more : (f : Node → ℕ) (nodes : List Node) (node : Node) → map f (nodes ++ node ∷ []) ≡ map f nodes ++ f node ∷ []
map_one_more f [] node = refl
map_one_more f (x ∷ nodes) node = ap (λ (others : List ℕ). f x ∷ others) (map_one_more f nodes node)

posted_after : (nodes : List Node) (at last : ℕ) → map link_after (with_last at last nodes) ≡ slice_set (map link_after nodes ++ 0 ∷ []) last at
posted_after nodes at last =
    let one = nodes ++ new_node last ∷ [] in
    let two = with_after last at one in
    map_kept link_after two 0 (record (node_at two 0) { before = at }) refl
    ∙ (map_set link_after one last (record (node_at one last) { after = at }) ∙ ap (λ (links : List ℕ). slice_set links last at) (map_one_more link_after nodes (new_node last)))

posted_before : (nodes : List Node) (at last : ℕ) → map link_before (with_last at last nodes) ≡ slice_set (map link_before nodes ++ last ∷ []) 0 at
posted_before nodes at last =
    let one = nodes ++ new_node last ∷ [] in
    let two = with_after last at one in
    map_set link_before two 0 (record (node_at two 0) { before = at })
    ∙ ap (λ (links : List ℕ). slice_set links 0 at)
    (map_kept link_before one last (record (node_at one last) { after = at }) refl ∙ map_one_more link_before nodes (new_node last))

pub posted_ring : (nodes : List Node) (last : ℕ) → last ≡ link_before (node_at nodes 0) → IsRing nodes → IsRing (with_last (length nodes) last nodes)
posted_ring nodes last is h =
    let at : ℕ = length nodes in
    let flags : List Bool = flags_of nodes in
    let after : List ℕ = map link_after nodes in
    let before : List ℕ = map link_before nodes in
    let long : at ≡ length flags + 1 = flags_long nodes h.ended in
    let after_long : length after ≡ at = length-map nodes link_after in
    let before_long : length before ≡ at = length-map nodes link_before in
    let last_there : last ≡ last_of 0 (nodes_of flags) = is ∙ (read_map link_before nodes 0 refl ∙ ap (λ (o : Option ℕ). unwrap_or o 0) (last_is before 0 (nodes_of flags) 0 h.back)) in
    let own : 1 + length flags ≡ at = omega (arith, long) in
    let more : nodes_of (flags_of (with_last at last nodes)) ≡ nodes_of flags ++ at ∷ [] =
    ap nodes_of (posted_flags nodes at last h.ended) ∙ (marked-more 1 flags ∙ ap (λ (k : ℕ). nodes_of flags ++ k ∷ []) own) in
    let apart : Apart (0 ∷ nodes_of flags) = ends_apart flags in
    let new : Misses at (nodes_of flags) = subst (λ (k : ℕ). Misses k (nodes_of flags)) own (past_misses 1 flags) in
    let not_end : at ≡ 0 → ⊥ = λ e. omega (arith, e, h.ended) in
    record {
      ended = omega (arith, h.ended, long_posted);
      ahead = subst (λ (ns : List ℕ). Leads (map link_after (with_last at last nodes)) 0 ns 0) (sym more)
          (subst (λ (links : List ℕ). Leads links 0 (nodes_of flags ++ at ∷ []) 0) (sym (posted_after nodes at last))
          (subst (λ (k : ℕ). Leads (slice_set (after ++ 0 ∷ []) k at) 0 (nodes_of flags ++ at ∷ []) 0) (sym last_there)
          (subst (λ (k : ℕ). Leads (slice_set (after ++ 0 ∷ []) (last_of 0 (nodes_of flags)) k) 0 (nodes_of flags ++ k ∷ []) 0) after_long
          (ahead_posted after 0 (nodes_of flags) 0 apart (subst (λ (k : ℕ). Misses k (0 ∷ nodes_of flags)) (sym after_long) (not_end, new)) h.ahead))));
      back = subst (λ (ns : List ℕ). LeadsBack (map link_before (with_last at last nodes)) 0 ns 0) (sym more)
          (subst (λ (links : List ℕ). LeadsBack links 0 (nodes_of flags ++ at ∷ []) 0) (sym (posted_before nodes at last))
          (subst (λ (k : ℕ). LeadsBack (slice_set (before ++ k ∷ []) 0 at) 0 (nodes_of flags ++ at ∷ []) 0) (sym last_there)
          (subst (λ (k : ℕ). LeadsBack (slice_set (before ++ last_of 0 (nodes_of flags) ∷ []) 0 k) 0 (nodes_of flags ++ k ∷ []) 0) before_long
          (back_posted before 0 (nodes_of flags) 0 (subst (λ (k : ℕ). Misses k (nodes_of flags)) (sym before_long) new) apart.0
          (λ e. not_end (sym before_long ∙ e)) (omega (arith, before_long, h.ended)) h.back))));
    }
  where
    long_posted : length (with_last (length nodes) last nodes) ≡ length nodes + 1
    long_posted =
        let one = nodes ++ new_node last ∷ [] in
        let two = with_after last (length nodes) one in
        length-set two 0 (record (node_at two 0) { before = length nodes })
        ∙ (length-set one last (record (node_at one last) { after = length nodes }) ∙ length-append nodes (new_node last ∷ []))

-- ---- the last number, taken, may go

map_front : (f : Node → ℕ) (count : ℕ) (nodes : List Node) → map f (take count nodes) ≡ take count (map f nodes)
map_front f zero nodes = refl
map_front f (suc count) [] = refl
map_front f (suc count) (x ∷ nodes) = ap (λ (others : List ℕ). f x ∷ others) (map_front f count nodes)

pub cut_flags : (nodes : List Node) (count : ℕ) → flags_of (take (suc count) nodes) ≡ take count (flags_of nodes)
cut_flags [] zero = refl
cut_flags [] (suc count) = refl
cut_flags (end ∷ nodes) count = front count nodes
  where
    front : (most : ℕ) (others : List Node) → map is_pending_in (take most others) ≡ take most (map is_pending_in others)
    front zero others = refl
    front (suc most) [] = refl
    front (suc most) (x ∷ others) = ap (λ (flags : List Bool). is_pending_in x ∷ flags) (front most others)

pub cut_ring : (nodes : List Node) (count : ℕ) → flags_of nodes ≡ take count (flags_of nodes) ++ false ∷ [] → length (take count (flags_of nodes)) ≡ count → IsRing nodes → IsRing (take (suc count) nodes)
cut_ring nodes count last long h =
    let left : List Bool = take count (flags_of nodes) in
    let same : nodes_of (flags_of nodes) ≡ nodes_of left = ap nodes_of last ∙ marked-last 1 left in
    let within : AllBefore (suc count) (nodes_of left) = marked_before 1 (suc count) left (omega (arith, long)) in
    record {
      ended = some nodes h.ended;
      ahead = subst (λ (flags : List Bool). Leads (map link_after (take (suc count) nodes)) 0 (nodes_of flags) 0) (sym (cut_flags nodes count))
          (subst (λ (links : List ℕ). Leads links 0 (nodes_of left) 0) (sym (map_front link_after (suc count) nodes))
          (leads_cut (suc count) (map link_after nodes) 0 (nodes_of left) 0 (omega arith) within (subst (λ (ns : List ℕ). Leads (map link_after nodes) 0 ns 0) same h.ahead)));
      back = subst (λ (flags : List Bool). LeadsBack (map link_before (take (suc count) nodes)) 0 (nodes_of flags) 0) (sym (cut_flags nodes count))
          (subst (λ (links : List ℕ). LeadsBack links 0 (nodes_of left) 0) (sym (map_front link_before (suc count) nodes))
          (back_cut (suc count) (map link_before nodes) 0 (nodes_of left) 0 (omega arith) within (subst (λ (ns : List ℕ). LeadsBack (map link_before nodes) 0 ns 0) same h.back)));
    }
  where
    some : (all : List Node) → 0 < length all → 0 < length (take (suc count) all)
    some [] none = absurd (omega (arith, none))
    some (x ∷ all) there = omega arith

-- ---- the first

-- the end is linked to the node of the least number, or to itself where there is none
first_by : (after numbers nodes : List ℕ) → nodes ≡ map suc numbers → Leads after 0 nodes 0 → (node : ℕ) → node ≡ unwrap_or (slice_get after 0) 0 → (numbers ≡ [] → ⊥) → (least : ℕ) × ((slice_get numbers 0 ≡ Some least) × (node ≡ least + 1))
first_by after [] nodes e l node is some = absurd (some refl)
first_by after (least ∷ numbers) [] e l node is some = absurd (cc)
first_by after (least ∷ numbers) (x ∷ nodes) e l node is some =
    let same : x ≡ suc least = cc in
    let linked : node ≡ x = is ∙ ap (λ (o : Option ℕ). unwrap_or o 0) l.0 in
    (least, (refl, omega (arith, same, linked)))

none_by : (after numbers nodes : List ℕ) → nodes ≡ map suc numbers → Leads after 0 nodes 0 → unwrap_or (slice_get after 0) 0 ≡ 0 → numbers ≡ []
none_by after [] nodes e l is = refl
none_by after (least ∷ numbers) [] e l is = absurd (cc)
none_by after (least ∷ numbers) (x ∷ nodes) e l is =
    let same : x ≡ suc least = cc in
    let linked : 0 ≡ x = sym is ∙ ap (λ (o : Option ℕ). unwrap_or o 0) l.0 in
    absurd (omega (arith, same, linked))

pub oldest_none : (nodes : List Node) (node : ℕ) → node ≡ link_after (node_at nodes 0) → node ≡ 0 → IsRing nodes → None ≡ slice_get (marked 0 (flags_of nodes)) 0
oldest_none nodes node is e h =
    sym (ap (λ (ns : List ℕ). slice_get ns 0) (none_by (map link_after nodes) (marked 0 (flags_of nodes)) (nodes_of (flags_of nodes)) (marked-next 0 (flags_of nodes)) h.ahead
    (sym (read_map link_after nodes 0 refl) ∙ (sym is ∙ e))))

pub oldest_some : (nodes : List Node) (node : ℕ) → node ≡ link_after (node_at nodes 0) → (node ≡ 0 → ⊥) → IsRing nodes → Some (node - 1) ≡ slice_get (marked 0 (flags_of nodes)) 0
oldest_some nodes node is other h =
    let linked : node ≡ unwrap_or (slice_get (map link_after nodes) 0) 0 = is ∙ read_map link_after nodes 0 refl in
    let found = first_by (map link_after nodes) (marked 0 (flags_of nodes)) (nodes_of (flags_of nodes)) (marked-next 0 (flags_of nodes)) h.ahead node linked (λ none. other (linked ∙ empty none)) in
    let back : node - 1 ≡ found.0 = omega (arith, found.1.1) in
    ap (λ (n : ℕ). Some n) back ∙ sym found.1.0
  where
    empty : marked 0 (flags_of nodes) ≡ [] → unwrap_or (slice_get (map link_after nodes) 0) 0 ≡ 0
    empty none =
        let same : nodes_of (flags_of nodes) ≡ [] = marked-next 0 (flags_of nodes) ∙ ap (map suc) none in
        ap (λ (o : Option ℕ). unwrap_or o 0) (subst (λ (ns : List ℕ). Leads (map link_after nodes) 0 ns 0) same h.ahead)

-- ---- the flag of a number

pub flag_read : (nodes : List Node) (number : ℕ) → number + 1 < length nodes → slice_get (flags_of nodes) number ≡ Some (node_at nodes (number + 1)).pending
flag_read nodes number h = subst (λ (at : ℕ). slice_get (flags_of nodes) number ≡ Some (node_at nodes at).pending) (suc_more number) (flag_of nodes number (omega (arith, h)))
  where
    at_map : (others : List Node) (at : ℕ) → at < length others → slice_get (map is_pending_in others) at ≡ Some (node_at others at).pending
    at_map [] at none = absurd (omega (arith, none))
    at_map (x ∷ others) zero here = refl
    at_map (x ∷ others) (suc at) there = at_map others at (omega (arith, there))

    flag_of : (all : List Node) (at : ℕ) → suc at < length all → slice_get (flags_of all) at ≡ Some (node_at all (suc at)).pending
    flag_of [] at none = absurd (omega (arith, none))
    flag_of (end ∷ others) at there = at_map others at (omega (arith, there))

pub flag_past : (flags : List Bool) (number : ℕ) → length flags ≤ number → slice_get flags number ≡ None
flag_past [] number h = refl
flag_past (flag ∷ flags) zero h = absurd (omega (arith, h))
flag_past (flag ∷ flags) (suc number) h = flag_past flags number (omega (arith, h))

pub front_long : (count : ℕ) (flags : List Bool) → length flags ≡ count + 1 → length (take count flags) ≡ count
front_long zero flags h = refl
front_long (suc count) [] h = absurd (omega (arith, h))
front_long (suc count) (flag ∷ flags) h = let others = front_long count flags (omega (arith, h)) in omega (arith, others)
