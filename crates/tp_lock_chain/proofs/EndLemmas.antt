-- Ends of which only some were written.
use Rattle.std.proofs.Common.{◌≡◌, ◌<◌, ◌≤◌, ◌+◌, ◌++◌, ℕ, zero, suc, List, [], ◌∷◌, length, replicate, get_or, slice_get, slice_set, Option, None, Some, ap, refl, sym, ◌∙◌, arith}
use Rattle.std.specs.Option.{option_flatten}
use Rattle.std.proofs.lemmas.List.{get_or_append_left, length-append, set_past}
use Rattle.std.proofs.lemmas.List.FromFn.{map-range_with_len_more}
use Rattle.tp_lock_chain.specs.declared.links.Pair.{Pair}
use Rattle.tp_lock_chain.specs.mirrors.Ends.{end_or_lone, ends, filled, lone, lone_from}
use Rattle.tp_lock_chain.specs.mirrors.Links.{nowhere}

-- ---- how many they are

long : (start : ℕ) (places : List (Option Pair)) → length (filled start places) ≡ length places
long start [] = refl
long start (place ∷ places) = ap suc (long (start + 1) places)

long_whole : (places : List (Option Pair)) (last : Pair) → length (filled 0 places ++ last ∷ []) ≡ length places + 1
long_whole places last =
    let both = length-append (filled 0 places) (last ∷ []) in
    omega (arith, both, long 0 places)

-- ---- none is written

none_filled : (start count : ℕ) → filled start (replicate count None) ≡ lone_from start count
none_filled start zero = refl
none_filled start (suc count) = ap (λ (pairs : List Pair). lone start ∷ pairs) (none_filled (start + 1) count)

pub none_written : (count : ℕ) → filled 0 (replicate count None) ++ lone count ∷ [] ≡ ends (count + 1)
none_written count =
    ap (λ (pairs : List Pair). pairs ++ lone count ∷ []) (none_filled 0 count) ∙ sym (map-range_with_len_more lone 0 count count (omega arith))

-- ---- reads

-- what stands at a place, or else the end with no node
pub filled_get : (start : ℕ) (places : List (Option Pair)) (ring : ℕ) → ring < length places → get_or (filled start places) ring nowhere ≡ end_or_lone (start + ring) (option_flatten (slice_get places ring))
filled_get start [] ring within = absurd (omega (arith, within))
filled_get start (place ∷ places) zero within =
    let same : start ≡ start + 0 = omega arith in
    ap (λ n. end_or_lone n place) same
filled_get start (place ∷ places) (suc ring) within =
    let same : (start + 1) + ring ≡ start + suc ring = omega arith in
    filled_get (start + 1) places ring (omega (arith, within)) ∙ ap (λ n. end_or_lone n (option_flatten (slice_get places ring))) same

pub stands_within : (places : List (Option Pair)) (ring : ℕ) (pair : Pair) → Some pair ≡ option_flatten (slice_get places ring) → ring < length places
stands_within [] ring pair stands = absurd (cc)
stands_within (place ∷ places) zero pair stands = omega arith
stands_within (place ∷ places) (suc ring) pair stands = let within = stands_within places ring pair stands in omega (arith, within)

pub read_filled : (places : List (Option Pair)) (ring : ℕ) (last : Pair) → ring < length places → end_or_lone ring (option_flatten (slice_get places ring)) ≡ get_or (filled 0 places ++ last ∷ []) ring nowhere
read_filled places ring last within =
    let short : ring < length (filled 0 places) = let is = long 0 places in omega (arith, is, within) in
    let same : 0 + ring ≡ ring = omega arith in
    sym (get_or_append_left (filled 0 places) (last ∷ []) nowhere ring short
    ∙ filled_get 0 places ring within
    ∙ ap (λ n. end_or_lone n (option_flatten (slice_get places ring))) same)

nth_more : (xs : List Pair) (x : Pair) (i : ℕ) → length xs ≡ i → get_or (xs ++ x ∷ []) i nowhere ≡ x
nth_more [] x zero same = refl
nth_more [] x (suc i) same = absurd (omega (arith, same))
nth_more (y ∷ xs) x zero same = absurd (omega (arith, same))
nth_more (y ∷ xs) x (suc i) same = nth_more xs x i (omega (arith, same))

nth_past : (xs : List Pair) (i : ℕ) → length xs ≤ i → get_or xs i nowhere ≡ nowhere
nth_past [] i past = refl
nth_past (x ∷ xs) zero past = absurd (omega (arith, past))
nth_past (x ∷ xs) (suc i) past = nth_past xs i (omega (arith, past))

pub read_last : (places : List (Option Pair)) (ring : ℕ) (last : Pair) → length places ≡ ring → last ≡ get_or (filled 0 places ++ last ∷ []) ring nowhere
read_last places ring last all = sym (nth_more (filled 0 places) last ring (long 0 places ∙ all))

pub read_past : (places : List (Option Pair)) (ring : ℕ) (last : Pair) → length places < ring → nowhere ≡ get_or (filled 0 places ++ last ∷ []) ring nowhere
read_past places ring last over = sym (nth_past (filled 0 places ++ last ∷ []) ring (omega (arith, long_whole places last, over)))

-- ---- writes

set_front : (front rest : List Pair) (i : ℕ) (pair : Pair) → i < length front → slice_set (front ++ rest) i pair ≡ slice_set front i pair ++ rest
set_front [] rest i pair within = absurd (omega (arith, within))
set_front (first ∷ front) rest zero pair within = refl
set_front (first ∷ front) rest (suc i) pair within = ap (λ (pairs : List Pair). first ∷ pairs) (set_front front rest i pair (omega (arith, within)))

set_end : (xs : List Pair) (last pair : Pair) (i : ℕ) → length xs ≡ i → slice_set (xs ++ last ∷ []) i pair ≡ xs ++ pair ∷ []
set_end [] last pair zero same = refl
set_end [] last pair (suc i) same = absurd (omega (arith, same))
set_end (x ∷ xs) last pair zero same = absurd (omega (arith, same))
set_end (x ∷ xs) last pair (suc i) same = ap (λ (pairs : List Pair). x ∷ pairs) (set_end xs last pair i (omega (arith, same)))

filled_set : (start : ℕ) (places : List (Option Pair)) (ring : ℕ) (pair : Pair) → filled start (slice_set places ring (Some pair)) ≡ slice_set (filled start places) ring pair
filled_set start [] ring pair = refl
filled_set start (place ∷ places) zero pair = refl
filled_set start (place ∷ places) (suc ring) pair = ap (λ (pairs : List Pair). end_or_lone start place ∷ pairs) (filled_set (start + 1) places ring pair)

pub set_written : (places : List (Option Pair)) (ring : ℕ) (last pair : Pair) → ring < length places → filled 0 (slice_set places ring (Some pair)) ++ last ∷ [] ≡ slice_set (filled 0 places ++ last ∷ []) ring pair
set_written places ring last pair within =
    let short : ring < length (filled 0 places) = let is = long 0 places in omega (arith, is, within) in
    ap (λ (pairs : List Pair). pairs ++ last ∷ []) (filled_set 0 places ring pair) ∙ sym (set_front (filled 0 places) (last ∷ []) ring pair short)

pub set_last : (places : List (Option Pair)) (ring : ℕ) (last pair : Pair) → length places ≡ ring → filled 0 places ++ pair ∷ [] ≡ slice_set (filled 0 places ++ last ∷ []) ring pair
set_last places ring last pair all = sym (set_end (filled 0 places) last pair ring (long 0 places ∙ all))

pub set_over : (places : List (Option Pair)) (ring : ℕ) (last pair : Pair) → length places < ring → filled 0 places ++ last ∷ [] ≡ slice_set (filled 0 places ++ last ∷ []) ring pair
set_over places ring last pair over =
    sym (set_past (filled 0 places ++ last ∷ []) ring pair (omega (arith, long_whole places last, over)))
