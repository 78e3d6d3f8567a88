-- Laws of places that stand in memory from a first one on.
use Rattle.std.proofs.Common.{◌≡◌, ℕ, zero, suc, ◌+◌, ◌-◌, ◌<◌, ◌≤◌, List, [], ◌∷◌, ◌++◌, length, replicate, slice_set, take, drop, cond, ltb, Bool, true, false, Option, None, refl, sym, ap, ap₂, ◌∙◌, arith}
use Rattle.std.proofs.lemmas.Bool.{ltb-false, ltb-true}
use Rattle.std.proofs.lemmas.List.{drop-replicate, length-drop, replicate-append-replicate, take-replicate}
use Rattle.tp_places.specs.Padded.{padded}
use Rattle.tp_places.specs.Turned.{place_of, turned}
use Rattle.tp_places.proofs.PaddedLemmas.{set_before}

-- ---- empty places

pub none_turned : {A : Type 0} (count first : ℕ) → first ≤ count → turned (count - first) (padded {A = A} [] count) ≡ replicate count None
none_turned {A} count first within =
    let behind = count - first in
    let all : count - 0 ≡ count = omega arith in
    let few : behind ≤ count = omega (arith, within) in
    let whole : (count - behind) + behind ≡ count = omega (arith, within) in
    ap (λ n. turned behind (replicate {A = Option A} n None)) all
    ∙ ap₂ (λ (front others : List (Option A)). front ++ others) (drop-replicate behind count None) (take-replicate behind count None few)
    ∙ replicate-append-replicate (count - behind) behind None
    ∙ ap (λ n. replicate {A = Option A} n None) whole

-- ---- a place is set

set_behind : {A : Type 0} (front others : List A) (at : ℕ) (value : A) → slice_set (front ++ others) (length front + at) value ≡ front ++ slice_set others at value
set_behind [] others at value = let same : 0 + at ≡ at = omega arith in ap (λ n. slice_set others n value) same
set_behind {A} (place ∷ front) others at value =
    let same : suc (length front) + at ≡ suc (length front + at) = omega arith in
    ap (λ n. slice_set (place ∷ (front ++ others)) n value) same
    ∙ ap (λ (places : List A). place ∷ places) (set_behind front others at value)

-- a place behind those that are taken is set in the rest
drop_set : {A : Type 0} (k : ℕ) (places : List A) (at : ℕ) (value : A) → drop k (slice_set places (k + at) value) ≡ slice_set (drop k places) at value
drop_set zero places at value = let same : 0 + at ≡ at = omega arith in ap (λ n. slice_set places n value) same
drop_set (suc k) [] at value = refl
drop_set (suc k) (place ∷ places) at value =
    let same : suc k + at ≡ suc (k + at) = omega arith in
    ap (λ n. drop (suc k) (slice_set (place ∷ places) n value)) same ∙ drop_set k places at value

take_set_behind : {A : Type 0} (k : ℕ) (places : List A) (at : ℕ) (value : A) → take k (slice_set places (k + at) value) ≡ take k places
take_set_behind zero places at value = refl
take_set_behind (suc k) [] at value = refl
take_set_behind {A} (suc k) (place ∷ places) at value =
    let same : suc k + at ≡ suc (k + at) = omega arith in
    ap (λ n. take (suc k) (slice_set (place ∷ places) n value)) same
    ∙ ap (λ (others : List A). place ∷ others) (take_set_behind k places at value)

-- a place among those that are taken is set there, and the rest stays
drop_set_before : {A : Type 0} (k : ℕ) (places : List A) (at : ℕ) (value : A) → at < k → drop k (slice_set places at value) ≡ drop k places
drop_set_before zero places at value before = absurd (omega (arith, before))
drop_set_before (suc k) [] at value before = refl
drop_set_before (suc k) (place ∷ places) zero value before = refl
drop_set_before (suc k) (place ∷ places) (suc at) value before = drop_set_before k places at value (omega (arith, before))

take_set : {A : Type 0} (k : ℕ) (places : List A) (at : ℕ) (value : A) → at < k → take k (slice_set places at value) ≡ slice_set (take k places) at value
take_set zero places at value before = absurd (omega (arith, before))
take_set (suc k) [] at value before = refl
take_set (suc k) (place ∷ places) zero value before = refl
take_set {A} (suc k) (place ∷ places) (suc at) value before = ap (λ (others : List A). place ∷ others) (take_set k places at value (omega (arith, before)))

-- the front of what is turned has the places before the first one
length_front : {A : Type 0} (count first : ℕ) (places : List A) → length places ≡ count → first ≤ count → length (drop (count - first) places) ≡ first
length_front count first places long within =
    let is = length-drop (count - first) places in omega (arith, is, long, within)

set_turned_at : {A : Type 0} (count first : ℕ) (places : List A) (at : ℕ) (value : A) (b : Bool) → length places ≡ count → first ≤ count → at < count → ltb at first ≡ b
    → turned (count - first) (slice_set places (cond b (count - first + at) (at - first)) value) ≡ slice_set (turned (count - first) places) at value
set_turned_at {A} count first places at value true long within here before =
    let k = count - first in
    let short : at < length (drop k places) = let is = length_front count first places long within in omega (arith, is, ltb-true at first before) in
    ap₂ (λ (one other : List A). one ++ other) (drop_set k places at value) (take_set_behind k places at value)
    ∙ sym (set_before (drop k places) (take k places) at value short)
set_turned_at {A} count first places at value false long within here behind =
    let k = count - first in
    let is = length_front count first places long within in
    let past : first ≤ at = ltb-false at first behind in
    let small : at - first < k = omega (arith, here, past) in
    let place : length (drop k places) + (at - first) ≡ at = omega (arith, is, past) in
    ap₂ (λ (one other : List A). one ++ other) (drop_set_before k places (at - first) value small) (take_set k places (at - first) value small)
    ∙ sym (set_behind (drop k places) (take k places) (at - first) value)
    ∙ ap (λ n. slice_set (turned k places) n value) place

-- a number's place is set where it stands
pub set_turned : {A : Type 0} (count first : ℕ) (places : List A) (at : ℕ) (value : A) → length places ≡ count → first ≤ count → at < count
    → turned (count - first) (slice_set places (place_of count first at) value) ≡ slice_set (turned (count - first) places) at value
set_turned count first places at value long within here = set_turned_at count first places at value (ltb at first) long within here refl
