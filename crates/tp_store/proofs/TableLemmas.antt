-- A table of which only the first places were made.
use Rattle.std.proofs.Common.{◌≡◌, ◌<◌, ◌≤◌, ◌-◌, ◌++◌, ℕ, zero, suc, List, [], ◌∷◌, length, replicate, slice_get, slice_set, unwrap_or, ap, refl, sym, ◌∙◌, arith, ⊎_elim}
use Rattle.std.proofs.lemmas.Bool.{cases_lt}
use Rattle.std.proofs.lemmas.List.{length-append, length-replicate, length-set, set_past}
use Rattle.tp_store.specs.declared.writes.TentativeWrite.{TentativeWrite}
use Rattle.tp_store.specs.mirrors.Places.{padded}

abbrev Writes : Type 0
Writes = List TentativeWrite

abbrev nothing : ℕ → List Writes
nothing count = replicate count []

-- ---- reads

none_at : (count i : ℕ) → unwrap_or (slice_get (nothing count) i) [] ≡ []
none_at zero i = refl
none_at (suc count) zero = refl
none_at (suc count) (suc i) = none_at count i

read_made : (made : List Writes) (count i : ℕ) → unwrap_or (slice_get (made ++ nothing count) i) [] ≡ unwrap_or (slice_get made i) []
read_made [] count i = none_at count i
read_made (writes ∷ made) count zero = refl
read_made (writes ∷ made) count (suc i) = read_made made count i

-- where nothing was made nothing is read
pub read_padded : (made : List Writes) (count i : ℕ) → unwrap_or (slice_get (padded made count) i) [] ≡ unwrap_or (slice_get made i) []
read_padded made count i = read_made made (count - length made) i

-- ---- changes

set_none : (count i : ℕ) → slice_set (nothing count) i [] ≡ nothing count
set_none zero i = refl
set_none (suc count) zero = refl
set_none (suc count) (suc i) = ap (λ (lists : List Writes). [] ∷ lists) (set_none count i)

clear_rest : (made : List Writes) (count i : ℕ) → length made ≤ i → slice_set (made ++ nothing count) i [] ≡ made ++ nothing count
clear_rest [] count i past = set_none count i
clear_rest (writes ∷ made) count zero past = absurd (omega (arith, past))
clear_rest (writes ∷ made) count (suc i) past = ap (λ (lists : List Writes). writes ∷ lists) (clear_rest made count i (omega (arith, past)))

-- a place that was not made is empty already
pub clear_past : (made : List Writes) (count i : ℕ) → length made ≤ i → padded made count ≡ slice_set (padded made count) i []
clear_past made count i past = sym (clear_rest made (count - length made) i past)

set_front : (made rest : List Writes) (i : ℕ) (writes : Writes) → i < length made → slice_set (made ++ rest) i writes ≡ slice_set made i writes ++ rest
set_front [] rest i writes within = absurd (omega (arith, within))
set_front (first ∷ made) rest zero writes within = refl
set_front (first ∷ made) rest (suc i) writes within = ap (λ (lists : List Writes). first ∷ lists) (set_front made rest i writes (omega (arith, within)))

-- a place that was made is set there
pub set_made : (made : List Writes) (count i : ℕ) (writes : Writes) → i < length made → padded (slice_set made i writes) count ≡ slice_set (padded made count) i writes
set_made made count i writes within =
    ap (λ n. slice_set made i writes ++ nothing (count - n)) (length-set made i writes) ∙ sym (set_front made (nothing (count - length made)) i writes within)

-- what is set where there is no place is lost
pub set_nowhere : (made : List Writes) (count i : ℕ) (writes : Writes) → length made ≤ i → count ≤ i → padded made count ≡ slice_set (padded made count) i writes
set_nowhere made count i writes past over =
    let none : Writes = [] in
    let long = length-append made (nothing (count - length made)) in
    let rest = length-replicate (count - length made) none in
    sym (set_past (padded made count) i writes (omega (arith, past, over, long, rest)))

-- a number behind the places that were made, up to which they were made where there are so many, is behind all
pub over_all : (i count : ℕ) (made : List Writes) → (i < count → i < length made) → length made ≤ i → count ≤ i
over_all i count made reached past =
    ⊎_elim (λ (within : i < count). absurd (omega (arith, reached within, past))) (λ (over : count ≤ i). over) (cases_lt i count)

-- one place more that is made
pub made_more : (made : List Writes) (count : ℕ) → length made < count → padded (made ++ [] ∷ []) count ≡ padded made count
made_more [] zero within = absurd (omega (arith, within))
made_more [] (suc count) within =
    let one : suc count - 1 ≡ count = omega arith in
    let none : suc count - 0 ≡ suc count = omega arith in
    ap (λ n. [] ∷ nothing n) one ∙ sym (ap nothing none)
made_more (writes ∷ made) zero within = absurd (omega (arith, within))
made_more (writes ∷ made) (suc count) within =
    let more : suc count - suc (length (made ++ [] ∷ [])) ≡ count - length (made ++ [] ∷ []) = omega arith in
    let same : suc count - suc (length made) ≡ count - length made = omega arith in
    ap (λ n. writes ∷ ((made ++ [] ∷ []) ++ nothing n)) more
    ∙ ap (λ (lists : List Writes). writes ∷ lists) (made_more made count (omega (arith, within)))
    ∙ sym (ap (λ n. writes ∷ (made ++ nothing n)) same)
