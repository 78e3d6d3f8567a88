-- Laws of tables of which only the first places are in memory.
use Rattle.std.proofs.Common.{◌≡◌, ℕ, zero, suc, ◌+◌, ◌-◌, ◌<◌, ◌≤◌, List, [], ◌∷◌, ◌++◌, length, map, replicate, slice_get, slice_set, Option, None, refl, sym, ap, ◌∙◌, arith}
use Rattle.std.specs.Option.{option_flatten, option_map}
use Rattle.std.proofs.lemmas.List.{append_assoc, length-append, length-replicate}
use Rattle.tp_places.specs.Padded.{padded}

-- ---- empty places

-- nothing stands in an empty place, nor behind all
pub none_stands : {A : Type 0} (n at : ℕ) → option_flatten (slice_get (replicate {A = Option A} n None) at) ≡ None
none_stands zero at = refl
none_stands (suc n) zero = refl
none_stands (suc n) (suc at) = none_stands n at

-- an empty place may be emptied
pub none_emptied : {A : Type 0} (n at : ℕ) → slice_set (replicate {A = Option A} n None) at None ≡ replicate n None
none_emptied zero at = refl
none_emptied (suc n) zero = refl
none_emptied {A} (suc n) (suc at) = ap (λ (places : List (Option A)). None ∷ places) (none_emptied n at)

-- ---- places with empty ones behind them

pub stands_before : {A : Type 0} (made : List (Option A)) (n at : ℕ) → option_flatten (slice_get (made ++ replicate n None) at) ≡ option_flatten (slice_get made at)
stands_before [] n at = none_stands n at
stands_before (place ∷ made) n zero = refl
stands_before (place ∷ made) n (suc at) = stands_before made n at

pub emptied_before : {A : Type 0} (made : List (Option A)) (n at : ℕ) → slice_set (made ++ replicate n None) at None ≡ slice_set made at None ++ replicate n None
emptied_before [] n at = none_emptied n at
emptied_before (place ∷ made) n zero = refl
emptied_before {A} (place ∷ made) n (suc at) = ap (λ (places : List (Option A)). place ∷ places) (emptied_before made n at)

-- a place in the front is set there
pub set_before : {A : Type 0} (made others : List A) (at : ℕ) (value : A) → at < length made → slice_set (made ++ others) at value ≡ slice_set made at value ++ others
set_before [] others at value within = absurd (omega (arith, within))
set_before (place ∷ made) others zero value within = refl
set_before {A} (place ∷ made) others (suc at) value within = ap (λ (places : List A). place ∷ places) (set_before made others at value (omega (arith, within)))

-- the first place behind the front is set there
pub set_next : {A : Type 0} (made others : List A) (old value : A) → slice_set (made ++ old ∷ others) (length made) value ≡ (made ++ value ∷ []) ++ others
set_next [] others old value = refl
set_next {A} (place ∷ made) others old value = ap (λ (places : List A). place ∷ places) (set_next made others old value)

-- nothing is set behind all
pub set_past : {A : Type 0} (places : List A) (at : ℕ) (value : A) → length places ≤ at → slice_set places at value ≡ places
set_past [] at value past = refl
set_past (place ∷ places) zero value past = absurd (omega (arith, past))
set_past {A} (place ∷ places) (suc at) value past = ap (λ (others : List A). place ∷ others) (set_past places at value (omega (arith, past)))

pub same_length : {A : Type 0} (places : List A) (at : ℕ) (value : A) → length (slice_set places at value) ≡ length places
same_length [] at value = refl
same_length (place ∷ places) zero value = refl
same_length (place ∷ places) (suc at) value = ap suc (same_length places at value)

-- ---- a table

pub length-padded : {A : Type 0} (made : List (Option A)) (count : ℕ) → length (padded made count) ≡ length made + (count - length made)
length-padded made count = length-append made (replicate (count - length made) None) ∙ ap (λ (n : ℕ). length made + n) (length-replicate (count - length made) None)

-- what stands at a place stands in the front
pub padded_get : {A : Type 0} (made : List (Option A)) (count at : ℕ) → option_flatten (slice_get (padded made count) at) ≡ option_flatten (slice_get made at)
padded_get made count at = stands_before made (count - length made) at

-- the front is made longer by an empty place
pub padded_more : {A : Type 0} (made : List (Option A)) (count : ℕ) → length made < count → padded (made ++ None ∷ []) count ≡ padded made count
padded_more made count less =
    let one : length (made ++ None ∷ []) ≡ length made + 1 = length-append made (None ∷ []) in
    let left : count - length made ≡ suc (count - length (made ++ None ∷ [])) = omega (arith, less, one) in
    append_assoc made (None ∷ []) (replicate (count - length (made ++ None ∷ [])) None) ∙ ap (λ (n : ℕ). made ++ replicate n None) (sym left)

-- and by the place that is set
pub padded_put_next : {A : Type 0} (made : List (Option A)) (count : ℕ) (value : Option A) → length made < count → padded (made ++ value ∷ []) count ≡ slice_set (padded made count) (length made) value
padded_put_next made count value less =
    let one : length (made ++ value ∷ []) ≡ length made + 1 = length-append made (value ∷ []) in
    let left : count - length made ≡ suc (count - length (made ++ value ∷ [])) = omega (arith, less, one) in
    sym (ap (λ (n : ℕ). slice_set (made ++ replicate n None) (length made) value) left ∙ set_next made (replicate (count - length (made ++ value ∷ [])) None) None value)

-- a place in the front is set there
pub padded_put : {A : Type 0} (made : List (Option A)) (count at : ℕ) (value : Option A) → at < length made → padded (slice_set made at value) count ≡ slice_set (padded made count) at value
padded_put made count at value within =
    ap (λ (n : ℕ). slice_set made at value ++ replicate (count - n) None) (same_length made at value)
    ∙ sym (set_before made (replicate (count - length made) None) at value within)

-- a place that is not there is not set
pub padded_put_past : {A : Type 0} (made : List (Option A)) (count at : ℕ) (value : Option A) → length made ≤ at → count ≤ at → padded made count ≡ slice_set (padded made count) at value
padded_put_past made count at value past no_place =
    let all : length (padded made count) ≤ at = let is = length-padded made count in omega (arith, is, past, no_place) in
    sym (set_past (padded made count) at value all)

-- a place is emptied in the front, where it is there
pub padded_emptied : {A : Type 0} (made : List (Option A)) (count at : ℕ) → padded (slice_set made at None) count ≡ slice_set (padded made count) at None
padded_emptied made count at =
    ap (λ (n : ℕ). slice_set made at None ++ replicate (count - n) None) (same_length made at None)
    ∙ sym (emptied_before made (count - length made) at)

-- the front of a table, and as many empty places as are left
pub padded_front : {A : Type 0} (made : List (Option A)) (count : ℕ) → padded made count ≡ made ++ replicate (length (padded made count) - length made) None
padded_front made count =
    let left : count - length made ≡ length (padded made count) - length made = let is = length-padded made count in omega (arith, is) in
    ap (λ (n : ℕ). made ++ replicate n None) left

-- the same change of each member of a table is one of the front
pub map-padded : {A B : Type 0} (f : A → B) (made : List (Option A)) (n : ℕ) → map (option_map f) (made ++ replicate n None) ≡ map (option_map f) made ++ replicate n None
map-padded f [] zero = refl
map-padded {A} {B} f [] (suc n) = ap (λ (places : List (Option B)). None ∷ places) (map-padded f [] n)
map-padded {A} {B} f (place ∷ made) n = ap (λ (places : List (Option B)). option_map f place ∷ places) (map-padded f made n)
