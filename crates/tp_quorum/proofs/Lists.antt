-- Laws of look-ups in lists that grow, or of which one member changes.
use Rattle.std.proofs.Common.{◌≡◌, ◌⊎◌, inl, inr, ℕ, ◌+◌, ◌<◌, ◌≤◌, List, [], ◌∷◌, ◌++◌, length, map, replicate, take, slice_get, slice_set, Some, zero, suc, refl, sym, ap, subst, arith, ◌∙◌}
use Rattle.std.specs.List.{range_with_len}
use Rattle.std.proofs.lemmas.Bool.{cases_eq}
use Rattle.tp_types.specs.Each.{EachAt}

-- ---- lists that grow

-- what stands there stands there still
pub got_before : {A : Type 0} (xs ys : List A) (n : ℕ) (x : A) → slice_get xs n ≡ Some x → slice_get (xs ++ ys) n ≡ Some x
got_before [] ys n x e = absurd (cc)
got_before (y ∷ xs) ys zero x e = e
got_before (y ∷ xs) ys (suc n) x e = got_before xs ys n x e

pub got_last : {A : Type 0} (xs : List A) (x : A) → slice_get (xs ++ x ∷ []) (length xs) ≡ Some x
got_last [] x = refl
got_last (y ∷ xs) x = got_last xs x

-- what stands in a list with one more member stood there before, or is the one more
pub grown : {A : Type 0} (xs : List A) (x y : A) (n : ℕ) → slice_get (xs ++ x ∷ []) n ≡ Some y → (slice_get xs n ≡ Some y) ⊎ ((n ≡ length xs) × (x ≡ y))
grown [] x y zero e = let same : x ≡ y = cc in inr (refl, same)
grown [] x y (suc n) e = absurd (cc)
grown (z ∷ xs) x y zero e = inl e
grown (z ∷ xs) x y (suc n) e =
    elim (grown xs x y n e) [ inl there ↦ inl there | inr last ↦ inr (ap (λ (k : ℕ). suc k) last.0, last.1) ]

pub at_pushed : {A : Type 0} (P : ℕ → A → Type 0) (xs : List A) (x : A) → EachAt P xs → P (length xs) x → EachAt P (xs ++ x ∷ [])
at_pushed P xs x each here n found e =
    elim (grown xs x found n e) [
      | inl there ↦ each n found there
      | inr last ↦ subst (λ (k : ℕ). P k found) (sym last.0) (subst (P (length xs)) last.1 here)
    ]

pub pushed_length : {A : Type 0} (xs : List A) (x : A) → length (xs ++ x ∷ []) ≡ length xs + 1
pushed_length [] x = omega arith
pushed_length (y ∷ xs) x = omega (arith, pushed_length xs x)

pub append_length : {A : Type 0} (xs ys : List A) → length (xs ++ ys) ≡ length xs + length ys
append_length [] ys = omega arith
append_length (x ∷ xs) ys = omega (arith, append_length xs ys)

-- a place that has a member is within the list
pub got_within : {A : Type 0} (xs : List A) (n : ℕ) (x : A) → slice_get xs n ≡ Some x → n < length xs
got_within [] n x e = absurd (cc)
got_within (y ∷ xs) zero x e = omega arith
got_within (y ∷ xs) (suc n) x e = omega (arith, got_within xs n x e)

-- a place within the list has a member
pub some_within : {A : Type 0} (xs : List A) (n : ℕ) → n < length xs → (x : A) × (slice_get xs n ≡ Some x)
some_within [] n within = absurd (omega (arith, within))
some_within (x ∷ xs) zero within = (x, refl)
some_within (x ∷ xs) (suc n) within = some_within xs n (omega (arith, within))

-- the first members of a list with one more
pub take_before : {A : Type 0} (xs : List A) (x : A) (n : ℕ) → n ≤ length xs → take n (xs ++ x ∷ []) ≡ take n xs
take_before xs x zero within = refl
take_before [] x (suc n) within = absurd (omega (arith, within))
take_before (y ∷ xs) x (suc n) within = ap (λ (ys : List _). y ∷ ys) (take_before xs x n (omega (arith, within)))

pub take_whole : {A : Type 0} (xs : List A) → take (length xs) xs ≡ xs
take_whole [] = refl
take_whole (x ∷ xs) = ap (λ (ys : List _). x ∷ ys) (take_whole xs)

-- ---- one member changes

pub set_length : {A : Type 0} (xs : List A) (k : ℕ) (v : A) → length (slice_set xs k v) ≡ length xs
set_length [] k v = refl
set_length (x ∷ xs) zero v = refl
set_length (x ∷ xs) (suc k) v = ap (λ (n : ℕ). suc n) (set_length xs k v)

pub set_other : {A : Type 0} (xs : List A) (k n : ℕ) (v : A) → (n ≡ k → ⊥) → slice_get (slice_set xs k v) n ≡ slice_get xs n
set_other [] k n v apart = refl
set_other (x ∷ xs) zero zero v apart = absurd (apart refl)
set_other (x ∷ xs) zero (suc n) v apart = refl
set_other (x ∷ xs) (suc k) zero v apart = refl
set_other (x ∷ xs) (suc k) (suc n) v apart = set_other xs k n v (λ e. apart (ap (λ (m : ℕ). suc m) e))

-- where a member stood its new value stands
pub set_got : {A : Type 0} (xs : List A) (k : ℕ) (x v : A) → slice_get xs k ≡ Some x → slice_get (slice_set xs k v) k ≡ Some v
set_got [] k x v e = absurd (cc)
set_got (y ∷ xs) zero x v e = refl
set_got (y ∷ xs) (suc k) x v e = set_got xs k x v e

pub set_found : {A : Type 0} (xs : List A) (k : ℕ) (v found : A) → slice_get (slice_set xs k v) k ≡ Some found → v ≡ found
set_found [] k v found e = absurd (cc)
set_found (y ∷ xs) zero v found e = cc
set_found (y ∷ xs) (suc k) v found e = set_found xs k v found e

-- what holds of the new value and of all others holds of each
pub at_changed : {A : Type 0} (P : ℕ → A → Type 0) (xs : List A) (k : ℕ) (v : A)
    → ((n : ℕ) (found : A) → (n ≡ k → ⊥) → slice_get xs n ≡ Some found → P n found) → P k v → EachAt P (slice_set xs k v)
at_changed P xs k v others here n found e =
    elim (cases_eq n k) [
      | inl same ↦
          let there = subst (λ (m : ℕ). slice_get (slice_set xs k v) m ≡ Some found) same e in
          subst (λ (m : ℕ). P m found) (sym same) (subst (P k) (set_found xs k v found there) here)
      | inr other ↦ others n found other (sym (set_other xs k n v other) ∙ e)
    ]

-- what stands in a list with one changed member: the new value, or what stood there
pub changed : {A : Type 0} (xs : List A) (k n : ℕ) (v found : A) → slice_get (slice_set xs k v) n ≡ Some found → ((n ≡ k) × (v ≡ found)) ⊎ ((n ≡ k → ⊥) × (slice_get xs n ≡ Some found))
changed xs k n v found e =
    elim (cases_eq n k) [
      | inl same ↦ inl (same, set_found xs k v found (subst (λ (m : ℕ). slice_get (slice_set xs k v) m ≡ Some found) same e))
      | inr other ↦ inr (other, sym (set_other xs k n v other) ∙ e)
    ]

-- ---- lists that a function of the place makes

pub made_at : {A : Type 0} (f : ℕ → A) (low count k : ℕ) → k < count → slice_get (map f (range_with_len low count)) k ≡ Some (f (low + k))
made_at f low zero k within = absurd (omega (arith, within))
made_at f low (suc count) zero within = let same : low ≡ low + 0 = omega arith in ap (λ (n : ℕ). Some (f n)) same
made_at f low (suc count) (suc k) within =
    let same : (low + 1) + k ≡ low + suc k = omega arith in
    made_at f (low + 1) count k (omega (arith, within)) ∙ ap (λ (n : ℕ). Some (f n)) same

pub made_as : {A : Type 0} (f g : ℕ → A) (low count : ℕ) → ((j : ℕ) → low ≤ j → g j ≡ f j) → map f (range_with_len low count) ≡ map g (range_with_len low count)
made_as f g low zero same = refl
made_as f g low (suc count) same =
    let first : g low ≡ f low = same low (omega arith) in
    let later : map f (range_with_len (low + 1) count) ≡ map g (range_with_len (low + 1) count) = made_as f g (low + 1) count (λ j from. same j (omega (arith, from))) in
    cc

-- functions that agree below a bound
pub made_below : {A : Type 0} (f g : ℕ → A) (low count : ℕ) → ((j : ℕ) → low ≤ j → j < low + count → g j ≡ f j) → map f (range_with_len low count) ≡ map g (range_with_len low count)
made_below f g low zero same = refl
made_below f g low (suc count) same =
    let first : g low ≡ f low = same low (omega arith) (omega arith) in
    let later : map f (range_with_len (low + 1) count) ≡ map g (range_with_len (low + 1) count) = made_below f g (low + 1) count (λ j from below. same j (omega (arith, from)) (omega (arith, below))) in
    cc

-- the same list but for one place
pub made_set : {A : Type 0} (f g : ℕ → A) (low count i : ℕ) (v : A) → g (low + i) ≡ v → ((j : ℕ) → (j ≡ low + i → ⊥) → g j ≡ f j)
    → slice_set (map f (range_with_len low count)) i v ≡ map g (range_with_len low count)
made_set f g low zero i v here others = refl
made_set f g low (suc count) zero v here others =
    let same : low + 0 ≡ low = omega arith in
    let first : g low ≡ v = subst (λ (n : ℕ). g n ≡ v) same here in
    let later : map f (range_with_len (low + 1) count) ≡ map g (range_with_len (low + 1) count) = made_as f g (low + 1) count (λ j from. others j (λ e. omega (arith, from, e))) in
    cc
made_set f g low (suc count) (suc i) v here others =
    let same : low + suc i ≡ (low + 1) + i = omega arith in
    let first : g low ≡ f low = others low (λ e. omega (arith, e)) in
    let later : slice_set (map f (range_with_len (low + 1) count)) i v ≡ map g (range_with_len (low + 1) count) =
    made_set f g (low + 1) count i v (subst (λ (n : ℕ). g n ≡ v) same here) (λ j apart. others j (λ e. apart (e ∙ same))) in
    cc

-- ---- lists of one value

pub same_at : {A : Type 0} (count n : ℕ) (x found : A) → slice_get (replicate count x) n ≡ Some found → x ≡ found
same_at zero n x found e = absurd (cc)
same_at (suc count) zero x found e = cc
same_at (suc count) (suc n) x found e = same_at count n x found e

pub same_length : {A : Type 0} (count : ℕ) (x : A) → length (replicate count x) ≡ count
same_length zero x = refl
same_length (suc count) x = ap (λ (n : ℕ). suc n) (same_length count x)
