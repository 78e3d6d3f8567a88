-- Laws of sums over lists, and of lists that stand within others.
use Rattle.std.proofs.Common.{◌≡◌, ℕ, ◌+◌, ◌≤◌, ◌*◌, List, [], ◌∷◌, ◌++◌, filter, length, map, cond, not, Bool, true, false, refl, sym, ap, ◌∙◌, arith}
use Rattle.std.proofs.lemmas.Bool.{and_from}
use Rattle.std.proofs.lemmas.List.Sums.{sum_by-cons}
use Rattle.std.specs.List.{list_all, sum_by}
use Rattle.tp_types.specs.Each.{Each}
use Rattle.tp_race.specs.WholeRace.{IsWithin}
use Rattle.tp_race.specs.WholeRace.IsWithin.{Kept, Nothing, Passed}

-- ---- sums

-- a test as a weight
abbrev pub one_by : Bool → ℕ
one_by b = cond b 1 0

pub sum_none : {A : Type 0} (f : A → ℕ) (xs : List A) → Each (λ (x : A). f x ≡ 0) xs → sum_by f xs ≡ 0
sum_none f [] h = refl
sum_none f (x ∷ xs) h =
    let here = h.0 in
    let later = sum_none f xs h.1 in
    omega (arith, sum_by-cons f x xs, here, later)

pub sum_same : {A : Type 0} (f g : A → ℕ) → ((x : A) → f x ≡ g x) → (xs : List A) → sum_by f xs ≡ sum_by g xs
sum_same f g same [] = refl
sum_same f g same (x ∷ xs) =
    let here = same x in
    let later = sum_same f g same xs in
    omega (arith, sum_by-cons f x xs, sum_by-cons g x xs, here, later)

pub sum_zero : {A : Type 0} (f : A → ℕ) → ((x : A) → f x ≡ 0) → (xs : List A) → sum_by f xs ≡ 0
sum_zero f none [] = refl
sum_zero f none (x ∷ xs) =
    let here = none x in
    let later = sum_zero f none xs in
    omega (arith, sum_by-cons f x xs, here, later)

pub sum_map : {A B : Type 0} (f : B → ℕ) (g : A → B) (xs : List A) → sum_by f (map g xs) ≡ sum_by (λ (x : A). f (g x)) xs
sum_map f g [] = refl
sum_map {A = A} f g (x ∷ xs) =
    let later = sum_map f g xs in
    omega (arith, sum_by-cons f (g x) (map g xs), sum_by-cons (λ (y : A). f (g y)) x xs, later)

-- what fails a test has no weight, and so it need not be counted
filtered : (b : Bool) (w : ℕ) (kept : ℕ) → (b ≡ false → w ≡ 0) → cond b (w + kept) kept ≡ w + kept
filtered true w kept h = refl
filtered false w kept h = let none = h refl in omega (arith, none)

sum_cond : {A : Type 0} (f : A → ℕ) (b : Bool) (x : A) (xs : List A) → sum_by f (cond b (x ∷ xs) xs) ≡ cond b (f x + sum_by f xs) (sum_by f xs)
sum_cond f true x xs = sum_by-cons f x xs
sum_cond f false x xs = refl

pub sum_filter : {A : Type 0} (f : A → ℕ) (test : A → Bool) → ((x : A) → test x ≡ false → f x ≡ 0) → (xs : List A) → sum_by f (filter test xs) ≡ sum_by f xs
sum_filter f test none [] = refl
sum_filter f test none (x ∷ xs) =
    sum_cond f (test x) x (filter test xs)
    ∙ (filtered (test x) (f x) (sum_by f (filter test xs)) (none x)
    ∙ (ap (λ (n : ℕ). f x + n) (sum_filter f test none xs) ∙ sym (sum_by-cons f x xs)))

-- what all members weigh at most
pub sum_most : {A : Type 0} (f : A → ℕ) (most : ℕ) (xs : List A) → Each (λ (x : A). f x ≤ most) xs → sum_by f xs ≤ length xs * most
sum_most f most [] h = omega arith
sum_most f most (x ∷ xs) h =
    let here = h.0 in
    let later = sum_most f most xs h.1 in
    omega (arith, sum_by-cons f x xs, here, later)

-- ---- tests

untaken : (p : Bool) (n : ℕ) → one_by (not p) + n ≡ 0 → (p ≡ true) × (n ≡ 0)
untaken true n e = (refl, omega (arith, e))
untaken false n e = absurd (omega (arith, e))

-- where nothing fails a test all pass it
pub all_pass : {A : Type 0} (p : A → Bool) (xs : List A) → sum_by (λ (x : A). one_by (not (p x))) xs ≡ 0 → list_all p xs ≡ true
all_pass p [] e = refl
all_pass {A = A} p (x ∷ xs) e =
    let parts = untaken (p x) (sum_by (λ (y : A). one_by (not (p y))) xs) (sym (sum_by-cons (λ (y : A). one_by (not (p y))) x xs) ∙ e) in
    and_from (p x) (list_all p xs) parts.0 (all_pass p xs parts.1)

-- ---- within

pub within_more : {A : Type 0} (xs ys more : List A) → IsWithin xs ys → IsWithin xs (ys ++ more)
within_more [] ys more h = Nothing (ys ++ more)
within_more xs ys more h = longer h
  where
    longer : {us vs : List _} → IsWithin us vs → IsWithin us (vs ++ more)
    longer (Nothing vs) = Nothing (vs ++ more)
    longer (Kept x us vs k) = Kept x us (vs ++ more) (longer k)
    longer (Passed y us vs k) = Passed y us (vs ++ more) (longer k)
