-- What the facts before a place count and sum to.
use Rattle.std.proofs.Common.{◌≡◌, ℕ, ◌+◌, ◌≤◌, Bool, true, false, ◌&&◌, cond, List, [], ◌∷◌, filter, refl, arith}
use Rattle.std.specs.List.{count_by, sum_by}
use Rattle.std.proofs.lemmas.List.Sums.{sum_by-cons}
use Rattle.tp_model.specs.Words.{Fact}
use Rattle.tp_model.specs.Facts.{before, is_earlier}

one_kept : {A : Type 0} (f : A → ℕ) (x : A) (xs : List A) (b : Bool) → sum_by f (cond b (x ∷ xs) xs) ≡ cond b (f x) 0 + sum_by f xs
one_kept f x xs true = sum_by-cons f x xs
one_kept f x xs false = omega arith

-- a sum over a filtered list
pub sum_filter : {A : Type 0} (f : A → ℕ) (keeps : A → Bool) (xs : List A) → sum_by f (filter keeps xs) ≡ sum_by (λ x. cond (keeps x) (f x) 0) xs
sum_filter f keeps [] = refl
sum_filter f keeps (x ∷ xs) =
    let rest = sum_filter f keeps xs in
    let first = one_kept f x (filter keeps xs) (keeps x) in
    let whole = sum_by-cons (λ y. cond (keeps y) (f y) 0) x xs in
    omega arith

both : (a b : Bool) → ◌≡◌ {A = ℕ} (cond a (cond b 1 0) 0) (cond (a && b) 1 0)
both true b = refl
both false b = refl

count_filter : {A : Type 0} (test keeps : A → Bool) (xs : List A) → count_by test (filter keeps xs) ≡ count_by (λ x. keeps x && test x) xs
count_filter test keeps [] = refl
count_filter test keeps (x ∷ xs) =
    let rest = count_filter test keeps xs in
    let first = one_kept (λ y. cond (test y) 1 0) x (filter keeps xs) (keeps x) in
    let whole = sum_by-cons (λ y. cond (keeps y && test y) 1 0) x xs in
    let same = both (keeps x) (test x) in
    omega arith

fewer : (a b : Bool) → cond (a && b) 1 0 ≤ cond b 1 0
fewer true b = omega arith
fewer false b = omega arith

fewer_pass_both : {A : Type 0} (keeps test : A → Bool) (xs : List A) → count_by (λ x. keeps x && test x) xs ≤ count_by test xs
fewer_pass_both keeps test [] = omega arith
fewer_pass_both keeps test (x ∷ xs) =
    let rest = fewer_pass_both keeps test xs in
    let some = sum_by-cons (λ y. cond (keeps y && test y) 1 0) x xs in
    let all = sum_by-cons (λ y. cond (test y) 1 0) x xs in
    let first = fewer (keeps x) (test x) in
    omega arith

-- what passes a test among the facts before a place passes both tests
pub count_before : (test : Fact → Bool) (place : ℕ) (facts : List Fact) → count_by test (before place facts) ≡ count_by (λ fact. is_earlier place fact && test fact) facts
count_before test place facts = count_filter test (is_earlier place) facts

pub fewer_before : (test : Fact → Bool) (place : ℕ) (facts : List Fact) → count_by test (before place facts) ≤ count_by test facts
fewer_before test place facts =
    let some = count_before test place facts in
    let all = fewer_pass_both (is_earlier place) test facts in
    omega arith
