-- Laws of folds, places and tests of lists that serial data rests on.
use Rattle.std.proofs.Common.{◌≡◌, ℕ, zero, suc, ◌==◌, ◌||◌, List, [], ◌∷◌, filter, fold, slice_get, slice_set, Bool, true, false, cond, Option, Some, is_some, if◌then◌else◌, refl, sym, ap, subst, ◌∙◌, arith}
use Rattle.std.specs.Cmp.Lexicographic.{pointwise}
use Rattle.std.specs.List.{list_any}
use Rattle.std.proofs.lemmas.Bool.Decides.{nat_tests}
use Rattle.std.proofs.lemmas.Option.{same_Some}
use Rattle.std.proofs.lemmas.Bool.{and_from, or_right}
use Rattle.tp_types.specs.Each.{Each, EachAt}
use Rattle.std.specs.Option.{option_flatten}
use Rattle.tp_runs.proofs.basics.Logs.{get_set}

-- ---- folds

-- two functions that do the same at each member
pub fold_as : {A : Type 0} {B : Type 0} (f : B → A → B) (g : B → A → B) (xs : List A) → Each (λ (x : A). (b : B) → f b x ≡ g b x) xs → (b : B) → fold f b xs ≡ fold g b xs
fold_as f g [] h b = refl
fold_as f g (x ∷ xs) h b = fold_as f g xs h.1 (f b x) ∙ ap (λ c. fold g c xs) (h.0 b)

-- what each member keeps
pub fold_keeps : {A : Type 0} {B : Type 0} (P : B → Type 0) (f : B → A → B) (xs : List A) → Each (λ (x : A). (b : B) → P b → P (f b x)) xs → (b : B) → P b → P (fold f b xs)
fold_keeps P f [] h b p = p
fold_keeps P f (x ∷ xs) h b p = fold_keeps P f xs h.1 (f b x) (h.0 b p)

-- what each member keeps between two folds
pub fold_both : {A : Type 0} {B : Type 0} {C : Type 0} (R : B → C → Type 0) (f : B → A → B) (g : C → A → C) (xs : List A) → Each (λ (x : A). (b : B) (c : C) → R b c → R (f b x) (g c x)) xs
    → (b : B) (c : C) → R b c → R (fold f b xs) (fold g c xs)
fold_both R f g [] h b c r = r
fold_both R f g (x ∷ xs) h b c r = fold_both R f g xs h.1 (f b x) (g c x) (h.0 b c r)

-- ---- places

-- lists with the same member at a place have so after the same change of both
pub same_set : {A : Type 0} (xs ys : List A) (k n : ℕ) (v : A) → slice_get xs n ≡ slice_get ys n → slice_get (slice_set xs k v) n ≡ slice_get (slice_set ys k v) n
same_set [] [] k n v e = refl
same_set [] (y ∷ ys) k zero v e = absurd (cc)
same_set [] (y ∷ ys) zero (suc n) v e = e
same_set [] (y ∷ ys) (suc k) (suc n) v e = same_set [] ys k n v e
same_set (x ∷ xs) [] k zero v e = absurd (cc)
same_set (x ∷ xs) [] zero (suc n) v e = e
same_set (x ∷ xs) [] (suc k) (suc n) v e = same_set xs [] k n v e
same_set (x ∷ xs) (y ∷ ys) zero zero v e = refl
same_set (x ∷ xs) (y ∷ ys) zero (suc n) v e = e
same_set (x ∷ xs) (y ∷ ys) (suc k) zero v e = e
same_set (x ∷ xs) (y ∷ ys) (suc k) (suc n) v e = same_set xs ys k n v e

-- a change elsewhere
pub set_elsewhere : {A : Type 0} (xs : List A) (k n : ℕ) (v : A) → (k == n) ≡ false → slice_get (slice_set xs k v) n ≡ slice_get xs n
set_elsewhere [] k n v e = refl
set_elsewhere (x ∷ xs) zero zero v e = let same : (0 == 0) ≡ true = refl in absurd (cc)
set_elsewhere (x ∷ xs) zero (suc n) v e = refl
set_elsewhere (x ∷ xs) (suc k) zero v e = refl
set_elsewhere (x ∷ xs) (suc k) (suc n) v e = set_elsewhere xs k n v (grind (arith, nat_tests))

-- what holds of each other place and of the new member
pub at_changed : {A : Type 0} (P : ℕ → A → Type 0) (xs : List A) (k : ℕ) (old new : A) → slice_get xs k ≡ Some old → ((n : ℕ) (found : A) → slice_get xs n ≡ Some found → (k == n) ≡ false → P n found) → P k new
    → EachAt P (slice_set xs k new)
at_changed P xs k old new here others p n found e = changed (k == n) refl (sym (get_set xs k n old new here) ∙ e)
  where
    eqb-true : (a b : ℕ) → (a == b) ≡ true → a ≡ b
    eqb-true a b f = grind (arith, nat_tests)

    changed : (b : Bool) → (k == n) ≡ b → (if b then Some new else slice_get xs n) ≡ Some found → P n found
    changed true same f = subst (λ (m : ℕ). P m found) (eqb-true k n same) (subst (P k) (same_Some new found f) p)
    changed false apart f = others n found f apart

-- ---- tables

-- a place that is not empty stays so as a place is filled
pub filled_stays : {A : Type 0} (table : List (Option A)) (k n : ℕ) (v : A) → is_some (option_flatten (slice_get table n)) ≡ true → is_some (option_flatten (slice_get (slice_set table k (Some v)) n)) ≡ true
filled_stays [] k n v e = e
filled_stays (x ∷ table) zero zero v e = refl
filled_stays (x ∷ table) zero (suc n) v e = e
filled_stays (x ∷ table) (suc k) zero v e = e
filled_stays (x ∷ table) (suc k) (suc n) v e = filled_stays table k n v e

-- ---- tests

later : (b c d : Bool) → (c ≡ true → d ≡ true) → (b || c) ≡ true → (b || d) ≡ true
later true c d h e = refl
later false c d h e = h e

picked : {A : Type 0} (test : A → Bool) (x : A) (xs ys : List A) (b : Bool) → (list_any test ys ≡ true → list_any test xs ≡ true) → list_any test (cond b (x ∷ ys) ys) ≡ true → (test x || list_any test xs) ≡ true
picked test x xs ys true h e = later (test x) (list_any test ys) (list_any test xs) h e
picked test x xs ys false h e = or_right (test x) (list_any test xs) (h e)

-- what some member that is kept passes, some member passes
pub any_filtered : {A : Type 0} (test other : A → Bool) (xs : List A) → list_any test (filter other xs) ≡ true → list_any test xs ≡ true
any_filtered test other [] e = e
any_filtered test other (x ∷ xs) e = picked test x xs (filter other xs) (other x) (any_filtered test other xs) e

pub pointwise_itself : {A : Type 0} (same : A → A → Bool) → ((x : A) → same x x ≡ true) → (xs : List A) → pointwise same xs xs ≡ true
pointwise_itself same h [] = refl
pointwise_itself same h (x ∷ xs) = and_from (same x x) (pointwise same xs xs) (h x) (pointwise_itself same h xs)
