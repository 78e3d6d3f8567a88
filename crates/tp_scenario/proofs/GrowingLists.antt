-- Lists that grow at their end.
use Rattle.std.proofs.Common.{◌≡◌, ℕ, ◌<◌, ◌||◌, not, Bool, true, false, List, [], ◌∷◌, ◌++◌, length, map, Some, refl, ap, ◌∙◌}
use Rattle.std.specs.Prelude.{position}
use Rattle.std.specs.List.{list_all, list_any}
use Rattle.std.proofs.lemmas.Bool.{and_parts, and_from, or_parts, or_from, not-true, not_from_false}
use Rattle.std.proofs.lemmas.List.Folds.{list_any-append}
use Rattle.std.proofs.lemmas.List.Quantifiers.{position-Some}
use Rattle.tp_model.specs.Valid.{are_distinct}

-- a weaker test
pub all_weaker : {A : Type 0} (test other : A → Bool) → ((x : A) → test x ≡ true → other x ≡ true) → (xs : List A) → list_all test xs ≡ true → list_all other xs ≡ true
all_weaker test other weaker [] kept = refl
all_weaker test other weaker (x ∷ xs) kept =
    let parts = and_parts (test x) (list_all test xs) kept in
    and_from _ _ (weaker x parts.0) (all_weaker test other weaker xs parts.1)

-- a place that is found is one of the list
pub place_within : {A : Type 0} (test : A → Bool) (xs : List A) (place : ℕ) → position test xs ≡ Some place → place < length xs
place_within test [] place e = absurd (cc)
place_within test (x ∷ xs) place e = (position-Some test (x ∷ xs) place x e).0

-- a test of what is made of each member
pub any_made : {A B : Type 0} (make : A → B) (test : B → Bool) (xs : List A) → list_any test (map make xs) ≡ list_any (λ x. test (make x)) xs
any_made make test [] = refl
any_made make test (x ∷ xs) = ap (λ (b : Bool). test (make x) || b) (any_made make test xs)

-- two tests that agree
pub any_agrees : {A : Type 0} (test other : A → Bool) → ((x : A) → test x ≡ other x) → (xs : List A) → list_any test xs ≡ list_any other xs
any_agrees test other agree [] = refl
any_agrees test other agree (x ∷ xs) = ap (λ (b : Bool). b || list_any test xs) (agree x) ∙ ap (λ (b : Bool). other x || b) (any_agrees test other agree xs)

-- a member that is not the same as one before it
pub distinct_more : {A : Type 0} (same : A → A → Bool) (xs : List A) (y : A) → list_any (λ x. same x y) xs ≡ false → are_distinct same xs ≡ true → are_distinct same (xs ++ y ∷ []) ≡ true
distinct_more same [] y new apart = refl
distinct_more same (x ∷ xs) y new apart =
    let news = or_parts (same x y) (list_any (λ z. same z y) xs) new in
    let aparts = and_parts (not (list_any (same x) xs)) (are_distinct same xs) apart in
    let later : list_any (same x) (xs ++ y ∷ []) ≡ false = list_any-append (same x) xs (y ∷ []) ∙ or_from _ _ (not-true _ aparts.0) (or_from _ _ news.0 refl) in
    and_from _ _ (not_from_false _ later) (distinct_more same xs y news.1 aparts.1)
