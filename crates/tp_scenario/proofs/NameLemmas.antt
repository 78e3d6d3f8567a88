-- Names, as an index finds them.
use Rattle.std.proofs.Common.{◌≡◌, ℕ, ◌==◌, ◌&&◌, not, Bool, true, false, List, [], ◌∷◌, ◌++◌, map, refl, ap, ◌∙◌, arith, if◌then◌else◌}
use Rattle.std.specs.Prelude.{is_some, position}
use Rattle.std.specs.List.{list_any, position_or_len}
use Rattle.std.specs.Cmp.Lexicographic.{pointwise}
use Rattle.std.proofs.lemmas.Bool.Decides.{nat_tests}
use Rattle.std.proofs.lemmas.List.{length-map, map-append}
use denote.Ref.{Bor}
use Rattle.tp_model.specs.Ids.{same_name}
use Rattle.tp_scenario.specs.Names.{place_of, with_name}
use Rattle.tp_scenario.specs.mirrors.Texts.{texts}

pub turned : (n m : ℕ) → (n == m) ≡ (m == n)
turned n m = grind (arith, nat_tests)

pub same_turned : (one other : List ℕ) → same_name one other ≡ same_name other one
same_turned [] [] = refl
same_turned [] (byte ∷ bytes) = refl
same_turned (byte ∷ bytes) [] = refl
same_turned (byte ∷ bytes) (next ∷ others) = ap (λ (b : Bool). b && same_name bytes others) (turned byte next) ∙ ap (λ (b : Bool). (next == byte) && b) (same_turned bytes others)

-- the first place that passes, by tests that agree
reach_over : {A B : Type 0} (make : A → B) (test : A → Bool) (other : B → Bool) → ((x : A) → test x ≡ other (make x)) → (xs : List A) → position_or_len test xs ≡ position_or_len other (map make xs)
reach_over make test other agree [] = refl
reach_over make test other agree (x ∷ xs) = grind (arith, agree x, reach_over make test other agree xs)

place_over : {A B : Type 0} (make : A → B) (test : A → Bool) (other : B → Bool) → ((x : A) → test x ≡ other (make x)) → (xs : List A) → position test xs ≡ position other (map make xs)
place_over make test other agree xs = cc (reach_over make test other agree xs, length-map xs make)

any_place : {A : Type 0} (test : A → Bool) (xs : List A) → list_any test xs ≡ is_some (position test xs)
any_place test [] = refl
any_place test (x ∷ xs) = grind (arith, nat_tests, any_place test xs)

-- a name is found at its place
pub place_found : (name : List ℕ) (names : List (Bor (List ℕ))) → position (λ (other : Bor (List ℕ)). pointwise ◌==◌ name other.now) names ≡ place_of name (texts names)
place_found name names =
    place_over (λ (other : Bor (List ℕ)). other.now) (λ (other : Bor (List ℕ)). pointwise ◌==◌ name other.now) (λ (other : List ℕ). same_name other name) (λ other. same_turned name other.now) names

-- and is there if it has one
pub name_found : (name : List ℕ) (names : List (Bor (List ℕ))) → list_any (λ (other : Bor (List ℕ)). pointwise ◌==◌ name other.now) names ≡ is_some (place_of name (texts names))
name_found name names = any_place (λ (other : Bor (List ℕ)). pointwise ◌==◌ name other.now) names ∙ ap is_some (place_found name names)

-- one that is not goes to the end
pub name_added : (name : Bor (List ℕ)) (names : List (Bor (List ℕ)))
    → texts (if list_any (λ (other : Bor (List ℕ)). pointwise ◌==◌ name.now other.now) names then names else names ++ name ∷ []) ≡ with_name name.now (texts names)
name_added name names = by_found (is_some (place_of name.now (texts names))) (list_any (λ (other : Bor (List ℕ)). pointwise ◌==◌ name.now other.now) names) (name_found name.now names)
  where
    by_found : (b found : Bool) → found ≡ b → texts (if found then names else names ++ name ∷ []) ≡ (if not b then texts names ++ name.now ∷ [] else texts names)
    by_found true true e = refl
    by_found true false e = absurd (cc)
    by_found false true e = absurd (cc)
    by_found false false e = map-append (λ (other : Bor (List ℕ)). other.now) names (name ∷ [])
