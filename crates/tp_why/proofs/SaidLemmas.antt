-- What credentials say that are lent.
use Rattle.std.proofs.Common.{◌≡◌, Bool, ◌||◌, List, [], ◌∷◌, map, refl, ap}
use Rattle.std.specs.List.{list_any}

-- what is shown of members passes a test where a member shows it
pub any_map : {A B : Type 0} (test : B → Bool) (shown : A → B) (xs : List A) → list_any test (map shown xs) ≡ list_any (λ x. test (shown x)) xs
any_map test shown [] = refl
any_map test shown (x ∷ xs) = ap (λ b. test (shown x) || b) (any_map test shown xs)
