-- The first that passes two tests is the first that passes one of those that pass the other.
use Rattle.std.proofs.Common.{◌≡◌, Bool, true, false, ◌&&◌, cond, List, [], ◌∷◌, filter, Option, Some, refl}
use Rattle.std.specs.List.{find}

found_first : {A : Type 0} (one : A → Bool) (x : A) (rest : Option A) (kept : List A) (passes keeps : Bool) → one x ≡ passes → rest ≡ find one kept
    → cond (passes && keeps) (Some x) rest ≡ find one (cond keeps (x ∷ kept) kept)
found_first one x rest kept true true is so = rw is refl
found_first one x rest kept true false is so = so
found_first one x rest kept false true is so = rw is so
found_first one x rest kept false false is so = so

pub found_valid : {A : Type 0} (one other : A → Bool) (xs : List A) → find (λ x. one x && other x) xs ≡ find one (filter other xs)
found_valid one other [] = refl
found_valid one other (x ∷ xs) =
    found_first one x (find (λ y. one y && other y) xs) (filter other xs) (one x) (other x) refl (found_valid one other xs)
