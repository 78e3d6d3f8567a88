-- One of a list, with what it is.
use Rattle.std.proofs.Common.{Bool, List, [], cond, false, filter, inl, inr, map, refl, true, ⊎_elim, ◌++◌, ◌||◌, ◌∷◌, ◌≡◌, ◌⊎◌}
use Rattle.std.specs.List.{list_any}

-- P holds of a member
abbrev pub AnyOf : {A : Type 0} → (A → Type 0) → List A → Type 0
AnyOf P [] = ⊥
AnyOf P (x ∷ xs) = P x ⊎ AnyOf P xs

pub any_as : {A : Type 0} (P Q : A → Type 0) → ((x : A) → P x → Q x) → (xs : List A) → AnyOf P xs → AnyOf Q xs
any_as P Q step [] h = h
any_as P Q step (x ∷ xs) (inl here) = inl (step x here)
any_as P Q step (x ∷ xs) (inr later) = inr (any_as P Q step xs later)

pub any_left : {A : Type 0} (P : A → Type 0) (xs ys : List A) → AnyOf P xs → AnyOf P (xs ++ ys)
any_left P [] ys h = absurd h
any_left P (x ∷ xs) ys (inl here) = inl here
any_left P (x ∷ xs) ys (inr later) = inr (any_left P xs ys later)

pub any_right : {A : Type 0} (P : A → Type 0) (xs ys : List A) → AnyOf P ys → AnyOf P (xs ++ ys)
any_right P [] ys h = h
any_right P (x ∷ xs) ys h = inr (any_right P xs ys h)

-- one that fails is left out
pub any_left_out : {A : Type 0} (P : A → Type 0) (test : A → Bool) (xs : List A) → AnyOf P xs → AnyOf P (filter test xs) ⊎ AnyOf (λ (x : A). (test x ≡ false) × P x) xs
any_left_out P test [] h = absurd h
any_left_out {A = A} P test (x ∷ xs) (inl here) =
    by_test (test x) refl
  where
    by_test : (b : Bool) → test x ≡ b → AnyOf P (cond b (x ∷ filter test xs) (filter test xs)) ⊎ AnyOf (λ (y : A). (test y ≡ false) × P y) (x ∷ xs)
    by_test true e = inl (inl here)
    by_test false e = inr (inl (e, here))
any_left_out {A = A} P test (x ∷ xs) (inr later) = by_test (test x) (any_left_out P test xs later)
  where
    by_test : (b : Bool) → AnyOf P (filter test xs) ⊎ AnyOf (λ (y : A). (test y ≡ false) × P y) xs → AnyOf P (cond b (x ∷ filter test xs) (filter test xs)) ⊎ AnyOf (λ (y : A). (test y ≡ false) × P y) (x ∷ xs)
    by_test true (inl kept) = inl (inr kept)
    by_test false (inl kept) = inl kept
    by_test b (inr left) = inr (inr left)

-- of a list that was made of another, by a member that passes
pub any_mapped : {A : Type 0} {B : Type 0} (P : B → Type 0) (f : A → B) (test : A → Bool) → ((x : A) → test x ≡ true → P (f x)) → (xs : List A) → list_any test xs ≡ true → AnyOf P (map f xs)
any_mapped P f test step [] e = absurd (cc)
any_mapped P f test step (x ∷ xs) e =
    ⊎_elim (λ (here : test x ≡ true). inl (step x here)) (λ (later : list_any test xs ≡ true). inr (any_mapped P f test step xs later)) (either (test x) (list_any test xs) e)
  where
    either : (a b : Bool) → (a || b) ≡ true → (a ≡ true) ⊎ (b ≡ true)
    either true b e = inl refl
    either false b e = inr e
