-- Laws of lists, of their beginnings, and of how often a number stands in them.
use Rattle.std.proofs.Common.{◌≡◌, ℕ, zero, suc, ◌+◌, ◌≤◌, ◌==◌, ◌⊎◌, List, [], ◌∷◌, ◌++◌, length, take, Bool, true, false, cond, inl, inr, refl, sym, ap, ◌∙◌, append_assoc, append-nil, length-append, arith}
use Rattle.std.proofs.lemmas.Bool.Decides.{nat_tests}
use Rattle.tp_types.specs.Each.{Each}
use Rattle.tp_wire.specs.History.{StartsWith, one_if, times, taken_from, taken_by}

module _ {A : Type 0} where
  -- ---- beginnings

  pub starts_self : (xs : List A) → StartsWith xs xs
  starts_self xs = ([], append-nil xs)

  pub starts_empty : (xs : List A) → StartsWith xs []
  starts_empty xs = (xs, refl)

  pub starts_trans : (zs ys xs : List A) → StartsWith zs ys → StartsWith ys xs → StartsWith zs xs
  starts_trans zs ys xs h k = (k.0 ++ h.0, sym (append_assoc xs k.0 h.0) ∙ ap (λ (l : List A). l ++ h.0) k.1 ∙ h.1)

  pub starts_more : (ys xs more : List A) → StartsWith ys xs → StartsWith (ys ++ more) xs
  starts_more ys xs more h = (h.0 ++ more, sym (append_assoc xs h.0 more) ∙ ap (λ (l : List A). l ++ more) h.1)

  pub starts_length : (ys xs : List A) → StartsWith ys xs → length xs ≤ length ys
  starts_length ys xs h = omega (arith, length-append xs h.0, ap length h.1)

  -- of two beginnings of one list the shorter begins the longer
  pub starts_of_both : (xs ms ys ns : List A) → xs ++ ms ≡ ys ++ ns → length xs ≤ length ys → StartsWith ys xs
  starts_of_both [] ms ys ns e h = (ys, refl)
  starts_of_both (x ∷ xs) ms [] ns e h = absurd (omega arith)
  starts_of_both (x ∷ xs) ms (y ∷ ys) ns e h =
      let first : x ≡ y = cc in
      let others : xs ++ ms ≡ ys ++ ns = cc in
      let rest = starts_of_both xs ms ys ns others (omega arith) in
      let same : xs ++ rest.0 ≡ ys = rest.1 in
      (rest.0, cc)

  pub starts_shorter : (log xs ys : List A) → StartsWith log xs → StartsWith log ys → length xs ≤ length ys → StartsWith ys xs
  starts_shorter log xs ys h k less = starts_of_both xs h.0 ys k.0 (h.1 ∙ sym k.1) less

  pub cancel : (xs ys zs : List A) → xs ++ ys ≡ xs ++ zs → ys ≡ zs
  cancel [] ys zs e = e
  cancel (x ∷ xs) ys zs e = let others : xs ++ ys ≡ xs ++ zs = cc in cancel xs ys zs others

  pub take_begin : (n : ℕ) (xs ys : List A) → n ≤ length xs → take n (xs ++ ys) ≡ take n xs
  take_begin zero xs ys h = refl
  take_begin (suc n) [] ys h = absurd (omega arith)
  take_begin (suc n) (x ∷ xs) ys h = ap (λ (l : List A). x ∷ l) (take_begin n xs ys (omega arith))

  pub take_begins : (n : ℕ) (xs : List A) → StartsWith xs (take n xs)
  take_begins zero xs = (xs, refl)
  take_begins (suc n) [] = ([], refl)
  take_begins (suc n) (x ∷ xs) = let rest = take_begins n xs in (rest.0, ap (λ (l : List A). x ∷ l) rest.1)

  pub take_more_begins : (m n : ℕ) (xs : List A) → m ≤ n → StartsWith (take n xs) (take m xs)
  take_more_begins zero n xs h = (take n xs, refl)
  take_more_begins (suc m) zero xs h = absurd (omega arith)
  take_more_begins (suc m) (suc n) [] h = ([], refl)
  take_more_begins (suc m) (suc n) (x ∷ xs) h =
      let rest = take_more_begins m n xs (omega arith) in (rest.0, ap (λ (l : List A). x ∷ l) rest.1)

  pub take_whole : (xs : List A) → take (length xs) xs ≡ xs
  take_whole [] = refl
  take_whole (x ∷ xs) = ap (λ (l : List A). x ∷ l) (take_whole xs)

  -- an entry of a list with one more at the end is that one, or stands before it
  pub last_or_before : (log before after : List A) (e x : A) → log ++ e ∷ [] ≡ before ++ x ∷ after
      → ((before ≡ log) × (x ≡ e)) ⊎ ((rest : List A) × (log ≡ before ++ x ∷ rest))
  last_or_before [] [] after e x same = let first : x ≡ e = cc in inl (refl, first)
  last_or_before [] (b ∷ []) after e x same = absurd (cc)
  last_or_before [] (b ∷ (c ∷ before)) after e x same = absurd (cc)
  last_or_before (l ∷ log) [] after e x same = let first : l ≡ x = cc in inr (log, ap (λ (y : A). y ∷ log) first)
  last_or_before (l ∷ log) (b ∷ before) after e x same =
      let first : l ≡ b = cc in
      let others : log ++ e ∷ [] ≡ before ++ x ∷ after = cc in
      elim (last_or_before log before after e x others) [
        | inl h ↦ (let whole : before ≡ log = h.0 in let last : x ≡ e = h.1 in let both : b ∷ before ≡ l ∷ log = cc in inl (both, last))
        | inr h ↦ (let rest : log ≡ before ++ x ∷ h.0 = h.1 in let both : l ∷ log ≡ b ∷ (before ++ x ∷ h.0) = cc in inr (h.0, both))
      ]

  -- ---- each

  pub each_front : (P : A → Type 0) (xs ys : List A) → Each P (xs ++ ys) → Each P xs
  each_front P [] ys h = tt
  each_front P (x ∷ xs) ys h = (h.0, each_front P xs ys h.1)

  pub each_back : (P : A → Type 0) (xs ys : List A) → Each P (xs ++ ys) → Each P ys
  each_back P [] ys h = h
  each_back P (x ∷ xs) ys h = each_back P xs ys h.1

-- ---- how often a number stands in a list

pub times-append : (n : ℕ) (xs ys : List ℕ) → times n (xs ++ ys) ≡ times n xs + times n ys
times-append n [] ys = omega arith
times-append n (x ∷ xs) ys = omega (arith, times-append n xs ys)

taken_step : (b : Bool) (at : ℕ) (left front back : List ℕ) → left ≡ front ++ back → cond b (at ∷ left) left ≡ cond b (at ∷ front) front ++ back
taken_step true at left front back e = ap (λ (l : List ℕ). at ∷ l) e
taken_step false at left front back e = e

pub taken-append : (at n : ℕ) (xs ys : List ℕ) → taken_from at n (xs ++ ys) ≡ taken_from at n xs ++ taken_from (at + length xs) n ys
taken-append at n [] ys = ap (λ (k : ℕ). taken_from k n ys) (omega arith)
taken-append at n (x ∷ xs) ys =
    let place : (at + 1) + length xs ≡ at + suc (length xs) = omega arith in
    taken_step (x == n) at _ _ _ (taken-append (at + 1) n xs ys ∙ ap (λ (k : ℕ). taken_from (at + 1) n xs ++ taken_from k n ys) place)

nothing_step : (b : Bool) (at : ℕ) (rest : List ℕ) → one_if b ≡ 0 → rest ≡ [] → cond b (at ∷ rest) rest ≡ []
nothing_step true at rest off e = absurd (omega arith)
nothing_step false at rest off e = e

pub nothing_taken : (at n : ℕ) (xs : List ℕ) → times n xs ≡ 0 → taken_from at n xs ≡ []
nothing_taken at n [] none = refl
nothing_taken at n (x ∷ xs) none = nothing_step (x == n) at _ (omega (arith, none)) (nothing_taken (at + 1) n xs (omega (arith, none)))

-- a taker more leaves what the others took
pub taken_else : (n : ℕ) (xs ys : List ℕ) → times n ys ≡ 0 → taken_by n (xs ++ ys) ≡ taken_by n xs
taken_else n xs ys none =
    taken-append 0 n xs ys ∙ (ap (λ (l : List ℕ). taken_by n xs ++ l) (nothing_taken (0 + length xs) n ys none) ∙ append-nil (taken_by n xs))

-- and is one more of its own
pub taken_own : (n : ℕ) (xs : List ℕ) → taken_by n (xs ++ n ∷ []) ≡ taken_by n xs ++ length xs ∷ []
taken_own n xs =
    let here : (n == n) ≡ true = grind (arith, nat_tests) in
    let place : 0 + length xs ≡ length xs = omega arith in
    taken-append 0 n xs (n ∷ [])
    ∙ (ap (λ (b : Bool). taken_by n xs ++ cond b ((0 + length xs) ∷ []) []) here
    ∙ ap (λ (k : ℕ). taken_by n xs ++ k ∷ []) place)
