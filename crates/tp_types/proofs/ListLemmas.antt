-- Laws of tests and lists that several crates use.
use Rattle.std.proofs.Common.{◌≡◌, ℕ, suc, ◌+◌, ◌<◌, ◌==◌, Bool, true, false, ◌&&◌, ◌||◌, cond, List, [], ◌∷◌, ◌++◌, length, drop, filter, get_or, Option, Some, None, refl, sym, ap, ◌∙◌, arith, inl, inr, nat_lt}
use Rattle.std.proofs.Math.Bool.{and-false, and-true}
use Rattle.std.proofs.lemmas.Bool.{and_from, and_parts, cases_lt, eq-eqb}
use Rattle.std.proofs.lemmas.Bool.Decides.{nat_tests}
use Rattle.std.proofs.lemmas.List.{drop_more}
use Rattle.std.proofs.lemmas.List.Folds.{list_all-append}
use Rattle.std.specs.List.{cons_option, filter_map, list_all, list_any, position, position_or_len}
use Rattle.std.specs.Option.{option_map_or}

-- ---- tests

pub three_parts : (a b c : Bool) → (a && b && c) ≡ true → (a ≡ true) × (b ≡ true) × (c ≡ true)
three_parts true b c e = let later = and_parts b c e in (refl, later.0, later.1)
three_parts false b c e = absurd (cc)

pub three_from : (a b c : Bool) → a ≡ true → b ≡ true → c ≡ true → (a && b && c) ≡ true
three_from a b c e f g = and_from (a && b) c (and_from a b e f) g

pub third_of_three : (a b c : Bool) → (a && b && c) ≡ true → c ≡ true
third_of_three a b c e = (and_parts (a && b) c e).1

pub number_itself : (n : ℕ) → (n == n) ≡ true
number_itself n = eq-eqb n n refl

-- ---- lists

-- what is left from a place on begins with what stands there
pub rest_at : {A : Type 0} (xs : List A) (at : ℕ) (x : A) → at < length xs → x ≡ get_or xs at x → drop at xs ≡ x ∷ drop (at + 1) xs
rest_at xs at x lt here = drop_more xs at x lt ∙ ap (λ y. y ∷ drop (at + 1) xs) (sym here)

-- all pass a test, and one more does
pub all_push : {A : Type 0} (test : A → Bool) (xs : List A) (x : A) → list_all test xs ≡ true → test x ≡ true → list_all test (xs ++ x ∷ []) ≡ true
all_push test xs x kept here = list_all-append test xs (x ∷ []) ∙ and_from _ _ kept (and_from _ _ here refl)

-- what all members pass those pass that are kept
filtered_where : {A : Type 0} (passes : A → Bool) (x : A) (kept : List A) (b : Bool) → passes x ≡ true → list_all passes kept ≡ true → list_all passes (cond b (x ∷ kept) kept) ≡ true
filtered_where passes x kept true here all = and_from (passes x) (list_all passes kept) here all
filtered_where passes x kept false here all = all

pub all_filtered : {A : Type 0} (passes keeps : A → Bool) (xs : List A) → list_all passes xs ≡ true → list_all passes (filter keeps xs) ≡ true
all_filtered passes keeps [] all = refl
all_filtered passes keeps (x ∷ xs) all =
    let parts = and_parts (passes x) (list_all passes xs) all in
    filtered_where passes x (filter keeps xs) (keeps x) parts.0 (all_filtered passes keeps xs parts.1)

none_at : {A : Type 0} (test : A → Bool) (x : A) (xs : List A) (passes : Bool) → test x ≡ passes
    → (position test xs ≡ None → list_any test xs ≡ false) → position test (x ∷ xs) ≡ None → list_any test (x ∷ xs) ≡ false
none_at test x xs true e rest none =
    let t : nat_lt 0 (suc (length xs)) ≡ true = grind (arith, nat_tests) in
    let shown : position test (x ∷ xs) ≡ cond (nat_lt 0 (suc (length xs))) (Some 0) None = rw e refl in
    let some = rw t at shown in
    cc
none_at test x xs false e rest none =
    let n = position_or_len test xs in
    elim (cases_lt n (length xs)) [
      | inl under ↦
          let t : nat_lt (1 + n) (suc (length xs)) ≡ true = grind (arith, nat_tests) in
          let shown : position test (x ∷ xs) ≡ cond (nat_lt (1 + n) (suc (length xs))) (Some (1 + n)) None = rw e refl in
          let some = rw t at shown in
          cc
      | inr over ↦
          let t : nat_lt n (length xs) ≡ false = grind (arith, nat_tests) in
          let past : position test xs ≡ None = rw t refl in
          rw e (rest past)
    ]

-- where no place is found no member passes
pub none_passes : {A : Type 0} (test : A → Bool) (xs : List A) → position test xs ≡ None → list_any test xs ≡ false
none_passes test [] none = refl
none_passes test (x ∷ xs) none = none_at test x xs (test x) refl (none_passes test xs) none

-- ---- what is shown of members

pub one_shown : {B : Type 0} (test : B → Bool) (shown : Option B) (ys : List B) → list_any test (cons_option shown ys) ≡ ((option_map_or test shown false && true) || list_any test ys)
one_shown test None ys = refl
one_shown test (Some y) ys = rw (and-true (test y)) refl

one_kept : {A B : Type 0} (test : B → Bool) (shown : A → Option B) (x : A) (xs : List A) (b : Bool)
    → list_any test (filter_map shown (cond b (x ∷ xs) xs)) ≡ ((option_map_or test (shown x) false && b) || list_any test (filter_map shown xs))
one_kept test shown x xs true = one_shown test (shown x) (filter_map shown xs)
one_kept test shown x xs false = rw (and-false (option_map_or test (shown x) false)) refl

-- what is shown by those that are kept passes a test where a member is kept and passes
pub any_kept : {A B : Type 0} (test : B → Bool) (shown : A → Option B) (keeps passes : A → Bool)
    → ((x : A) → option_map_or test (shown x) false ≡ passes x) → (xs : List A)
    → list_any test (filter_map shown (filter keeps xs)) ≡ list_any (λ x. passes x && keeps x) xs
any_kept test shown keeps passes same [] = refl
any_kept test shown keeps passes same (x ∷ xs) =
    one_kept test shown x (filter keeps xs) (keeps x)
    ∙ ap (λ b. (option_map_or test (shown x) false && keeps x) || b) (any_kept test shown keeps passes same xs)
    ∙ ap (λ b. (b && keeps x) || list_any (λ y. passes y && keeps y) xs) (same x)
