-- Laws of what holds of each member of a list or table, as the list grows or changes.
use Rattle.std.specs.List.{Contains, list_all, range_with_len}
use Rattle.std.proofs.Common.{Bool, List, None, Option, Some, [], ap, arith, drop, false, filter, find, flat_map, if◌then◌else◌, is_none, is_some, length, map, not, option_map, refl, replicate, slice_get, slice_index_or, slice_set, subst, suc, sym, true, zero, ℕ, ◌&&◌, ◌++◌, ◌+◌, ◌<◌, ◌∙◌, ◌∷◌, ◌≡◌}
use Rattle.std.proofs.lemmas.Option.{none-some}
use Rattle.std.specs.Option.{option_flatten}
use Rattle.tp_types.specs.Each.{Each, EachAt, EachPlaced}

-- ---- conditionals

-- what holds of both branches holds of the whole; each branch knows its test
pub by_cond : {A : Type 0} (P : A → Type 0) (b : Bool) {x y : A} → (b ≡ true → P x) → (b ≡ false → P y) → P (if b then x else y)
by_cond P true first second = first refl
by_cond P false first second = second refl

-- four tests, of which the last fails
pub all_four : (a b c d : Bool) → a ≡ true → b ≡ true → c ≡ true → d ≡ false → (a && b && c && not d) ≡ true
all_four a b c d e f g h = grind arith

-- ---- a value that may be there

pub none_if_not_some : {A : Type 0} (x : Option A) → is_some x ≡ false → x ≡ None
none_if_not_some None e = refl
none_if_not_some (Some found) e = absurd (cc)

pub some_if_not_none : {A : Type 0} (x : Option A) → not (is_none x) ≡ true → is_some x ≡ true
some_if_not_none None e = absurd (cc)
some_if_not_none (Some found) e = refl

pub some_value : {A : Type 0} (x : Option A) → is_some x ≡ true → (v : A) × (x ≡ Some v)
some_value None e = absurd (cc)
some_value (Some v) e = (v, refl)

pub some_mapped : {A B : Type 0} (f : A → B) (found : Option A) (y : B) → option_map f found ≡ Some y → is_some found ≡ true
some_mapped f None y e = absurd (cc)
some_mapped f (Some x) y e = refl

-- the test of what was not kept fails
pub not_kept : {A : Type 0} (x : A) (b : Bool) → (if b then Some x else None) ≡ None → b ≡ false
not_kept x true e = absurd (cc)
not_kept x false e = refl

-- ---- each member

pub each_of_all : {A : Type 0} (P : A → Type 0) → ((x : A) → P x) → (xs : List A) → Each P xs
each_of_all P h [] = tt
each_of_all P h (x ∷ xs) = (h x, each_of_all P h xs)

pub each_map : {A : Type 0} {B : Type 0} (P : A → Type 0) (Q : B → Type 0) (f : A → B) → ((x : A) → P x → Q (f x)) → (xs : List A) → Each P xs → Each Q (map f xs)
each_map P Q f step [] h = tt
each_map P Q f step (x ∷ xs) h = (step x h.0, each_map P Q f step xs h.1)

-- what follows from P holds of each member
pub each_as : {A : Type 0} (P : A → Type 0) (Q : A → Type 0) → ((x : A) → P x → Q x) → (xs : List A) → Each P xs → Each Q xs
each_as P Q step [] h = tt
each_as P Q step (x ∷ xs) h = (step x h.0, each_as P Q step xs h.1)

pub each_both : {A : Type 0} (P : A → Type 0) (Q : A → Type 0) (R : A → Type 0) → ((x : A) → P x → Q x → R x) → (xs : List A) → Each P xs → Each Q xs → Each R xs
each_both P Q R step [] h k = tt
each_both P Q R step (x ∷ xs) h k = (step x h.0 k.0, each_both P Q R step xs h.1 k.1)

-- two facts of each member
pub each_two : {A : Type 0} (P Q : A → Type 0) (xs : List A) → Each P xs → Each Q xs → Each (λ (x : A). P x × Q x) xs
each_two {A = A} P Q xs h k = each_both P Q (λ (x : A). P x × Q x) (λ x p q. (p, q)) xs h k

pub each_dropped : {A : Type 0} (P : A → Type 0) (xs : List A) → Each P xs → Each P (drop 1 xs)
each_dropped P [] h = tt
each_dropped P (x ∷ xs) h = h.1

first_passes : {A : Type 0} (test : A → Bool) (P : A → Type 0) (y x : A) (passing : List A) → test y ≡ true → P y → (Contains passing x → (test x ≡ true) × P x) → (k : ℕ) → k < length (y ∷ passing) → slice_index_or (y ∷ passing) k x ≡ x → (test x ≡ true) × P x
first_passes test P y x passing passes holds later zero within is = (ap test (sym is) ∙ passes, subst P is holds)
first_passes test P y x passing passes holds later (suc k) within is = later (k, omega (arith, within), is)

-- what stands among those that pass, passes, and P holds of it
pub filtered : {A : Type 0} (test : A → Bool) (P : A → Type 0) (xs : List A) (x : A) → Contains (filter test xs) x → Each P xs → (test x ≡ true) × P x
filtered test P [] x there h = absurd (let within = there.1 in omega (arith, within))
filtered {A} test P (y ∷ xs) x there h =
    by_cond (λ (passing : List A). Contains passing x → (test x ≡ true) × P x) (test y)
    (λ passes first. first_passes test P y x (filter test xs) passes h.0 (λ later. filtered test P xs x later h.1) first.0 first.1 first.2) (λ fails later. filtered test P xs x later h.1) there

pub each_append : {A : Type 0} (P : A → Type 0) (xs ys : List A) → Each P xs → Each P ys → Each P (xs ++ ys)
each_append P [] ys h k = k
each_append P (x ∷ xs) ys h k = (h.0, each_append P xs ys h.1 k)

-- one more member at the end
pub each_more : {A : Type 0} (P : A → Type 0) (xs : List A) (x : A) → Each P xs → P x → Each P (xs ++ x ∷ [])
each_more P xs x h k = each_append P xs (x ∷ []) h (k, tt)

pub each_drop : {A : Type 0} (P : A → Type 0) (n : ℕ) (xs : List A) → Each P xs → Each P (drop n xs)
each_drop P zero xs h = h
each_drop P (suc n) [] h = tt
each_drop P (suc n) (x ∷ xs) h = each_drop P n xs h.1

pub each_filter : {A : Type 0} (P : A → Type 0) (test : A → Bool) (xs : List A) → Each P xs → Each P (filter test xs)
each_filter P test [] h = tt
each_filter {A = A} P test (x ∷ xs) h =
    by_cond (λ (ys : List A). Each P ys) (test x) (λ y. (h.0, each_filter P test xs h.1)) (λ n. each_filter P test xs h.1)

pub each_flat_map : {A : Type 0} {B : Type 0} (P : A → Type 0) (Q : B → Type 0) (f : A → List B) → ((x : A) → P x → Each Q (f x)) → (xs : List A) → Each P xs → Each Q (flat_map f xs)
each_flat_map P Q f step [] h = tt
each_flat_map P Q f step (x ∷ xs) h = each_append Q (f x) (flat_map f xs) (step x h.0) (each_flat_map P Q f step xs h.1)

pub each_set : {A : Type 0} (P : A → Type 0) (xs : List A) (k : ℕ) (v : A) → Each P xs → P v → Each P (slice_set xs k v)
each_set P [] k v h p = tt
each_set P (x ∷ xs) zero v h p = (p, h.1)
each_set P (x ∷ xs) (suc k) v h p = (h.0, each_set P xs k v h.1 p)

found_first : {A : Type 0} (P : A → Type 0) (test : A → Bool) (y : A) (xs : List A) (x : A) (b : Bool) → test y ≡ b → P y → (find test xs ≡ Some x → P x) → find test (y ∷ xs) ≡ Some x → P x
found_first P test y xs x true here p later e = let same : y ≡ x = grind arith in subst P same p
found_first P test y xs x false other p later e = let next : find test xs ≡ Some x = grind arith in later next

passes_first : {A : Type 0} (test : A → Bool) (y : A) (xs : List A) (x : A) (b : Bool) → test y ≡ b → (find test xs ≡ Some x → test x ≡ true) → find test (y ∷ xs) ≡ Some x → test x ≡ true
passes_first {A = A} test y xs x true here later e = let same : y ≡ x = grind arith in subst (λ (z : A). test z ≡ true) same here
passes_first test y xs x false other later e = let next : find test xs ≡ Some x = grind arith in later next

-- what a search finds is a member
pub each_found : {A : Type 0} (P : A → Type 0) (test : A → Bool) (xs : List A) (x : A) → Each P xs → find test xs ≡ Some x → P x
each_found P test [] x h e = absurd (cc)
each_found P test (y ∷ xs) x h e = found_first P test y xs x (test y) refl h.0 (λ later. each_found P test xs x h.1 later) e

-- and passes
pub found_passes : {A : Type 0} (test : A → Bool) (xs : List A) (x : A) → find test xs ≡ Some x → test x ≡ true
found_passes test [] x e = absurd (cc)
found_passes test (y ∷ xs) x e = passes_first test y xs x (test y) refl (λ later. found_passes test xs x later) e

pub each_get : {A : Type 0} (P : A → Type 0) (xs : List A) (k : ℕ) (x : A) → Each P xs → slice_get xs k ≡ Some x → P x
each_get P [] k x h e = absurd (cc)
each_get P (y ∷ xs) zero x h e = let same : y ≡ x = grind arith in subst P same h.0
each_get P (y ∷ xs) (suc k) x h e = each_get P xs k x h.1 e

-- members that all pass a test
pub each_passing : {A : Type 0} (P : A → Type 0) (Q : A → Type 0) (test : A → Bool) → ((x : A) → P x → test x ≡ true → Q x) → (xs : List A) → list_all test xs ≡ true → Each P xs → Each Q xs
each_passing P Q test step [] e h = tt
each_passing P Q test step (x ∷ xs) e h =
    let here : test x ≡ true = grind arith in
    let later : list_all test xs ≡ true = grind arith in
    (step x h.0 here, each_passing P Q test step xs later h.1)

-- a test that all members pass
pub each_from_all : {A : Type 0} (test : A → Bool) (xs : List A) → list_all test xs ≡ true → Each (λ (x : A). test x ≡ true) xs
each_from_all test [] e = tt
each_from_all test (x ∷ xs) e =
    let here : test x ≡ true = grind arith in
    let later : list_all test xs ≡ true = grind arith in
    (here, each_from_all test xs later)

-- ---- members and their places

-- what holds of each member by its place holds of each
pub each_placed : {A : Type 0} (P : A → Type 0) (xs : List A) → ((n : ℕ) (x : A) → slice_get xs n ≡ Some x → P x) → Each P xs
each_placed P [] h = tt
each_placed P (x ∷ xs) h = (h zero x refl, each_placed P xs (λ n found e. h (suc n) found e))

-- a place within a list has a member
pub missing : {A : Type 0} (xs : List A) (n : ℕ) → n < length xs → slice_get xs n ≡ None → ⊥
missing [] n within e = omega arith
missing (x ∷ xs) zero within e = cc
missing (x ∷ xs) (suc n) within e = missing xs n (omega arith) e

-- what was written at a place within a list stands there
pub set_here : {A : Type 0} (xs : List A) (n : ℕ) (v : A) → n < length xs → slice_get (slice_set xs n v) n ≡ Some v
set_here [] n v within = absurd (omega (arith, within))
set_here (x ∷ xs) zero v within = refl
set_here (x ∷ xs) (suc n) v within = set_here xs n v (omega (arith, within))

pub at_set : {A : Type 0} (P : ℕ → A → Type 0) (xs : List A) (k : ℕ) (v : A) → EachAt P xs → P k v → EachAt P (slice_set xs k v)
at_set P [] k v h p n found e = absurd (cc)
at_set P (x ∷ xs) zero v h p zero found e = let same : v ≡ found = grind arith in subst (P 0) same p
at_set P (x ∷ xs) zero v h p (suc n) found e = h (suc n) found e
at_set P (x ∷ xs) (suc k) v h p zero found e = h 0 found e
at_set P (x ∷ xs) (suc k) v h p (suc n) found e = at_set (λ m a. P (suc m) a) xs k v (λ m a. h (suc m) a) p n found e

-- a list that a function of the place makes
pub at_made : {A : Type 0} (P : ℕ → A → Type 0) (f : ℕ → A) (low count : ℕ) → ((n : ℕ) → n < low + count → P n (f n))
    → (n : ℕ) (found : A) → slice_get (map f (range_with_len low count)) n ≡ Some found → P (low + n) found
at_made P f low zero h n found e = absurd (cc)
at_made P f low (suc count) h zero found e =
    let same : f low ≡ found = grind arith in
    let here : P low (f low) = h low (omega arith) in
    let first : low ≡ low + 0 = omega arith in
    subst (λ (m : ℕ). P m found) first (subst (P low) same here)
at_made P f low (suc count) h (suc n) found e =
    let later : P ((low + 1) + n) found = at_made P f (low + 1) count (λ m less. h m (omega arith)) n found e in
    let same : (low + 1) + n ≡ low + suc n = omega arith in
    subst (λ (m : ℕ). P m found) same later

-- ---- tables

pub placed_set : {A : Type 0} (P : ℕ → A → Type 0) (table : List (Option A)) (k : ℕ) (v : A) → EachPlaced P table → P k v → EachPlaced P (slice_set table k (Some v))
placed_set P [] k v h p n found e = absurd (cc)
placed_set P (x ∷ xs) zero v h p zero found e = let same : v ≡ found = grind arith in subst (P 0) same p
placed_set P (x ∷ xs) zero v h p (suc n) found e = h (suc n) found e
placed_set P (x ∷ xs) (suc k) v h p zero found e = h 0 found e
placed_set P (x ∷ xs) (suc k) v h p (suc n) found e = placed_set (λ m a. P (suc m) a) xs k v (λ m a. h (suc m) a) p n found e

pub placed_emptied : {A : Type 0} (P : ℕ → A → Type 0) (table : List (Option A)) (k : ℕ) → EachPlaced P table → EachPlaced P (slice_set table k None)
placed_emptied P [] k h n found e = absurd (cc)
placed_emptied P (x ∷ xs) zero h zero found e = absurd (cc)
placed_emptied P (x ∷ xs) zero h (suc n) found e = h (suc n) found e
placed_emptied P (x ∷ xs) (suc k) h zero found e = h 0 found e
placed_emptied P (x ∷ xs) (suc k) h (suc n) found e = placed_emptied (λ m a. P (suc m) a) xs k (λ m a. h (suc m) a) n found e

-- what holds of each other place holds of a table that is emptied at one
pub placed_emptied_others : {A : Type 0} (P : ℕ → A → Type 0) (table : List (Option A)) (k : ℕ)
    → ((n : ℕ) (found : A) → option_flatten (slice_get table n) ≡ Some found → (n ≡ k → ⊥) → P n found) → EachPlaced P (slice_set table k None)
placed_emptied_others P [] k h n found e = absurd (cc)
placed_emptied_others P (x ∷ xs) zero h zero found e = absurd (cc)
placed_emptied_others P (x ∷ xs) zero h (suc n) found e = h (suc n) found e (λ same. omega (arith, same))
placed_emptied_others P (x ∷ xs) (suc k) h zero found e = h 0 found e (λ same. omega (arith, same))
placed_emptied_others P (x ∷ xs) (suc k) h (suc n) found e =
    placed_emptied_others (λ m a. P (suc m) a) xs k (λ m a f apart. h (suc m) a f (λ same. apart (omega (arith, same)))) n found e

-- an empty table
pub unset_at : {A : Type 0} (count n : ℕ) → option_flatten (slice_get (replicate {A = Option A} count None) n) ≡ None
unset_at zero n = refl
unset_at (suc count) zero = refl
unset_at (suc count) (suc n) = unset_at count n

pub placed_none : {A : Type 0} (P : ℕ → A → Type 0) (count : ℕ) → EachPlaced P (replicate count None)
placed_none P count n found e = absurd (none-some found (sym (unset_at count n) ∙ e))
