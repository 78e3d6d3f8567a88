-- Laws of flags.
use Rattle.std.proofs.Common.{◌≡◌, ℕ, zero, suc, ◌+◌, ◌<◌, ◌≤◌, ◌==◌, List, [], ◌∷◌, ◌++◌, length, map, replicate, slice_get, slice_set, take, Bool, true, false, Option, Some, None, unwrap_or, refl, subst, sym, ◌∙◌, ap, arith}
use Rattle.std.specs.List.{range_with_len, list_any}
use Rattle.std.proofs.lemmas.Bool.Decides.{nat_tests}
use Rattle.std.proofs.lemmas.Option.{same_Some}
use Rattle.tp_pending.specs.Flags.{marked}

-- no more flags are set than there are
pub marked_few : (first : ℕ) (flags : List Bool) → length (marked first flags) ≤ length flags
marked_few first [] = omega arith
marked_few first (true ∷ flags) = omega (arith, marked_few (first + 1) flags)
marked_few first (false ∷ flags) = omega (arith, marked_few (first + 1) flags)

-- the flags of two lists are those of the first and then those of the second
pub marked-append : (n : ℕ) (one two : List Bool) → marked n (one ++ two) ≡ marked n one ++ marked (n + length one) two
marked-append n [] two = ap (λ k. marked k two) (omega arith)
marked-append n (true ∷ one) two =
    let e : (n + 1) + length one ≡ n + suc (length one) = omega arith in
    ap (λ ns. n ∷ ns) (marked-append (n + 1) one two ∙ ap (λ k. marked (n + 1) one ++ marked k two) e)
marked-append n (false ∷ one) two =
    let e : (n + 1) + length one ≡ n + suc (length one) = omega arith in
    marked-append (n + 1) one two ∙ ap (λ k. marked (n + 1) one ++ marked k two) e

-- of flags that are all set each number stands
pub marked-replicate : (n count : ℕ) → marked n (replicate count true) ≡ range_with_len n count
marked-replicate n zero = refl
marked-replicate n (suc count) = ap (λ ns. n ∷ ns) (marked-replicate (n + 1) count)

-- a number stands exactly where its flag is set
pub any_below-marked : (n k : ℕ) (flags : List Bool) → k < n → list_any (λ (m : ℕ). m == k) (marked n flags) ≡ false
any_below-marked n k [] h = refl
any_below-marked n k (false ∷ flags) h = any_below-marked (n + 1) k flags (omega arith)
any_below-marked n k (true ∷ flags) h = grind (arith, nat_tests, any_below-marked (n + 1) k flags (omega arith))

pub any-marked : (n k : ℕ) (flags : List Bool) → list_any (λ (m : ℕ). m == n + k) (marked n flags) ≡ unwrap_or (slice_get flags k) false
any-marked n k [] = refl
any-marked n zero (true ∷ flags) = grind (arith, nat_tests)
any-marked n zero (false ∷ flags) = any_below-marked (n + 1) (n + 0) flags (omega arith)
any-marked n (suc k) (true ∷ flags) =
    let same : (n + 1) + k ≡ n + suc k = omega arith in
    let later = any-marked (n + 1) k flags in
    let off : (n == n + suc k) ≡ false = grind (arith, nat_tests) in
    rw off (subst (λ (j : ℕ). list_any (λ (m : ℕ). m == j) (marked (n + 1) flags) ≡ unwrap_or (slice_get flags k) false) same later)
any-marked n (suc k) (false ∷ flags) =
    let same : (n + 1) + k ≡ n + suc k = omega arith in
    subst (λ (j : ℕ). list_any (λ (m : ℕ). m == j) (marked (n + 1) flags) ≡ unwrap_or (slice_get flags k) false) same (any-marked (n + 1) k flags)

-- the same from the first flag on
pub any-marked_all : (k : ℕ) (flags : List Bool) → list_any (λ (m : ℕ). m == k) (marked 0 flags) ≡ unwrap_or (slice_get flags k) false
any-marked_all k flags =
    let same : 0 + k ≡ k = omega arith in
    subst (λ (j : ℕ). list_any (λ (m : ℕ). m == j) (marked 0 flags) ≡ unwrap_or (slice_get flags k) false) same (any-marked 0 k flags)

-- ---- the same numbers from another first one on

pub marked-next : (n : ℕ) (flags : List Bool) → marked (n + 1) flags ≡ map suc (marked n flags)
marked-next n [] = refl
marked-next n (true ∷ flags) = let same : n + 1 ≡ suc n = omega arith in ap (λ (m : ℕ). m ∷ marked ((n + 1) + 1) flags) same ∙ ap (λ (ms : List ℕ). suc n ∷ ms) (marked-next (n + 1) flags)
marked-next n (false ∷ flags) = marked-next (n + 1) flags

-- each is that of a flag
pub marked-within : (n : ℕ) (flags : List Bool) (place number : ℕ) → slice_get (marked n flags) place ≡ Some number → number < n + length flags
marked-within n [] place number e = absurd (cc)
marked-within n (true ∷ flags) zero number e = let same = same_Some n number e in omega (arith, same)
marked-within n (true ∷ flags) (suc place) number e = let later = marked-within (n + 1) flags place number e in omega (arith, later)
marked-within n (false ∷ flags) place number e = let later = marked-within (n + 1) flags place number e in omega (arith, later)

-- ---- a flag that is set, and taken down

pub record Splits (first : ℕ) (flags : List Bool) (number : ℕ) : Type 0 where
  pub front : List ℕ
  pub rest : List ℕ
  pub whole : marked first flags ≡ front ++ (first + number) ∷ rest
  pub without : marked first (slice_set flags number false) ≡ front ++ rest

pub splits : (first : ℕ) (flags : List Bool) (number : ℕ) → slice_get flags number ≡ Some true → Splits first flags number
splits first [] number e = absurd (cc)
splits first (true ∷ flags) zero e =
    let here : first ≡ first + 0 = omega arith in
    record { front = []; rest = marked (first + 1) flags; whole = ap (λ (n : ℕ). n ∷ marked (first + 1) flags) here; without = refl }
splits first (false ∷ flags) zero e = absurd (cc)
splits first (true ∷ flags) (suc number) e =
    let later = splits (first + 1) flags number e in
    let same : (first + 1) + number ≡ first + suc number = omega arith in
    record {
      front = first ∷ later.front;
      rest = later.rest;
      whole = ap (λ (ns : List ℕ). first ∷ ns) (later.whole ∙ ap (λ (n : ℕ). later.front ++ n ∷ later.rest) same);
      without = ap (λ (ns : List ℕ). first ∷ ns) later.without;
    }
splits first (false ∷ flags) (suc number) e =
    let later = splits (first + 1) flags number e in
    let same : (first + 1) + number ≡ first + suc number = omega arith in
    record {
      front = later.front;
      rest = later.rest;
      whole = later.whole ∙ ap (λ (n : ℕ). later.front ++ n ∷ later.rest) same;
      without = later.without;
    }

-- a flag that is not set may be taken down
pub taken_already : (flags : List Bool) (number : ℕ) → unwrap_or (slice_get flags number) false ≡ false → flags ≡ slice_set flags number false
taken_already [] number e = refl
taken_already (true ∷ flags) zero e = absurd (cc)
taken_already (false ∷ flags) zero e = refl
taken_already (flag ∷ flags) (suc number) e = ap (λ (others : List Bool). flag ∷ others) (taken_already flags number e)

-- the last flag, taken down, may go
pub marked-last : (first : ℕ) (flags : List Bool) → marked first (flags ++ false ∷ []) ≡ marked first flags
marked-last first [] = refl
marked-last first (true ∷ flags) = ap (λ (ns : List ℕ). first ∷ ns) (marked-last (first + 1) flags)
marked-last first (false ∷ flags) = marked-last (first + 1) flags

-- and one that is set is the last number
pub marked-more : (first : ℕ) (flags : List Bool) → marked first (flags ++ true ∷ []) ≡ marked first flags ++ (first + length flags) ∷ []
marked-more first [] = let same : first ≡ first + 0 = omega arith in ap (λ (n : ℕ). n ∷ []) same
marked-more first (true ∷ flags) =
    let same : (first + 1) + length flags ≡ first + suc (length flags) = omega arith in
    ap (λ (ns : List ℕ). first ∷ ns) (marked-more (first + 1) flags ∙ ap (λ (n : ℕ). marked (first + 1) flags ++ n ∷ []) same)
marked-more first (false ∷ flags) =
    let same : (first + 1) + length flags ≡ first + suc (length flags) = omega arith in
    marked-more (first + 1) flags ∙ ap (λ (n : ℕ). marked (first + 1) flags ++ n ∷ []) same

-- ---- by the search of a number

set_by : (found : Option Bool) → unwrap_or found false ≡ true → found ≡ Some true
set_by None e = absurd (cc)
set_by (Some true) e = refl
set_by (Some false) e = absurd (cc)

pub is_set : (flags : List Bool) (number : ℕ) → list_any (λ (m : ℕ). m == number) (marked 0 flags) ≡ true → slice_get flags number ≡ Some true
is_set flags number e = set_by (slice_get flags number) (sym (any-marked_all number flags) ∙ e)

pub not_set : (flags : List Bool) (number : ℕ) → list_any (λ (m : ℕ). m == number) (marked 0 flags) ≡ false → flags ≡ slice_set flags number false
not_set flags number e = taken_already flags number (sym (any-marked_all number flags) ∙ e)

-- ---- the last one

pub taken_last : (flags : List Bool) (count : ℕ) → length flags ≡ count + 1 → slice_set flags count false ≡ take count (slice_set flags count false) ++ false ∷ []
taken_last [] count e = absurd (omega (arith, e))
taken_last (flag ∷ []) zero e = refl
taken_last (flag ∷ other ∷ flags) zero e = absurd (omega (arith, e))
taken_last (flag ∷ flags) (suc count) e = ap (λ (others : List Bool). flag ∷ others) (taken_last flags count (omega (arith, e)))

pub front_kept : (flags : List Bool) (count : ℕ) → take count (slice_set flags count false) ≡ take count flags
front_kept [] zero = refl
front_kept [] (suc count) = refl
front_kept (flag ∷ flags) zero = refl
front_kept (flag ∷ flags) (suc count) = ap (λ (others : List Bool). flag ∷ others) (front_kept flags count)
