-- Laws of sums over the numbers below one, of what undelivered mails weigh, and of numbers in lists.
use Rattle.std.specs.List.{range_with_len}
use Rattle.std.proofs.Common.{◌≡◌, ◌⊎◌, inl, inr, ℕ, ◌+◌, ◌*◌, ◌<◌, ◌≤◌, ◌==◌, not, List, [], ◌∷◌, ◌++◌, length, slice_get, Bool, true, false, cond, Option, Some, None, zero, suc, refl, sym, ap, subst, arith, ◌∙◌, if◌then◌else◌, append_assoc}
use Rattle.std.proofs.lemmas.Bool.{cases_eq, eq-eqb, ne_eqb}
use Rattle.tp_types.specs.Each.{Each}
use Rattle.tp_quorum.proofs.Lists.{got_before, pushed_length, some_within}
use Rattle.tp_quorum.specs.Machine.{is_request, without_number}
use Rattle.tp_quorum.specs.Operations.{requests}
use Rattle.tp_quorum.specs.Words.{QBody, QMail}

-- ---- sums

-- what a function gives of all numbers below one
abbrev pub sum_below : ℕ → (ℕ → ℕ) → ℕ
sum_below zero f = 0
sum_below (suc count) f = sum_below count f + f count

pub sum_least : (count : ℕ) (f g : ℕ → ℕ) → ((k : ℕ) → k < count → f k ≤ g k) → sum_below count f ≤ sum_below count g
sum_least zero f g less = omega arith
sum_least (suc count) f g less =
    omega (arith, sum_least count f g (λ k within. less k (omega (arith, within))), less count (omega arith))

-- one is less by so much, and none is more
pub sum_less : (count j by : ℕ) (f g : ℕ → ℕ) → j < count → f j + by ≤ g j → ((k : ℕ) → k < count → (k ≡ j → ⊥) → f k ≤ g k) → sum_below count f + by ≤ sum_below count g
sum_less zero j by f g within here others = absurd (omega (arith, within))
sum_less (suc count) j by f g within here others =
    elim (cases_eq j count) [
      | inl same ↦
          let last : f count + by ≤ g count = subst (λ (k : ℕ). f k + by ≤ g k) same here in
          omega (arith, sum_least count f g (λ k less. others k (omega (arith, less)) (λ e. omega (arith, e, same, less))), last)
      | inr other ↦
          omega (arith, sum_less count j by f g (omega (arith, within, other)) here (λ k less apart. others k (omega (arith, less)) apart), others count (omega arith) (λ e. other (sym e)))
    ]

pub sum_first : (count : ℕ) (f : ℕ → ℕ) → sum_below (suc count) f ≡ f 0 + sum_below count (λ (k : ℕ). f (suc k))
sum_first zero f = omega arith
sum_first (suc count) f = omega (arith, sum_first count f)

pub sum_most : (count most : ℕ) (f : ℕ → ℕ) → ((k : ℕ) → f k ≤ most) → sum_below count f ≤ count * most
sum_most zero most f less = omega arith
sum_most (suc count) most f less = omega (arith, sum_most count most f less, less count)

-- ---- numbers in lists

abbrev pub IsIn : ℕ → List ℕ → Type 0
IsIn number [] = ⊥
IsIn number (first ∷ numbers) = (first ≡ number) ⊎ IsIn number numbers

pub in_first : (number : ℕ) (xs ys : List ℕ) → IsIn number xs → IsIn number (xs ++ ys)
in_first number [] ys there = absurd there
in_first number (x ∷ xs) ys there = elim there [ inl here ↦ inl here | inr later ↦ inr (in_first number xs ys later) ]

pub in_second : (number : ℕ) (xs ys : List ℕ) → IsIn number ys → IsIn number (xs ++ ys)
in_second number [] ys there = there
in_second number (x ∷ xs) ys there = inr (in_second number xs ys there)

pub in_without : (number gone : ℕ) (xs : List ℕ) → (number ≡ gone → ⊥) → IsIn number xs → IsIn number (without_number xs gone)
in_without number gone [] apart there = absurd there
in_without number gone (x ∷ xs) apart there = by (x == gone) refl (in_without number gone xs apart) there
  where
    by : (b : Bool) → (x == gone) ≡ b → (IsIn number xs → IsIn number (without_number xs gone)) → (x ≡ number) ⊎ IsIn number xs → IsIn number (cond (not b) (x ∷ without_number xs gone) (without_number xs gone))
    by true e later here =
        elim here [
          | inl first ↦ absurd (let other : (x == gone) ≡ false = ne_eqb x gone (λ same. apart (sym first ∙ same)) in cc)
          | inr behind ↦ later behind
        ]
    by false e later here = elim here [ inl first ↦ inl first | inr behind ↦ inr (later behind) ]

pub in_range : (number low count : ℕ) → low ≤ number → number < low + count → IsIn number (range_with_len low count)
in_range number low zero from below = absurd (omega (arith, from, below))
in_range number low (suc count) from below =
    elim (cases_eq low number) [
      | inl same ↦ inl same
      | inr other ↦ inr (in_range number (low + 1) count (omega (arith, from, other)) (omega (arith, below)))
    ]

pub range_below : (low count end : ℕ) → low + count ≤ end → Each (λ (n : ℕ). n < end) (range_with_len low count)
range_below low zero end within = tt
range_below low (suc count) end within = (omega (arith, within), range_below (low + 1) count end (omega (arith, within)))

-- ---- what mails weigh

-- a request weighs 2, and a reply 1
abbrev pub weight_of : QMail → ℕ
weight_of mail = if is_request mail.body then 2 else 1

abbrev pub weight_found : Option QMail → ℕ
weight_found None = 0
weight_found (Some mail) = weight_of mail

abbrev pub weights_at : List QMail → List ℕ → ℕ
weights_at mails [] = 0
weights_at mails (number ∷ numbers) = weight_found (slice_get mails number) + weights_at mails numbers

abbrev pub weights_of : List QMail → ℕ
weights_of [] = 0
weights_of (mail ∷ mails) = weight_of mail + weights_of mails

pub weight_most : (mail : QMail) → weight_of mail ≤ 2
weight_most mail = by (is_request mail.body)
  where
    by : (b : Bool) → (if b then 2 else 1) ≤ 2
    by true = omega arith
    by false = omega arith

found_most : (found : Option QMail) → weight_found found ≤ 2
found_most None = omega arith
found_most (Some mail) = weight_most mail

pub weights_most : (mails : List QMail) (numbers : List ℕ) → weights_at mails numbers ≤ 2 * length numbers
weights_most mails [] = omega arith
weights_most mails (number ∷ numbers) = omega (arith, found_most (slice_get mails number), weights_most mails numbers)

pub requests_most : (op : ℕ) (asked : QBody) (replica : ℕ) (answered : List Bool) → weights_of (requests op asked replica answered) ≤ 2 * length answered
requests_most op asked replica [] = omega arith
requests_most op asked replica (true ∷ answered) = omega (arith, requests_most op asked (replica + 1) answered)
requests_most op asked replica (false ∷ answered) =
    omega (arith, weight_most (record { op = op; replica = replica; body = asked }), requests_most op asked (replica + 1) answered)

weights_append : (mails : List QMail) (xs ys : List ℕ) → weights_at mails (xs ++ ys) ≡ weights_at mails xs + weights_at mails ys
weights_append mails [] ys = omega arith
weights_append mails (x ∷ xs) ys = omega (arith, weights_append mails xs ys)

-- mails that were sent weigh as before when others are sent
weights_before : (mails sent : List QMail) (numbers : List ℕ) → Each (λ (n : ℕ). n < length mails) numbers → weights_at (mails ++ sent) numbers ≡ weights_at mails numbers
weights_before mails sent [] each = refl
weights_before mails sent (number ∷ numbers) each =
    let there = some_within mails number each.0 in
    let after : weight_found (slice_get (mails ++ sent) number) ≡ weight_of there.0 = ap weight_found (got_before mails sent number there.0 there.1) in
    let before : weight_found (slice_get mails number) ≡ weight_of there.0 = ap weight_found there.1 in
    omega (arith, after, before, weights_before mails sent numbers each.1)

-- what is sent stands behind what was sent
pub got_behind : (mails sent : List QMail) (n : ℕ) → slice_get (mails ++ sent) (length mails + n) ≡ slice_get sent n
got_behind [] sent n = let same : 0 + n ≡ n = omega arith in ap (slice_get sent) same
got_behind (mail ∷ mails) sent n =
    let same : length (mail ∷ mails) + n ≡ suc (length mails + n) = omega arith in
    ap (slice_get (mail ∷ (mails ++ sent))) same ∙ got_behind mails sent n

weights_new : (mails sent : List QMail) → weights_at (mails ++ sent) (range_with_len (length mails) (length sent)) ≡ weights_of sent
weights_new mails [] = refl
weights_new mails (mail ∷ sent) =
    let same : length mails + 0 ≡ length mails = omega arith in
    let first : weight_found (slice_get (mails ++ mail ∷ sent) (length mails)) ≡ weight_of mail =
    ap weight_found (sym (ap (slice_get (mails ++ mail ∷ sent)) same) ∙ got_behind mails (mail ∷ sent) 0) in
    let joined : (mails ++ mail ∷ []) ++ sent ≡ mails ++ mail ∷ sent = append_assoc mails (mail ∷ []) sent in
    let later : weights_at ((mails ++ mail ∷ []) ++ sent) (range_with_len (length (mails ++ mail ∷ [])) (length sent)) ≡ weights_of sent = weights_new (mails ++ mail ∷ []) sent in
    let one : weights_at (mails ++ mail ∷ sent) (range_with_len (length (mails ++ mail ∷ [])) (length sent)) ≡ weights_of sent =
    subst (λ (all : List QMail). weights_at all (range_with_len (length (mails ++ mail ∷ [])) (length sent)) ≡ weights_of sent) joined later in
    let here : weights_at (mails ++ mail ∷ sent) (range_with_len (length mails + 1) (length sent)) ≡ weights_of sent =
    subst (λ (low : ℕ). weights_at (mails ++ mail ∷ sent) (range_with_len low (length sent)) ≡ weights_of sent) (pushed_length mails mail) one in
    omega (arith, first, here)

-- after a step: what is undelivered still, and what was sent
pub weights_next : (mails sent : List QMail) (still : List ℕ) → Each (λ (n : ℕ). n < length mails) still → weights_at (mails ++ sent) (still ++ range_with_len (length mails) (length sent)) ≡ weights_at mails still + weights_of sent
weights_next mails sent still each =
    omega (arith, weights_append (mails ++ sent) still (range_with_len (length mails) (length sent)), weights_before mails sent still each, weights_new mails sent)

weights_less : (mails : List QMail) (gone : ℕ) (numbers : List ℕ) → weights_at mails (without_number numbers gone) ≤ weights_at mails numbers
weights_less mails gone [] = omega arith
weights_less mails gone (number ∷ numbers) = by (number == gone) (weights_less mails gone numbers)
  where
    by : (b : Bool) → weights_at mails (without_number numbers gone) ≤ weights_at mails numbers → weights_at mails (cond (not b) (number ∷ without_number numbers gone) (without_number numbers gone)) ≤ weights_at mails (number ∷ numbers)
    by true later = omega (arith, later)
    by false later = omega (arith, later)

-- without the oldest its weight is gone
pub weights_without : (mails : List QMail) (first : ℕ) (numbers : List ℕ) → weights_at mails (without_number (first ∷ numbers) first) + weight_found (slice_get mails first) ≤ weights_at mails (first ∷ numbers)
weights_without mails first numbers = by (first == first) (eq-eqb first first refl)
  where
    by : (b : Bool) → b ≡ true → weights_at mails (cond (not b) (first ∷ without_number numbers first) (without_number numbers first)) + weight_found (slice_get mails first) ≤ weights_at mails (first ∷ numbers)
    by true e = omega (arith, weights_less mails first numbers)
    by false e = absurd (cc)
