-- Sums of numbers by their digits.
use Rattle.std.proofs.Common.{SFits, ◌≡◌, ◌≢◌, ℕ, zero, suc, ◌+◌, ◌^◌, ◌<◌, ◌≤◌, Bool, true, false, List, [], ◌∷◌, ◌++◌, length, drop, get_or, ℤ, pos, ◌+ℤ◌, ◌*ℤ◌, refl, ap, sym, ◌∙◌, add-one, arith}
use Rattle.std.proofs.lemmas.Int.{ints}
use Rattle.std.specs.Int.{w128}
use Rattle.std.specs.Ordering.{int_eq}
use Rattle.tp_audit.specs.mirrors.Digits.{number_above, number_of}
use Rattle.tp_model.specs.Queries.{with_sign}
use Rattle.tp_model.specs.SerialRun.{number_at}

-- one more digit stands below the rest
above_more : (digits : List ℤ) (digit rest : ℤ) → number_above (digits ++ digit ∷ []) rest ≡ number_above digits (digit +ℤ (rest *ℤ pos (2 ^ 128)))
above_more [] digit rest = refl
above_more (first ∷ digits) digit rest = ap (λ n. first +ℤ (n *ℤ pos (2 ^ 128))) (above_more digits digit rest)

-- what is left from a place on has the digit of the place, which is 0 past the end
digits_from : (digits : List ℤ) (at : ℕ) → number_of (drop at digits) ≡ number_at digits at +ℤ (number_of (drop (suc at) digits) *ℤ pos (2 ^ 128))
digits_from [] zero = refl
digits_from [] (suc at) = refl
digits_from (digit ∷ digits) zero = refl
digits_from (digit ∷ digits) (suc at) = digits_from digits at

carried : (minus : Bool) (carry a b c d part wraps : ℤ) → (part +ℤ (wraps *ℤ pos (2 ^ 128))) ≡ ((carry +ℤ a) +ℤ with_sign minus b)
    → (part +ℤ (((wraps +ℤ c) +ℤ with_sign minus d) *ℤ pos (2 ^ 128))) ≡ ((carry +ℤ (a +ℤ (c *ℤ pos (2 ^ 128)))) +ℤ with_sign minus (b +ℤ (d *ℤ pos (2 ^ 128))))
carried false carry a b c d part wraps e = omega (arith, ints)
carried true carry a b c d part wraps e = omega (arith, ints)

step_from : (made one other : List ℤ) (minus : Bool) (at : ℕ) (carry part wraps : ℤ)
    → (part +ℤ (wraps *ℤ pos (2 ^ 128))) ≡ ((carry +ℤ number_at one at) +ℤ with_sign minus (number_at other at))
    → number_above (made ++ part ∷ []) ((wraps +ℤ number_of (drop (suc at) one)) +ℤ with_sign minus (number_of (drop (suc at) other)))
    ≡ number_above made ((carry +ℤ number_of (drop at one)) +ℤ with_sign minus (number_of (drop at other)))
step_from made one other minus at carry part wraps e =
    above_more made part ((wraps +ℤ number_of (drop (suc at) one)) +ℤ with_sign minus (number_of (drop (suc at) other)))
    ∙ ap (number_above made)
    (carried minus carry (number_at one at) (number_at other at) (number_of (drop (suc at) one)) (number_of (drop (suc at) other)) part wraps e
    ∙ ap (λ n. (carry +ℤ n) +ℤ with_sign minus (number_at other at +ℤ (number_of (drop (suc at) other) *ℤ pos (2 ^ 128)))) (sym (digits_from one at))
    ∙ ap (λ n. (carry +ℤ number_of (drop at one)) +ℤ with_sign minus n) (sym (digits_from other at)))

-- a column more of a sum
pub sum_step : (made one other : List ℤ) (minus : Bool) (at : ℕ) (carry part wraps : ℤ)
    → (part +ℤ (wraps *ℤ pos (2 ^ 128))) ≡ ((carry +ℤ number_at one at) +ℤ with_sign minus (number_at other at))
    → number_above (made ++ part ∷ []) ((wraps +ℤ number_of (drop (at + 1) one)) +ℤ with_sign minus (number_of (drop (at + 1) other)))
    ≡ number_above made ((carry +ℤ number_of (drop at one)) +ℤ with_sign minus (number_of (drop at other)))
sum_step made one other minus at carry part wraps e = rw add-one (step_from made one other minus at carry part wraps e)

pub none_left : (digits : List ℤ) (at : ℕ) → length digits ≤ at → number_of (drop at digits) ≡ pos 0
none_left [] zero h = refl
none_left [] (suc at) h = refl
none_left (digit ∷ digits) zero h = absurd (omega arith)
none_left (digit ∷ digits) (suc at) h = none_left digits at (omega arith)

carry_alone : (minus : Bool) (carry a b : ℤ) → a ≡ pos 0 → b ≡ pos 0 → (carry +ℤ (pos 0 *ℤ pos (2 ^ 128))) ≡ ((carry +ℤ a) +ℤ with_sign minus b)
carry_alone false carry a b e f = omega (arith, ints)
carry_alone true carry a b e f = omega (arith, ints)

-- past both numbers the carry is the last digit
pub sum_end : (made one other : List ℤ) (minus : Bool) (at : ℕ) (carry : ℤ) → length one ≤ at → length other ≤ at
    → number_of (made ++ carry ∷ []) ≡ number_above made ((carry +ℤ number_of (drop at one)) +ℤ with_sign minus (number_of (drop at other)))
sum_end made one other minus at carry h k =
    above_more made carry (pos 0)
    ∙ ap (number_above made) (carry_alone minus carry (number_of (drop at one)) (number_of (drop at other)) (none_left one at h) (none_left other at k))

-- ---- the test for a number

one_number : (digits : List ℤ) (at : ℕ) → at < length digits → number_at digits at ≡ get_or digits at (pos 0)
one_number [] at here = absurd (omega arith)
one_number (digit ∷ digits) zero here = refl
one_number (digit ∷ digits) (suc at) here = one_number digits at (omega arith)

begins : (digits : List ℤ) (at : ℕ) → at < length digits → number_of (drop at digits) ≡ get_or digits at (pos 0) +ℤ (number_of (drop (suc at) digits) *ℤ pos (2 ^ 128))
begins digits at here = digits_from digits at ∙ ap (λ d. d +ℤ (number_of (drop (suc at) digits) *ℤ pos (2 ^ 128))) (one_number digits at here)

rest_is_nothing : (digit rest : ℤ) → int_eq digit (digit +ℤ (rest *ℤ pos (2 ^ 128))) ≡ int_eq (pos 0) rest
rest_is_nothing digit rest = grind (arith, ints)

is_other : (wanted digit rest : ℤ) → SFits w128 wanted → SFits w128 digit → digit ≢ wanted → int_eq wanted (digit +ℤ (rest *ℤ pos (2 ^ 128))) ≡ false
is_other wanted digit rest f g h = grind (arith, ints)

-- a digit that is wanted leaves nothing to be wanted of the others
pub wanted_digit : (digits : List ℤ) (at : ℕ) (wanted : ℤ) (whole : Bool) → at < length digits → get_or digits at (pos 0) ≡ wanted
    → int_eq wanted (number_of (drop at digits)) ≡ whole → int_eq (pos 0) (number_of (drop (at + 1) digits)) ≡ whole
wanted_digit digits at wanted whole here e h =
    rw (add-one, ← rest_is_nothing wanted (number_of (drop (suc at) digits)), ← e) (ap (int_eq (get_or digits at (pos 0))) (sym (begins digits at here)) ∙ rw e h)

-- a digit that is not wanted settles the test
pub other_digit : (digits : List ℤ) (at : ℕ) (wanted : ℤ) (whole : Bool) → at < length digits → SFits w128 wanted → SFits w128 (get_or digits at (pos 0))
    → get_or digits at (pos 0) ≢ wanted → int_eq wanted (number_of (drop at digits)) ≡ whole → false ≡ whole
other_digit digits at wanted whole here f g e h =
    sym (is_other wanted (get_or digits at (pos 0)) (number_of (drop (suc at) digits)) f g e) ∙ ap (int_eq wanted) (sym (begins digits at here)) ∙ h
