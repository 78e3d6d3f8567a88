-- The nearest of three is the nearer of the first two, and then of this one and the third.
use Rattle.std.proofs.Common.{◌≡◌, ℕ, Bool, true, false, nat_lt, cond, List, length, drop, get_or, ◌+◌, ◌<◌, Option, Some, None, refl, ap, sym, ◌∙◌, arith, true≢false}
use Rattle.std.proofs.lemmas.Bool.Decides.{nat_tests}
use Rattle.std.proofs.lemmas.List.{at_drop_more}
use Rattle.tp_model.specs.Words.{CredId}
use Rattle.tp_why.specs.declared.nearest.Failing.{Failing}
use Rattle.tp_why.specs.Nearest.{nearer, nearest_by, passed}

abbrev before : Failing → Failing → Bool
before one other = nat_lt (passed one.fault) (passed other.fault)

none_last : (one : Option Failing) → nearer one None ≡ one
none_last None = refl
none_last (Some one) = refl

three : (one two other : Failing) (first second across : Bool) → before one two ≡ first → before two other ≡ second → before one other ≡ across
    → nearer (Some one) (cond second (Some other) (Some two)) ≡ nearer (cond first (Some two) (Some one)) (Some other)
three one two other true true true e f g = rw (g, f) refl
three one two other true true false e f g = absurd (true≢false (sym (grind (arith, nat_tests)) ∙ g))
three one two other true false across e f g = rw (e, f) refl
three one two other false true across e f g = refl
three one two other false false true e f g = absurd (true≢false (sym g ∙ grind (arith, nat_tests)))
three one two other false false false e f g = rw (e, g) refl

pub nearer_three : (one two other : Option Failing) → nearer (nearer one two) other ≡ nearer one (nearer two other)
nearer_three None two other = refl
nearer_three (Some one) None other = refl
nearer_three (Some one) (Some two) None = none_last (nearer (Some one) (Some two))
nearer_three (Some one) (Some two) (Some other) = sym (three one two other (before one two) (before two other) (before one other) refl refl refl)

-- one credential more
pub next_nearest : (failing_by : CredId → Option Failing) (creds : List CredId) (at : ℕ) (best found now whole : Option Failing) (none : CredId) → at < length creds
    → found ≡ failing_by (get_or creds at none) → now ≡ nearer best found → nearer best (nearest_by failing_by (drop at creds)) ≡ whole
    → nearer now (nearest_by failing_by (drop (at + 1) creds)) ≡ whole
next_nearest failing_by creds at best found now whole none lt here nearer_is so =
    let others = nearest_by failing_by (drop (at + 1) creds) in
    ap (λ (one : Option Failing). nearer one others) nearer_is
    ∙ nearer_three best found others
    ∙ ap (nearer best) (ap (λ (one : Option Failing). nearer one others) here ∙ sym (at_drop_more (nearest_by failing_by) creds at none lt))
    ∙ so
