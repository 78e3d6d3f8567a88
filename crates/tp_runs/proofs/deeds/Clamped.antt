-- Sums by steps that an i128 holds: over registers that are within a bound, far from its ends, they are the exact sums.
use Rattle.std.proofs.Common.{List, [], arith, ap, fold, negsuc, pos, refl, true, ℕ, ℤ, ◌&&◌, ◌*◌, ◌+ℤ◌, ◌+◌, ◌<◌, ◌^◌, ◌∙◌, ◌∷◌, ◌≡◌, ◌≤◌}
use Rattle.std.proofs.lemmas.Bool.{and_parts}
use Rattle.std.proofs.lemmas.Int.{ints}
use Rattle.std.specs.List.{AllByRecursion, list_all}
use Rattle.tp_model.proofs.RunBounds.{IsWithin, added_within, few_terms, five_terms, grown, operand_within, signed_within}
use Rattle.tp_model.specs.Limits.{has_count}
use Rattle.tp_model.specs.SerialRun.{add_term, operand_in, sum_in, term_in}
use Rattle.tp_model.specs.Valid.{begins_well, is_valid_sum, is_valid_term}
use Rattle.tp_model.specs.Words.{Term}
use Rattle.tp_coord.specs.Sums.{add_clamped, in_128_bits, clamped_sum}

-- what an i128 holds stays
clamped_itself : (bound : ℕ) (z : ℤ) → bound < 2 ^ 127 → IsWithin bound z → in_128_bits z ≡ z
clamped_itself bound (pos n) h k = let high = k.high in grind (arith, ints)
clamped_itself bound (negsuc n) h k = let low = k.low in grind (arith, ints)

-- ---- sums

-- a sum comes at least as far as its terms so far
grown_least : (bound so_far : ℕ) (terms : List Term) → so_far ≤ grown bound so_far terms
grown_least bound so_far [] = omega arith
grown_least bound so_far (term ∷ terms) = let later : so_far + bound ≤ grown bound (so_far + bound) terms = grown_least bound (so_far + bound) terms in omega (arith, later)

-- no step is clamped as long as the terms do not come to the end
steps_exact : (bound : ℕ) (registers : List ℤ) (terms : List Term) (total : ℤ) (so_far : ℕ) → 10 ^ 15 ≤ bound → grown bound so_far terms < 2 ^ 127 → list_all is_valid_term terms ≡ true
    → AllByRecursion (IsWithin bound) registers → IsWithin so_far total → fold (add_clamped registers) total terms ≡ fold (add_term registers) total terms
steps_exact bound registers [] total so_far least most valid all h = refl
steps_exact bound registers (term ∷ terms) total so_far least most valid all h =
    let parts = and_parts (is_valid_term term) (list_all is_valid_term terms) valid in
    let one : IsWithin bound (term_in registers term) = signed_within bound term.minus (operand_in registers term.operand) (operand_within bound registers term.operand least parts.0 all) in
    let next : IsWithin (so_far + bound) (total +ℤ term_in registers term) = added_within so_far bound total (term_in registers term) h one in
    let low : so_far + bound ≤ grown bound (so_far + bound) terms = grown_least bound (so_far + bound) terms in
    ap (λ (sum : ℤ). fold (add_clamped registers) sum terms) (clamped_itself (so_far + bound) (total +ℤ term_in registers term) (omega (arith, low, most)) next)
    ∙ steps_exact bound registers terms (total +ℤ term_in registers term) (so_far + bound) least most parts.1 all next

-- a valid sum over registers within the bound is exact
pub clamped_is : (bound : ℕ) (registers : List ℤ) (expr : List Term) → 10 ^ 15 ≤ bound → 5 * bound < 2 ^ 127 → is_valid_sum expr ≡ true → AllByRecursion (IsWithin bound) registers
    → clamped_sum registers expr ≡ sum_in registers expr
clamped_is bound registers expr least most valid all =
    let front = (and_parts (has_count 1 5 expr && list_all is_valid_term expr && begins_well expr) _ valid).0 in
    let counted = (and_parts (has_count 1 5 expr && list_all is_valid_term expr) (begins_well expr) front).0 in
    let parts = and_parts (has_count 1 5 expr) (list_all is_valid_term expr) counted in
    let reached = five_terms bound expr (few_terms expr parts.0) in
    steps_exact bound registers expr (pos 0) 0 least (omega arith) parts.1 all (record { low = omega (arith, ints); high = omega (arith, ints) })
