-- What a scheme demands, as loops test it.
use Rattle.std.proofs.Common.{◌≡◌, ◌≢◌, ℕ, zero, suc, ◌+◌, ◌-◌, ◌==◌, Bool, false, List, [], ◌∷◌, length, map, drop, refl, ap}
use Rattle.std.specs.Cmp.Lexicographic.{pointwise}
use Rattle.std.specs.List.{range_with_len}
use Rattle.std.proofs.Math.Bool.{and-false}
use Rattle.tp_model.specs.Words.{Verdict}
use Rattle.tp_model.specs.Demand.{is_over, query_of}

-- from so many on, the proofs are numbered in order up to the count
abbrev pub are_over : ℕ → ℕ → ℕ → List Verdict → Bool
are_over start first many proofs = pointwise ◌==◌ (map query_of (drop start proofs)) (range_with_len (first + start) (many - start))

-- lists of two lengths differ
too_few : (first many : ℕ) (proofs : List Verdict) → length proofs ≢ many → pointwise ◌==◌ (map query_of proofs) (range_with_len first many) ≡ false
too_few first zero [] h = absurd (h refl)
too_few first (suc many) [] h = refl
too_few first zero (proof ∷ proofs) h = refl
too_few first (suc many) (proof ∷ proofs) h =
    let others = too_few (first + 1) many proofs (λ e. h (ap suc e)) in
    rw others (and-false (query_of proof == first))

-- more or fewer proofs than the count are not over it
pub over_other : (first many : ℕ) (proofs : List Verdict) → length proofs ≢ many → is_over first many proofs ≡ false
over_other first many proofs h = too_few first many proofs h
