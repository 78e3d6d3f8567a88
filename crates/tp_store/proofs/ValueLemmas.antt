-- Values with what was written over them.
use Rattle.std.proofs.Common.{◌≡◌, ℕ, zero, suc, List, [], ◌∷◌, length, replicate, slice_get, slice_set, Option, Some, None, unwrap_or, ℤ, refl, sym, ap, arith}
use Rattle.std.specs.Option.{option_flatten}
use Rattle.tp_store.specs.mirrors.Values.{laid}

pub none_laid : (values : List ℤ) → laid values (replicate (length values) None) ≡ values
none_laid [] = refl
none_laid (value ∷ values) = ap (λ (others : List ℤ). value ∷ others) (none_laid values)

pub laid_over : (values : List ℤ) (written : List (Option ℤ)) (at : ℕ) (value : ℤ) → length written ≡ length values
    → laid values (slice_set written at (Some value)) ≡ slice_set (laid values written) at value
laid_over [] [] at value long = refl
laid_over [] (over ∷ written) at value long = absurd (omega (arith, long))
laid_over (old ∷ values) [] at value long = absurd (omega (arith, long))
laid_over (old ∷ values) (over ∷ written) zero value long = refl
laid_over (old ∷ values) (over ∷ written) (suc at) value long = ap (λ (others : List ℤ). unwrap_or over old ∷ others) (laid_over values written at value (omega (arith, long)))

pub read_written : (values : List ℤ) (written : List (Option ℤ)) (at : ℕ) → length written ≡ length values
    → (option_flatten (slice_get written at) ≡ None → ⊥) → option_flatten (slice_get written at) ≡ slice_get (laid values written) at
read_written [] [] at long stands = refl
read_written [] (over ∷ written) at long stands = absurd (omega (arith, long))
read_written (old ∷ values) [] at long stands = absurd (omega (arith, long))
read_written (old ∷ values) (None ∷ written) zero long stands = absurd (stands refl)
read_written (old ∷ values) (Some value ∷ written) zero long stands = refl
read_written (old ∷ values) (over ∷ written) (suc at) long stands = read_written values written at (omega (arith, long)) stands

pub read_under : (values : List ℤ) (written : List (Option ℤ)) (at : ℕ) → length written ≡ length values
    → option_flatten (slice_get written at) ≡ None → slice_get values at ≡ slice_get (laid values written) at
read_under [] written at long is = refl
read_under (old ∷ values) [] at long is = absurd (omega (arith, long))
read_under (old ∷ values) (over ∷ written) zero long is = ap (λ other. Some (unwrap_or other old)) (sym is)
read_under (old ∷ values) (over ∷ written) (suc at) long is = read_under values written at (omega (arith, long)) is
