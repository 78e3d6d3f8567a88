-- Laws of the flags of undelivered mails.
use Rattle.std.proofs.Common.{◌≡◌, ℕ, zero, suc, ◌+◌, ◌<◌, ◌==◌, List, [], ◌∷◌, ◌++◌, length, replicate, slice_set, Bool, true, false, not, refl, sym, subst, ◌∙◌, ap, arith}
use Rattle.std.specs.List.{range_with_len}
use Rattle.std.proofs.lemmas.Bool.Decides.{nat_tests}
use Rattle.std.proofs.lemmas.List.{length-append, length-replicate}
use Rattle.std.proofs.lemmas.List.Elements.{filter-append}
use Rattle.tp_model.specs.Words.{Letter, Mail}
use Rattle.tp_pending.proofs.FlagLemmas.{marked-append, marked-replicate}
use Rattle.tp_pending.specs.Flags.{marked}
use Rattle.tp_machine.specs.Machine.{mails_of, without_number}

-- each letter becomes one mail
pub length_mails_of : (place number : ℕ) (letters : List Letter) → length (mails_of place number letters) ≡ length letters
length_mails_of place number [] = refl
length_mails_of place number (letter ∷ letters) = ap suc (length_mails_of place (number + 1) letters)

-- no number below the first stands
pub marked-without_below : (n k : ℕ) (flags : List Bool) → k < n → without_number (marked n flags) k ≡ marked n flags
marked-without_below n k [] h = refl
marked-without_below n k (false ∷ flags) h = marked-without_below (n + 1) k flags (omega arith)
marked-without_below n k (true ∷ flags) h =
    let ih = marked-without_below (n + 1) k flags (omega arith) in
    let e : (n == k) ≡ false = grind (arith, nat_tests) in
    rw e (ap (λ ns. n ∷ ns) ih)

-- a flag that is taken down takes its number out
pub marked-cleared : (n k : ℕ) (flags : List Bool) → marked n (slice_set flags k false) ≡ without_number (marked n flags) (n + k)
marked-cleared n k [] = refl
marked-cleared n zero (true ∷ flags) =
    let e : (n == (n + 0)) ≡ true = grind (arith, nat_tests) in
    rw e (sym (marked-without_below (n + 1) (n + 0) flags (omega arith)))
marked-cleared n zero (false ∷ flags) = sym (marked-without_below (n + 1) (n + 0) flags (omega arith))
marked-cleared n (suc k) (true ∷ flags) =
    let e : (n == (n + suc k)) ≡ false = grind (arith, nat_tests) in
    let same : (n + 1) + k ≡ n + suc k = omega arith in
    rw e (ap (λ ns. n ∷ ns) (marked-cleared (n + 1) k flags ∙ ap (without_number (marked (n + 1) flags)) same))
marked-cleared n (suc k) (false ∷ flags) =
    let same : (n + 1) + k ≡ n + suc k = omega arith in
    marked-cleared (n + 1) k flags ∙ ap (without_number (marked (n + 1) flags)) same

-- with each new mail a flag is set
pub length-flags_mails_of : (place : ℕ) (flags : List Bool) (mails : List Mail) (letters : List Letter) → length flags ≡ length mails
    → length (flags ++ replicate (length letters) true) ≡ length (mails ++ mails_of place (length mails) letters)
length-flags_mails_of place flags mails letters same =
    omega (arith, same, length-append flags (replicate (length letters) true), length-replicate (length letters) true, length-append mails (mails_of place (length mails) letters), length_mails_of place (length mails) letters)

-- flags that are added at the end add their numbers
pub marked-mails_of : (flags : List Bool) (count : ℕ) → marked 0 (flags ++ replicate count true) ≡ marked 0 flags ++ range_with_len (length flags) count
marked-mails_of flags count =
    marked-append 0 flags (replicate count true)
    ∙ (ap (λ k. marked 0 flags ++ marked k (replicate count true)) (omega arith) ∙ ap (λ ns. marked 0 flags ++ ns) (marked-replicate (length flags) count))

-- and one before them may be taken down
pub marked-mails_of_cleared : (flags : List Bool) (count k : ℕ) → k < length flags
    → marked 0 (slice_set (flags ++ replicate count true) k false) ≡ without_number (marked 0 flags) k ++ range_with_len (length flags) count
marked-mails_of_cleared flags count k h =
    let same : 0 + k ≡ k = omega arith in
    let all = marked-cleared 0 k (flags ++ replicate count true) in
    let later : without_number (range_with_len (length flags) count) k ≡ range_with_len (length flags) count =
    subst (λ (ns : List ℕ). without_number ns k ≡ ns) (marked-replicate (length flags) count) (marked-without_below (length flags) k (replicate count true) h) in
    all
    ∙ (ap (without_number (marked 0 (flags ++ replicate count true))) same
    ∙ (ap (λ (ns : List ℕ). without_number ns k) (marked-mails_of flags count)
    ∙ (filter-append (λ (other : ℕ). not (other == k)) (marked 0 flags) (range_with_len (length flags) count)
    ∙ ap (λ (ns : List ℕ). without_number (marked 0 flags) k ++ ns) later)))
