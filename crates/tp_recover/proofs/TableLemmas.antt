-- What is prepared stands in the front of a table.
use Rattle.std.proofs.Common.{◌≡◌, ℕ, zero, suc, ◌-◌, List, [], ◌∷◌, ◌++◌, length, replicate, Option, Some, None, refl, ap, ◌∙◌}
use Rattle.tp_model.specs.Words.{Prepared}
use Rattle.tp_places.specs.Padded.{padded}
use Rattle.tp_model.specs.ByAge.{by_txn}

by_txn-none : (n : ℕ) → by_txn (replicate n None) ≡ []
by_txn-none zero = refl
by_txn-none (suc n) = by_txn-none n

-- empty places behind others list nothing
pub by_txn_before : (made : List (Option Prepared)) (n : ℕ) → by_txn (made ++ replicate n None) ≡ by_txn made
by_txn_before [] n = by_txn-none n
by_txn_before (None ∷ made) n = by_txn_before made n
by_txn_before (Some p ∷ made) n = ap (λ (ps : List Prepared). p ∷ ps) (by_txn_before made n)

-- a table lists what its front lists
pub by_txn_padded : (made : List (Option Prepared)) (count : ℕ) → by_txn (padded made count) ≡ by_txn made
by_txn_padded made count = by_txn_before made (count - length made)

pub by_txn_front : (table made : List (Option Prepared)) (n : ℕ) → table ≡ made ++ replicate n None → by_txn table ≡ by_txn made
by_txn_front table made n is = ap by_txn is ∙ by_txn_before made n
