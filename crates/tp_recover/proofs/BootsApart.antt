-- Boots count in the epoch alone.
use Rattle.std.proofs.Common.{◌≡◌, ℕ, fold, ◌+◌, ◌≤◌, ◌++◌, List, [], ◌∷◌, length, Option, Some, None, refl, ap, sym, ◌∙◌, arith}
use Rattle.tp_model.specs.Words.{Prepared, Record, Scenario, ServerId, Settled}
use Rattle.tp_model.specs.Words.log
use Rattle.tp_recover.specs.declared.kept.Kept.{Kept}
use Rattle.tp_recover.specs.Kept.{kept, kept_end, kept_first, kept_step, kept_told, kept_vote, of_txn}
use Rattle.tp_recover.specs.Laws.{DecidedApart, KeptApart}
use Rattle.tp_recover.specs.Log.{boots_in, without_boots}

-- ---- what is counted, and what is left

pub boots_append : (before more : List Record) → boots_in (before ++ more) ≡ boots_in before + boots_in more
boots_append [] more = omega arith
boots_append (log.Boot ∷ before) more = omega (arith, boots_append before more)
boots_append (log.Told t ∷ before) more = boots_append before more
boots_append (log.Prepared p ∷ before) more = boots_append before more
boots_append (log.Settled s ∷ before) more = boots_append before more
boots_append (log.Decided d ∷ before) more = boots_append before more

pub without_append : (before more : List Record) → without_boots (before ++ more) ≡ without_boots before ++ without_boots more
without_append [] more = refl
without_append (log.Boot ∷ before) more = without_append before more
without_append (log.Told t ∷ before) more = ap (λ (rs : List Record). log.Told t ∷ rs) (without_append before more)
without_append (log.Prepared p ∷ before) more = ap (λ (rs : List Record). log.Prepared p ∷ rs) (without_append before more)
without_append (log.Settled s ∷ before) more = ap (λ (rs : List Record). log.Settled s ∷ rs) (without_append before more)
without_append (log.Decided d ∷ before) more = ap (λ (rs : List Record). log.Decided d ∷ rs) (without_append before more)

pub boots_few : (records : List Record) → boots_in records ≤ length records
boots_few [] = omega arith
boots_few (log.Boot ∷ records) = omega (arith, boots_few records)
boots_few (log.Told t ∷ records) = omega (arith, boots_few records)
boots_few (log.Prepared p ∷ records) = omega (arith, boots_few records)
boots_few (log.Settled s ∷ records) = omega (arith, boots_few records)
boots_few (log.Decided d ∷ records) = omega (arith, boots_few records)

-- ---- what is kept

abbrev with_epoch : Kept → ℕ → Kept
with_epoch k n = record k { epoch = n }

vote_apart : (k : Kept) (n : ℕ) (p : Prepared) (before : Option Settled) → kept_vote (with_epoch k n) p before ≡ with_epoch (kept_vote k p before) n
vote_apart k n p None = refl
vote_apart k n p (Some s) = refl

end_apart : (k : Kept) (n : ℕ) (s : Settled) (before : Option Settled) → kept_end (with_epoch k n) s before ≡ with_epoch (kept_end k s before) n
end_apart k n s None = refl
end_apart k n s (Some first) = refl

fold_apart : (k : Kept) (n : ℕ) (records : List Record) → fold kept_step (with_epoch k n) records ≡ with_epoch (fold kept_step k (without_boots records)) (n + boots_in records)
fold_apart k n [] = ap (with_epoch k) (omega arith)
fold_apart k n (log.Boot ∷ records) =
    fold_apart k (n + 1) records ∙ ap (with_epoch (fold kept_step k (without_boots records))) (omega arith)
fold_apart k n (log.Told t ∷ records) = fold_apart (kept_step k (log.Told t)) n records
fold_apart k n (log.Prepared p ∷ records) =
    ap (λ (next : Kept). fold kept_step next records) (vote_apart (kept_told k p.told) n p (of_txn k.settled p.txn))
    ∙ fold_apart (kept_step k (log.Prepared p)) n records
fold_apart k n (log.Settled s ∷ records) =
    ap (λ (next : Kept). fold kept_step next records) (end_apart k n s (of_txn k.settled s.txn))
    ∙ fold_apart (kept_step k (log.Settled s)) n records
fold_apart k n (log.Decided d ∷ records) = fold_apart k n records

pub kept_is_apart : KeptApart
kept_is_apart sc at records =
    fold_apart (kept_first sc at) 1 records ∙ ap (with_epoch (kept sc at (without_boots records))) (omega arith)

-- so it is of a log whose boots are counted
pub kept_counted : (sc : Scenario) (at : ServerId) (others : List Record) (boots : ℕ) (made : Kept) → made ≡ record (kept sc at others) { epoch = boots + 1 }
    → (records : List Record) → others ≡ without_boots records → boots ≡ boots_in records → made ≡ kept sc at records
kept_counted sc at others boots made is records left counted =
    is ∙ ap (λ (rs : List Record). with_epoch (kept sc at rs) (boots + 1)) left
    ∙ ap (λ (n : ℕ). with_epoch (kept sc at (without_boots records)) (n + 1)) counted
    ∙ sym (kept_is_apart sc at records)

-- ---- what is decided

pub decided_is_apart : DecidedApart
decided_is_apart [] = refl
decided_is_apart (log.Boot ∷ records) = decided_is_apart records
decided_is_apart (log.Told t ∷ records) = decided_is_apart records
decided_is_apart (log.Prepared p ∷ records) = decided_is_apart records
decided_is_apart (log.Settled s ∷ records) = decided_is_apart records
decided_is_apart (log.Decided d ∷ records) = refl
