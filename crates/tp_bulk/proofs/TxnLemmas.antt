-- One transaction more.
use Rattle.std.proofs.Common.{◌≡◌, ◌<◌, ◌+◌, ◌-◌, ℕ, suc, List, [], ◌∷◌, ◌++◌, sym, ap, ◌∙◌, arith}
use Rattle.std.proofs.lemmas.List.{append_assoc}
use Rattle.tp_model.specs.Words.{Transaction}
use Rattle.tp_bulk.specs.Bulk.{next_state, txn_at, txns_from}

pub txns_next : {whole : List Transaction} (txns : List Transaction) (made : Transaction) (count number x next : ℕ) (pushed : List Transaction) → number < count → pushed ≡ txns ++ made ∷ [] → made ≡ txn_at number x
    → next ≡ next_state (next_state (next_state x)) → txns ++ txns_from (count - number) number x ≡ whole → pushed ++ txns_from (count - (number + 1)) (number + 1) next ≡ whole
txns_next txns made count number x next pushed low more is then so =
    let left : count - number ≡ suc (count - (number + 1)) = omega (arith, low) in
    ap (λ (l : List Transaction). l ++ txns_from (count - (number + 1)) (number + 1) next) more
    ∙ (append_assoc txns (made ∷ []) (txns_from (count - (number + 1)) (number + 1) next)
    ∙ (ap (λ (t : Transaction). txns ++ t ∷ txns_from (count - (number + 1)) (number + 1) next) is
    ∙ (ap (λ (s : ℕ). txns ++ txn_at number x ∷ txns_from (count - (number + 1)) (number + 1) s) then
    ∙ (ap (λ (n : ℕ). txns ++ txns_from n number x) (sym left) ∙ so))))
