-- The terms of a sum, taken one by one.
use Rattle.std.proofs.Common.{◌≡◌, ℕ, List, [], ◌∷◌, ◌++◌, Some, sym, ap, ◌∙◌}
use Rattle.std.specs.Prelude.{option_and_then}
use Rattle.tp_model.specs.Words.{Term}
use Rattle.tp_scenario.specs.Queries.{signed_term, terms_after}

-- a sign and its term are taken
pub terms_step : (made more : List Term) (left behind rest : List (List ℕ)) (sign word : List ℕ) (term : Term) → left ≡ sign ∷ behind → behind ≡ word ∷ rest → Some term ≡ signed_term sign word
    → more ≡ made ++ term ∷ [] → terms_after more rest ≡ terms_after made left
terms_step made more left behind rest sign word term first second said pushed =
    ap (λ (ts : List Term). terms_after ts rest) pushed
    ∙ (ap (option_and_then (λ (t : Term). terms_after (made ++ t ∷ []) rest)) said
    ∙ sym (ap (terms_after made) (first ∙ ap (λ (ws : List (List ℕ)). sign ∷ ws) second)))
