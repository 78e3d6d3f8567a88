-- The targets of a round are renewed one by one.
use Rattle.std.proofs.Common.{◌≡◌, ℕ, suc, zero, Bool, true, false, cond, List, [], ◌∷◌, ◌++◌, drop, map, take, Option, Some, None, slice_get, slice_set, refl, ap, ◌∙◌}
use Rattle.tp_model.specs.Words.{AdminId, Version}
use Rattle.tp_round.specs.declared.round.Target.{Target}
use Rattle.tp_round.specs.Judge.{is_outdated, new_target, next_target}
use Rattle.tp_round.specs.mirrors.Renewals.{with_renewed, with_renewed_at}

first_where : (target : Target) (targets : List Target) (b : Bool)
    → cond b (slice_set (target ∷ targets) zero (new_target target.server)) (target ∷ targets) ≡ cond b (new_target target.server) target ∷ targets
first_where target targets true = refl
first_where target targets false = refl

later_where : (first : Target) (targets : List Target) (at : ℕ) (new : Target) (b : Bool)
    → cond b (slice_set (first ∷ targets) (suc at) new) (first ∷ targets) ≡ first ∷ cond b (slice_set targets at new) targets
later_where first targets at new true = refl
later_where first targets at new false = refl

later : (aim : List (AdminId × Version)) (first : Target) (targets : List Target) (at : ℕ) (there : Option Target)
    → with_renewed_at aim (first ∷ targets) (suc at) there ≡ first ∷ with_renewed_at aim targets at there
later aim first targets at None = refl
later aim first targets at (Some target) = later_where first targets at (new_target target.server) (is_outdated aim target)

-- where those before a place are renewed, the one at the place is next
pub renewed_on : (aim : List (AdminId × Version)) (targets : List Target) (at : ℕ)
    → with_renewed aim (map (next_target aim) (take at targets) ++ drop at targets) at ≡ map (next_target aim) (take (suc at) targets) ++ drop (suc at) targets
renewed_on aim [] zero = refl
renewed_on aim [] (suc at) = refl
renewed_on aim (target ∷ targets) zero = first_where target targets (is_outdated aim target)
renewed_on aim (target ∷ targets) (suc at) =
    let rest : List Target = map (next_target aim) (take at targets) ++ drop at targets in
    later aim (next_target aim target) rest at (slice_get rest at) ∙ ap (λ more. next_target aim target ∷ more) (renewed_on aim targets at)
