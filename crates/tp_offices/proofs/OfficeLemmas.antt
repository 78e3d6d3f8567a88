-- The revocations, place by place.
use Rattle.std.proofs.Common.{◌≡◌, ◌+◌, ◌<◌, ℕ, List, [], ◌∷◌, ◌++◌, append-nil, append_assoc, add-one, drop, get_or, length, Option, Some, None, suc, ap, sym, ◌∙◌}
use Rattle.std.proofs.Math.Seq.{drop-cons}
use Rattle.std.specs.Option.{option_to_list}
use Rattle.tp_model.specs.Words.{CredId}
use Rattle.tp_offices.specs.Authority.{revocations}

place_more : (creds : List CredId) (place : Option CredId) (places : List (Option CredId))
    → (creds ++ option_to_list place) ++ revocations places ≡ creds ++ revocations (place ∷ places)
place_more creds None places = ap (λ list. list ++ revocations places) (append-nil creds)
place_more creds (Some cred) places = append_assoc creds (cred ∷ []) (revocations places)

-- one place on, with what stands there added, the places that are left lead to the same list
pub noted_more : (places : List (Option CredId)) (at : ℕ) (creds : List CredId) → at < length places → creds ++ revocations (drop at places) ≡ revocations places
    → (creds ++ option_to_list (get_or places at None)) ++ revocations (drop (at + 1) places) ≡ revocations places
noted_more places at creds lt so =
    rw add-one (place_more creds (get_or places at None) (drop (suc at) places) ∙ ap (λ list. creds ++ revocations list) (sym (drop-cons places at None lt)) ∙ so)
