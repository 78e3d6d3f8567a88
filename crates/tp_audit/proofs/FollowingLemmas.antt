-- How instances follow one another, and rounds, as loops test it.
use Rattle.std.proofs.Common.{◌≡◌, ℕ, zero, suc, ◌+◌, ◌<◌, ◌≤◌, ◌&&◌, Bool, true, false, List, [], ◌∷◌, length, get_or, drop, take, slice_get, refl, ap, sym, ◌∙◌, add-one, arith}
use Rattle.std.proofs.lemmas.List.{get_or_default}
use Rattle.std.specs.Option.{option_map_or}
use Rattle.tp_types.proofs.ListLemmas.{rest_at}
use Rattle.tp_model.specs.Words.{Fact, Instance, Met, Scenario, Scheme, Verdict}
use Rattle.tp_model.specs.Causes.{are_met_on, is_met_after}
use Rattle.tp_model.specs.Demand.{each_follows, follows}
use Rattle.tp_model.specs.Ids.{same_proofs, same_verdict}

-- the list begins with the same proofs
abbrev pub begins_with : List Verdict → List Verdict → Bool
begins_with [] others = true
begins_with (proof ∷ proofs) [] = false
begins_with (proof ∷ proofs) (other ∷ others) = same_verdict proof other && begins_with proofs others

-- so do as many of its first
pub same_front : (proofs others : List Verdict) → same_proofs proofs (take (length proofs) others) ≡ begins_with proofs others
same_front [] others = refl
same_front (proof ∷ proofs) [] = refl
same_front (proof ∷ proofs) (other ∷ others) = ap (λ (b : Bool). same_verdict proof other && b) (same_front proofs others)

front : {A : Type 0} (xs : List A) (at : ℕ) → slice_get (drop at xs) 0 ≡ slice_get xs at
front xs zero = refl
front [] (suc at) = refl
front (x ∷ xs) (suc at) = front xs at

-- one turn of the comparison
begins_here : (proof : Verdict) (proofs : List Verdict) (others : List Verdict)
    → begins_with (proof ∷ proofs) others ≡ (option_map_or (same_verdict proof) (slice_get others 0) false && begins_with proofs (drop 1 others))
begins_here proof proofs [] = refl
begins_here proof proofs (other ∷ others) = refl

later : {A : Type 0} (xs : List A) (at : ℕ) → drop 1 (drop at xs) ≡ drop (suc at) xs
later xs zero = refl
later [] (suc at) = refl
later (x ∷ xs) (suc at) = later xs at

pub begins_at : (proofs others : List Verdict) (at : ℕ) (proof : Verdict) → at < length proofs → proof ≡ get_or proofs at proof
    → begins_with (drop at proofs) (drop at others) ≡ (option_map_or (same_verdict proof) (slice_get others at) false && begins_with (drop (at + 1) proofs) (drop (at + 1) others))
begins_at proofs others at proof within e =
    ap (λ these. begins_with these (drop at others)) (rest_at proofs at proof within e) ∙ begins_here proof (drop (at + 1) proofs) (drop at others)
    ∙ ap (λ other. option_map_or (same_verdict proof) other false && begins_with (drop (at + 1) proofs) (drop 1 (drop at others))) (front others at)
    ∙ ap (λ those. option_map_or (same_verdict proof) (slice_get others at) false && begins_with (drop (at + 1) proofs) those)
    (later others at ∙ ap (λ n. drop n others) (sym (add-one at)))

-- none is left
pub begins_none : (proofs others : List Verdict) (at : ℕ) → length proofs ≤ at → begins_with (drop at proofs) others ≡ true
begins_none [] others zero h = refl
begins_none [] others (suc at) h = refl
begins_none (proof ∷ proofs) others zero h = absurd (omega arith)
begins_none (proof ∷ proofs) others (suc at) h = begins_none proofs others at (omega arith)

-- an instance is followed by the next, if there is one, and so are those after it
follows_next : (scheme : Scheme) (one : Instance) (instances : List Instance)
    → each_follows scheme (one ∷ instances) ≡ (option_map_or (follows scheme one) (slice_get instances 0) true && each_follows scheme instances)
follows_next scheme one [] = refl
follows_next scheme one (next ∷ instances) = refl

pub follows_at : (scheme : Scheme) (instances : List Instance) (at : ℕ) (one : Instance) → at < length instances → one ≡ get_or instances at one
    → each_follows scheme (drop at instances) ≡ (option_map_or (follows scheme one) (slice_get instances (at + 1)) true && each_follows scheme (drop (at + 1) instances))
follows_at scheme instances at one within e =
    ap (each_follows scheme) (rest_at instances at one within e) ∙ follows_next scheme one (drop (at + 1) instances)
    ∙ ap (λ next. option_map_or (follows scheme one) next true && each_follows scheme (drop (at + 1) instances)) (front instances (at + 1))

-- so it is with rounds
met_next : (sc : Scenario) (facts : List Fact) (one : Met) (mets : List Met)
    → are_met_on sc facts (one ∷ mets) ≡ (option_map_or (is_met_after sc facts one.place) (slice_get mets 0) true && are_met_on sc facts mets)
met_next sc facts one [] = refl
met_next sc facts one (next ∷ mets) = refl

-- past the end of a list
abbrev pub no_met : Met
no_met = record { admin = record { 0 = 0 }; used = record { 0 = 0 }; newest = record { 0 = 0 }; place = 0 }

pub met_at : (sc : Scenario) (facts : List Fact) (mets : List Met) (at : ℕ) → at < length mets
    → are_met_on sc facts (drop at mets)
    ≡ (option_map_or (is_met_after sc facts (get_or mets at no_met).place) (slice_get mets (at + 1)) true && are_met_on sc facts (drop (at + 1) mets))
met_at sc facts mets at within =
    let one = get_or mets at no_met in
    ap (are_met_on sc facts) (rest_at mets at one within (get_or_default mets at no_met one within)) ∙ met_next sc facts one (drop (at + 1) mets)
    ∙ ap (λ next. option_map_or (is_met_after sc facts one.place) next true && are_met_on sc facts (drop (at + 1) mets)) (front mets (at + 1))
