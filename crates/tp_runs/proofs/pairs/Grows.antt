-- Changes after which a server holds more deeds of what it held, or what it held is lost.
use Rattle.std.proofs.Common.{◌≡◌, ◌⊎◌, inl, inr, ⊎_elim, ℕ, List, [], ◌++◌, Some, Contains, sym, subst, append_assoc, append-nil}
use Rattle.std.proofs.lemmas.List.{map-append}
use Rattle.std.proofs.lemmas.List.Elements.{Contains-append_left}
use Rattle.tp_model.specs.Words.{Deed}
use Rattle.tp_runs.proofs.pairs.Fits.{Covers, IsGone, IsThere, Tells, There}
use Rattle.tp_runs.proofs.pairs.Loses.{Loses}
use Rattle.tp_runs.proofs.pairs.Pair.{Held, Pair, held, number_of, numbers}
use Rattle.tp_runs.proofs.pairs.Site.{Site}

-- the server holds what it held and more deeds
pub record HasMore (q : Pair) (h : Held) : Type 0 where
  pub more : List Deed
  pub found : IsThere q h.epoch (h.deeds ++ more)

-- what was lost stays lost, and what was there is there with more deeds, or lost
pub record Grows (p q : Pair) : Type 0 where
  pub gone : (epoch : ℕ) → IsGone p epoch → IsGone q epoch
  pub kept : (h : Held) → held p ≡ Some h → HasMore q h ⊎ IsGone q h.epoch

has_same : (q : Pair) (h : Held) → held q ≡ Some h → HasMore q h
has_same q h found =
    let none : h.deeds ≡ h.deeds ++ [] = sym (append-nil h.deeds) in
    record { more = []; found = subst (λ (deeds : List Deed). IsThere q h.epoch deeds) none found }

-- what loses grows by nothing
pub loses_grows : (p q : Pair) → Loses p q → Grows p q
loses_grows p q loses =
    record {
      gone = loses.gone;
      kept = λ h found. ⊎_elim (λ (same : held q ≡ Some h). inl (has_same q h same)) (λ (g : IsGone q h.epoch). inr g) (loses.kept h found);
    }

has_both : (q r : Pair) (h : Held) → Grows q r → HasMore q h → HasMore r h ⊎ IsGone r h.epoch
has_both q r h second m =
    ⊎_elim (λ (n : HasMore r (record { epoch = h.epoch; deeds = h.deeds ++ m.more })).
    inl (record { more = m.more ++ n.more; found = subst (λ (deeds : List Deed). IsThere r h.epoch deeds) (append_assoc h.deeds m.more n.more) n.found }))
    (λ (g : IsGone r h.epoch). inr g)
    (second.kept (record { epoch = h.epoch; deeds = h.deeds ++ m.more }) m.found)

-- one change after another
pub grows_both : (p q r : Pair) → Grows p q → Grows q r → Grows p r
grows_both p q r first second =
    record {
      gone = λ epoch g. second.gone epoch (first.gone epoch g);
      kept = λ h found. ⊎_elim (λ (m : HasMore q h). has_both q r h second m) (λ (g : IsGone q h.epoch). inr (second.gone h.epoch g)) (first.kept h found);
    }

-- ---- what they keep

there_grown : (p q : Pair) (epoch : ℕ) (P : List Deed → Type 0) → ((deeds more : List Deed) → P deeds → P (deeds ++ more)) → Grows p q → There p epoch P → Tells q epoch P
there_grown p q epoch P stays grows t =
    ⊎_elim (λ (m : HasMore q (record { epoch = epoch; deeds = t.deeds })). inl (record { deeds = t.deeds ++ m.more; found = m.found; says = stays t.deeds m.more t.says }))
    (λ (g : IsGone q epoch). inr g)
    (grows.kept (record { epoch = epoch; deeds = t.deeds }) t.found)

-- what is told of an epoch stays true if more deeds keep it so
pub tells_grown : (p q : Pair) (epoch : ℕ) (P : List Deed → Type 0) → ((deeds more : List Deed) → P deeds → P (deeds ++ more)) → Grows p q → Tells p epoch P → Tells q epoch P
tells_grown p q epoch P stays grows told =
    ⊎_elim (λ (t : There p epoch P). there_grown p q epoch P stays grows t) (λ (g : IsGone p epoch). inr (grows.gone epoch g)) told

-- more deeds cover what was covered
pub covers_more : (s : Site) (last : ℕ) (deeds more : List Deed) → Covers s last deeds → Covers s last (deeds ++ more)
covers_more s last deeds more covers number low high at =
    let both : numbers deeds ++ numbers more ≡ numbers (deeds ++ more) = sym (map-append number_of deeds more) in
    subst (λ (all : List ℕ). Contains all number) both (Contains-append_left (numbers deeds) (numbers more) number (covers number low high at))
