-- Trust: the proofs that an incremental transaction gathers, each by the version that the first of its administrator pins, and the instances
-- that it closes of them.
use Rattle.std.specs.List.{range_with_len}
use Rattle.std.specs.Option.{option_map_or}
use Rattle.std.proofs.Common.{IfSome, List, None, Option, Some, [], ap, arith, length, refl, suc, sym, take, true, zero, ℕ, ◌++◌, ◌+◌, ◌<◌, ◌∙◌, ◌∷◌, ◌≡◌, ◌≤◌}
use Rattle.std.proofs.lemmas.Bool.{eq-eqb}
use Rattle.tp_types.proofs.EachLemmas.{each_append, each_as}
use Rattle.tp_types.proofs.ListLemmas.{number_itself}
use Rattle.tp_types.specs.Each.{Each}
use Rattle.tp_model.specs.Versions.{is_one_version}
use Rattle.tp_model.specs.Words.{AdminId, Verdict, Version}
use Rattle.tp_scheme.proofs.PinLemmas.{first_proofs_pin, pins_stay}
use Rattle.tp_scheme.specs.Gathered.{pin_of}
use Rattle.tp_round.proofs.VersionLemmas.{is_at, one_version}
use Rattle.tp_runs.proofs.basics.Facts.{all_from_each}
use Rattle.tp_runs.proofs.basics.Turns.{AreEarlier}
use Rattle.tp_runs.proofs.basics.Verdicts.{numbers_of}

-- ---- pins

-- of each administrator all have the version that its first pins
abbrev pub ArePinned : List Verdict → Type 0
ArePinned proofs = Each (λ (proof : Verdict). pin_of proofs proof.admin ≡ Some proof.version) proofs

pinned_more : (proofs : List Verdict) (proof : Verdict) (pin : Option Version) → pin_of proofs proof.admin ≡ pin → IfSome pin (λ (one : Version). proof.version ≡ one) → pin_of (proofs ++ proof ∷ []) proof.admin ≡ Some proof.version
pinned_more proofs proof None e h = (first_proofs_pin proofs proof proof.admin e).0 (number_itself proof.admin.0)
pinned_more proofs proof (Some pin) e h = pins_stay proofs proof proof.admin pin e ∙ ap (λ (v : Version). Some v) (sym h)

-- so are they with one more of the version that is pinned, if one is
pub pins_more : (proofs : List Verdict) (proof : Verdict) → ArePinned proofs → IfSome (pin_of proofs proof.admin) (λ (pin : Version). proof.version ≡ pin) → ArePinned (proofs ++ proof ∷ [])
pins_more proofs proof h k =
    let more = proofs ++ proof ∷ [] in
    each_append (λ (one : Verdict). pin_of more one.admin ≡ Some one.version) proofs (proof ∷ [])
    (each_as (λ (one : Verdict). pin_of proofs one.admin ≡ Some one.version) (λ (one : Verdict). pin_of more one.admin ≡ Some one.version) (λ one e. pins_stay proofs proof one.admin one.version e) proofs h)
    (pinned_more proofs proof (pin_of proofs proof.admin) refl k, tt)

abbrev pinned_at : List Verdict → AdminId → ℕ
pinned_at proofs admin = option_map_or (λ (version : Version). version.0) (pin_of proofs admin) 0

-- and so they have one version of each
pub pinned_agree : (proofs : List Verdict) → ArePinned proofs → is_one_version proofs ≡ true
pinned_agree proofs h =
    one_version (pinned_at proofs) proofs
    (all_from_each (λ (one : Verdict). pin_of proofs one.admin ≡ Some one.version) (is_at (pinned_at proofs))
    (λ one e. eq-eqb (pinned_at proofs one.admin) one.version.0 (ap (λ (found : Option Version). option_map_or (λ (version : Version). version.0) found 0) e)) proofs h)

-- ---- places

-- each proof was made after the one before it
abbrev pub AreRising : List Verdict → Type 0
AreRising [] = Unit {0}
AreRising (proof ∷ []) = Unit {0}
AreRising (proof ∷ next ∷ proofs) = (proof.place < next.place) × AreRising (next ∷ proofs)

pub rising_more : (proofs : List Verdict) (proof : Verdict) → AreRising proofs → AreEarlier proof.place proofs → AreRising (proofs ++ proof ∷ [])
rising_more [] proof h k = tt
rising_more (one ∷ []) proof h k = (k.0, tt)
rising_more (one ∷ next ∷ proofs) proof h k = (h.0, rising_more (next ∷ proofs) proof h.1 k.1)

-- ---- numbers

pub numbers_append : (one more : List Verdict) → numbers_of (one ++ more) ≡ numbers_of one ++ numbers_of more
numbers_append [] more = refl
numbers_append (first ∷ one) more = ap (λ (ns : List ℕ). first.query ∷ ns) (numbers_append one more)

pub range_push : (start many : ℕ) → range_with_len start many ++ (start + many) ∷ [] ≡ range_with_len start (suc many)
range_push start zero = let none : start + 0 ≡ start = omega arith in ap (λ (n : ℕ). n ∷ []) none
range_push start (suc many) =
    let next : start + suc many ≡ start + 1 + many = omega arith in
    ap (λ (ns : List ℕ). start ∷ ns) (ap (λ (n : ℕ). range_with_len (start + 1) many ++ n ∷ []) next ∙ range_push (start + 1) many)

-- ---- fronts

pub length_numbers : (proofs : List Verdict) → length (numbers_of proofs) ≡ length proofs
length_numbers [] = refl
length_numbers (proof ∷ proofs) = let rest = length_numbers proofs in omega (arith, rest)

-- what comes behind leaves a front
pub take_front : (proofs : List Verdict) (proof : Verdict) (many : ℕ) → many ≤ length proofs → take many (proofs ++ proof ∷ []) ≡ take many proofs
take_front proofs proof zero low = refl
take_front [] proof (suc many) low = absurd (omega (arith, low))
take_front (first ∷ proofs) proof (suc many) low = ap (λ (rest : List Verdict). first ∷ rest) (take_front proofs proof many (omega (arith, low)))
