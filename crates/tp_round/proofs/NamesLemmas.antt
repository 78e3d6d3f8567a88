-- What an update names.
use Rattle.std.proofs.Common.{◌≡◌, Bool, true, false, ◌&&◌, ◌||◌, ◌==◌, cond, List, [], ◌∷◌, filter, map, not, Option, refl, ap, subst, sym, ◌∙◌}
use Rattle.std.proofs.lemmas.Bool.{and_parts}
use Rattle.std.proofs.lemmas.List.Folds.{list_all-append}
use Rattle.std.specs.List.{list_all, list_any}
use Rattle.tp_model.specs.Words.{AdminId, Reading, Verdict, Version}
use Rattle.tp_round.specs.declared.round.Judged.TheVariants.{Update}
use Rattle.tp_round.specs.declared.round.Round.{Round}
use Rattle.tp_round.specs.declared.round.Target.{Target}
use Rattle.tp_round.specs.declared.round.Wanted.{Wanted}
use Rattle.tp_round.specs.Judge.{aim_in, is_aimed, is_outdated, judge, want_of, wants_of}
use Rattle.tp_round.specs.Replies.{admins_of, proofs_in, verdicts_in}
use Rattle.tp_round.specs.Laws.{AreNamed, IsNamed, is_behind, target_in}
use Rattle.tp_round.proofs.AdminLemmas.{aimed_is, covered, has_its_admin, wanted_is}
use Rattle.tp_round.proofs.AgainLemmas.{updated}

-- ---- lists of lists

-- all proofs pass a test where those of each server do
pub all_of_each : (passes : Verdict → Bool) (targets : List Target) → list_all passes (proofs_in targets) ≡ list_all (λ target. list_all passes (verdicts_in target)) targets
all_of_each passes [] = refl
all_of_each passes (target ∷ targets) =
    list_all-append passes (verdicts_in target) (proofs_in targets) ∙ ap (λ b. list_all passes (verdicts_in target) && b) (all_of_each passes targets)

any_alike_where : (p q rest others : Bool) → p ≡ q → rest ≡ others → (p || rest) ≡ (q || others)
any_alike_where p q rest others e on = ap (λ b. b || rest) e ∙ ap (λ b. q || b) on

-- two tests agree on a list where they agree on those that pass a third, and all do
pub any_alike : {X : Type 0} (one other within : X → Bool) → ((x : X) → within x ≡ true → one x ≡ other x)
    → (xs : List X) → list_all within xs ≡ true → list_any one xs ≡ list_any other xs
any_alike one other within same [] all = refl
any_alike one other within same (x ∷ xs) all =
    let parts = and_parts (within x) (list_all within xs) all in
    any_alike_where (one x) (other x) (list_any one xs) (list_any other xs) (same x parts.0) (any_alike one other within same xs parts.1)

-- ---- servers that are out of date

abbrev pub admins_in : Round → List AdminId
admins_in round = admins_of (proofs_in round.targets)

abbrev pub is_covered : Round → Target → Bool
is_covered round target = list_all (has_its_admin (admins_in round)) (verdicts_in target)

pub all_covered : (round : Round) → list_all (is_covered round) round.targets ≡ true
all_covered round = sym (all_of_each (has_its_admin (admins_in round)) round.targets) ∙ covered (proofs_in round.targets)

-- a server is out of date where a proof of it has another version than the target
pub outdated_is : (round : Round) (reading : Option Reading) (target : Target) → is_covered round target ≡ true
    → is_outdated (aim_in round reading) target ≡ is_behind round reading target
outdated_is round reading target all =
    any_alike (λ (verdict : Verdict). not (is_aimed (aim_in round reading) verdict))
    (λ (verdict : Verdict). not (target_in round reading verdict.admin == verdict.version.0)) (has_its_admin (admins_in round))
    (λ verdict here. ap not (aimed_is (target_in round reading) (admins_in round) verdict here)) (verdicts_in target) all

-- a server is out of date where one of them is behind
pub any_outdated_is : (round : Round) (reading : Option Reading) → list_any (is_outdated (aim_in round reading)) round.targets ≡ list_any (is_behind round reading) round.targets
any_outdated_is round reading =
    any_alike (is_outdated (aim_in round reading)) (is_behind round reading) (is_covered round) (outdated_is round reading) round.targets (all_covered round)

-- ---- the names

one_named : (round : Round) (reading : Option Reading) (target : Target) → is_covered round target ≡ true
    → IsNamed round reading target (want_of (aim_in round reading) target)
one_named round reading target all = record {
  same = refl;
  targets = wanted_is (target_in round reading) (admins_in round) (verdicts_in target) all;
}

named_where : (round : Round) (reading : Option Reading) (target : Target) (targets : List Target) (b : Bool) → is_covered round target ≡ true
    → AreNamed round reading (filter (is_behind round reading) targets) (map (want_of (aim_in round reading)) (filter (is_outdated (aim_in round reading)) targets))
    → AreNamed round reading (cond b (target ∷ filter (is_behind round reading) targets) (filter (is_behind round reading) targets))
    (map (want_of (aim_in round reading)) (cond b (target ∷ filter (is_outdated (aim_in round reading)) targets) (filter (is_outdated (aim_in round reading)) targets)))
named_where round reading target targets true all rest = (one_named round reading target all, rest)
named_where round reading target targets false all rest = rest

are_named : (round : Round) (reading : Option Reading) (targets : List Target) → list_all (is_covered round) targets ≡ true
    → AreNamed round reading (filter (is_behind round reading) targets) (wants_of (aim_in round reading) targets)
are_named round reading [] all = tt
are_named round reading (target ∷ targets) all =
    let aim : List (AdminId × Version) = aim_in round reading in
    let parts = and_parts (is_covered round target) (list_all (is_covered round) targets) all in
    let P : Bool → Type 0 = λ b. AreNamed round reading (filter (is_behind round reading) (target ∷ targets))
    (map (want_of aim) (cond b (target ∷ filter (is_outdated aim) targets) (filter (is_outdated aim) targets))) in
    subst P (sym (outdated_is round reading target parts.0))
    (named_where round reading target targets (is_behind round reading target) parts.0 (are_named round reading targets parts.1))

pub names_outdated : (round : Round) (reading : Option Reading) (named : List Wanted) → judge round reading ≡ Update named
    → AreNamed round reading (filter (is_behind round reading) round.targets) named
names_outdated round reading named e =
    let is = updated round reading named e in
    let P : List Wanted → Type 0 = AreNamed round reading (filter (is_behind round reading) round.targets) in
    subst P (sym is.is_named) (are_named round reading round.targets (all_covered round))
