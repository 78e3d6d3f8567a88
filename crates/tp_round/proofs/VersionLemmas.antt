-- Proofs of one version of each administrator.
use Rattle.std.proofs.Common.{◌≡◌, ℕ, Bool, true, false, ◌==◌, cond, List, [], ◌∷◌, filter, not, Option, refl, ap, sym, ◌∙◌}
use Rattle.std.proofs.lemmas.Bool.{and_from, and_parts, eq-eqb, eqb-true, not-false, or_parts}
use Rattle.std.proofs.lemmas.List.Folds.{list_all-append}
use Rattle.std.specs.List.{flat_map, list_all, list_any, range_with_len}
use Rattle.tp_types.proofs.ListLemmas.{all_filtered}
use Rattle.tp_model.specs.Words.{AdminId, Reading, Verdict}
use Rattle.tp_model.specs.Ids.{same_admin}
use Rattle.tp_model.specs.Versions.{agrees_with, have_one_version, is_one_version}
use Rattle.tp_round.specs.declared.round.Round.{Round}
use Rattle.tp_round.specs.declared.round.Target.{Target}
use Rattle.tp_round.specs.Replies.{by_query, is_at_query, proofs_in, verdicts_in}
use Rattle.tp_round.specs.Laws.{is_behind, target_in}
use Rattle.tp_round.proofs.AdminLemmas.{same_ids}
use Rattle.tp_round.proofs.NamesLemmas.{all_of_each}

-- the proof has the version that is given for its administrator
abbrev pub is_at : (AdminId → ℕ) → Verdict → Bool
is_at f verdict = f verdict.admin == verdict.version.0

-- so have all proofs of a server
abbrev pub are_at : (AdminId → ℕ) → Target → Bool
are_at f target = list_all (is_at f) (verdicts_in target)

-- ---- a list by query

of_numbers : (passes : Verdict → Bool) (proofs : List Verdict) (numbers : List ℕ) → list_all passes proofs ≡ true
    → list_all passes (flat_map (λ number. filter (is_at_query number) proofs) numbers) ≡ true
of_numbers passes proofs [] all = refl
of_numbers passes proofs (number ∷ numbers) all =
    let rest : List Verdict = flat_map (λ other. filter (is_at_query other) proofs) numbers in
    list_all-append passes (filter (is_at_query number) proofs) rest
    ∙ and_from (list_all passes (filter (is_at_query number) proofs)) (list_all passes rest) (all_filtered passes (is_at_query number) proofs all) (of_numbers passes proofs numbers all)

-- what all proofs pass, those by query pass
pub all_by_query : (passes : Verdict → Bool) (proofs : List Verdict) → list_all passes proofs ≡ true → list_all passes (by_query proofs) ≡ true
unfolding by_query
all_by_query passes proofs all = of_numbers passes proofs (range_with_len 1 16) all

-- ---- one version

one_where : (f : AdminId → ℕ) (one other : Verdict) (b : Bool) → same_admin one.admin other.admin ≡ b → is_at f one ≡ true → is_at f other ≡ true
    → cond b (one.version.0 == other.version.0) true ≡ true
one_where f one other true e at so =
    let first : one.version.0 ≡ f one.admin = sym (eqb-true (f one.admin) one.version.0 at) in
    let same : f one.admin ≡ f other.admin = ap f (same_ids one.admin other.admin e) in
    eq-eqb one.version.0 other.version.0 (first ∙ same ∙ eqb-true (f other.admin) other.version.0 so)
one_where f one other false e at so = refl

agrees : (f : AdminId → ℕ) (one : Verdict) (proofs : List Verdict) → is_at f one ≡ true → list_all (is_at f) proofs ≡ true → agrees_with proofs one ≡ true
agrees f one [] at all = refl
agrees f one (other ∷ proofs) at all =
    let parts = and_parts (is_at f other) (list_all (is_at f) proofs) all in
    and_from (have_one_version one other) (agrees_with proofs one) (one_where f one other (same_admin one.admin other.admin) refl at parts.0)
    (agrees f one proofs at parts.1)

agree : (f : AdminId → ℕ) (all some : List Verdict) → list_all (is_at f) all ≡ true → list_all (is_at f) some ≡ true → list_all (agrees_with all) some ≡ true
agree f all [] at so = refl
agree f all (one ∷ some) at so =
    let parts = and_parts (is_at f one) (list_all (is_at f) some) so in
    and_from (agrees_with all one) (list_all (agrees_with all) some) (agrees f one all parts.0 at) (agree f all some at parts.1)

-- proofs that have the versions that are given for their administrators have one version of each
pub one_version : (f : AdminId → ℕ) (proofs : List Verdict) → list_all (is_at f) proofs ≡ true → is_one_version proofs ≡ true
one_version f proofs all = agree f proofs proofs all all

not_behind : (f : AdminId → ℕ) (verdicts : List Verdict) → list_any (λ (verdict : Verdict). not (f verdict.admin == verdict.version.0)) verdicts ≡ false
    → list_all (is_at f) verdicts ≡ true
not_behind f [] none = refl
not_behind f (verdict ∷ verdicts) none =
    let parts = or_parts (not (is_at f verdict)) (list_any (λ (other : Verdict). not (f other.admin == other.version.0)) verdicts) none in
    and_from (is_at f verdict) (list_all (is_at f) verdicts) (not-false (is_at f verdict) parts.0) (not_behind f verdicts parts.1)

none_behind : (round : Round) (reading : Option Reading) (targets : List Target) → list_any (is_behind round reading) targets ≡ false
    → list_all (are_at (target_in round reading)) targets ≡ true
none_behind round reading [] none = refl
none_behind round reading (target ∷ targets) none =
    let parts = or_parts (is_behind round reading target) (list_any (is_behind round reading) targets) none in
    and_from (are_at (target_in round reading) target) (list_all (are_at (target_in round reading)) targets)
    (not_behind (target_in round reading) (verdicts_in target) parts.0) (none_behind round reading targets parts.1)

-- where no server is behind, the proofs by query have one version of each administrator
pub one_version_by_query : (round : Round) (reading : Option Reading) → list_any (is_behind round reading) round.targets ≡ false
    → is_one_version (by_query (proofs_in round.targets)) ≡ true
one_version_by_query round reading none =
    let f : AdminId → ℕ = target_in round reading in
    let all : list_all (is_at f) (proofs_in round.targets) ≡ true = all_of_each (is_at f) round.targets ∙ none_behind round reading round.targets none in
    one_version f (by_query (proofs_in round.targets)) (all_by_query (is_at f) (proofs_in round.targets) all)
