-- Rounds in which no server is out of date.
use Rattle.std.proofs.Common.{◌≡◌, ◌⊎◌, inl, inr, ℕ, suc, zero, Bool, true, false, ◌&&◌, cond, List, [], ◌∷◌, nat_lt, not, Option, Some, None, slice_get, arith, refl, ap, sym, ◌∙◌}
use Rattle.std.proofs.lemmas.Bool.{and_from, and_left, and_right, or_from}
use Rattle.std.proofs.lemmas.Bool.Decides.{nat_tests}
use Rattle.std.specs.List.{fold, list_all, list_any}
use Rattle.std.specs.Option.{is_none, option_map_or}
use Rattle.tp_model.specs.Words.{Met, Reading, Verdict}
use Rattle.tp_round.specs.declared.round.Judged.TheVariants.{Waiting, AllTrue, False, Spent, Update}
use Rattle.tp_round.specs.declared.round.Round.{Round}
use Rattle.tp_round.specs.declared.round.Wanted.{Wanted}
use Rattle.tp_round.specs.Judge.{aim_in, final_answer, is_outdated, is_spent, is_waiting, judge, met_in, mets_in, wants_of}
use Rattle.tp_round.specs.Replies.{least_false, proofs_in, sooner, sooner_false}
use Rattle.tp_round.specs.Laws.{AllAgree, IsLeastFalse, is_behind, is_sooner, is_true}
use Rattle.tp_round.proofs.NamesLemmas.{any_outdated_is}
use Rattle.tp_round.proofs.VersionLemmas.{one_version_by_query}

-- ---- the false proof of least query

is_some_where : (first verdict : Verdict) (b : Bool) → cond b (Some verdict) (Some first) ≡ None → ⊥
is_some_where first verdict true e = cc
is_some_where first verdict false e = cc

is_some_sooner : (first : Option Verdict) (verdict : Verdict) → sooner first verdict ≡ None → ⊥
is_some_sooner None verdict e = cc
is_some_sooner (Some first) verdict e = is_some_where first verdict (nat_lt verdict.query first.query) e

none_where : (first : Option Verdict) (verdict : Verdict) (rest b : Bool) → is_none verdict.rule ≡ b → cond b (sooner first verdict) first ≡ None → rest ≡ true
    → (first ≡ None) × ((not (is_none verdict.rule) && rest) ≡ true)
none_where first verdict rest true e none all = absurd (is_some_sooner first verdict none)
none_where first verdict rest false e none all = (none, and_from (not (is_none verdict.rule)) rest (ap not e) all)

-- where none is found, none is false
none_false : (first : Option Verdict) (proofs : List Verdict) → fold sooner_false first proofs ≡ None → (first ≡ None) × (list_all is_true proofs ≡ true)
none_false first [] e = (e, refl)
none_false first (verdict ∷ proofs) e =
    let rest = none_false (sooner_false first verdict) proofs e in
    none_where first verdict (list_all is_true proofs) (is_none verdict.rule) refl rest.0 rest.1

-- a proof is before the verdict by its query
abbrev is_before : Verdict → Option Verdict → Bool
is_before verdict first = option_map_or (λ (other : Verdict). nat_lt other.query verdict.query) first false

record Found (first : Option Verdict) (proofs : List Verdict) (verdict : Verdict) : Type 0 where
  origin : (first ≡ Some verdict) ⊎ ((place : ℕ) × (slice_get proofs place ≡ Some verdict) × (is_none verdict.rule ≡ true))
  least : list_any (is_sooner verdict) proofs ≡ false
  start : is_before verdict first ≡ false

not_before_itself : (verdict : Verdict) → nat_lt verdict.query verdict.query ≡ false
not_before_itself verdict = grind (arith, nat_tests)

later_origin : (first : Option Verdict) (one : Verdict) (proofs : List Verdict) (verdict : Verdict)
    → (first ≡ Some verdict) ⊎ ((place : ℕ) × (slice_get proofs place ≡ Some verdict) × (is_none verdict.rule ≡ true))
    → (first ≡ Some verdict) ⊎ ((place : ℕ) × (slice_get (one ∷ proofs) place ≡ Some verdict) × (is_none verdict.rule ≡ true))
later_origin first one proofs verdict (inl e) = inl e
later_origin first one proofs verdict (inr there) = inr (suc there.0, there.1, there.2)

here_origin : (first : Option Verdict) (one : Verdict) (proofs : List Verdict) (verdict : Verdict) → is_none one.rule ≡ true
    → (Some one ≡ Some verdict) ⊎ ((place : ℕ) × (slice_get proofs place ≡ Some verdict) × (is_none verdict.rule ≡ true))
    → (first ≡ Some verdict) ⊎ ((place : ℕ) × (slice_get (one ∷ proofs) place ≡ Some verdict) × (is_none verdict.rule ≡ true))
here_origin first one proofs verdict false_one (inl e) =
    let same : one ≡ verdict = cc in
    inr (zero, e, ap (λ (other : Verdict). is_none other.rule) (sym same) ∙ false_one)
here_origin first one proofs verdict false_one (inr there) = inr (suc there.0, there.1, there.2)

found_here : (first one : Verdict) (proofs : List Verdict) (verdict : Verdict) (b : Bool) → nat_lt one.query first.query ≡ b → is_none one.rule ≡ true
    → Found (cond b (Some one) (Some first)) proofs verdict → Found (Some first) (one ∷ proofs) verdict
found_here first one proofs verdict true e false_one rest =
    let not_first : nat_lt first.query verdict.query ≡ false = let s : nat_lt one.query verdict.query ≡ false = rest.start in grind (arith, nat_tests) in
    record {
      origin = here_origin (Some first) one proofs verdict false_one rest.origin;
      least = or_from (is_sooner verdict one) (list_any (is_sooner verdict) proofs) (and_right (is_none one.rule) (nat_lt one.query verdict.query) rest.start) rest.least;
      start = not_first;
    }
found_here first one proofs verdict false e false_one rest =
    let not_one : nat_lt one.query verdict.query ≡ false = let s : nat_lt first.query verdict.query ≡ false = rest.start in grind (arith, nat_tests) in
    record {
      origin = later_origin (Some first) one proofs verdict rest.origin;
      least = or_from (is_sooner verdict one) (list_any (is_sooner verdict) proofs) (and_right (is_none one.rule) (nat_lt one.query verdict.query) not_one) rest.least;
      start = rest.start;
    }

found_where : (first : Option Verdict) (one : Verdict) (proofs : List Verdict) (verdict : Verdict) (b : Bool) → is_none one.rule ≡ b
    → Found (cond b (sooner first one) first) proofs verdict → Found first (one ∷ proofs) verdict
found_where first one proofs verdict false e rest = record {
  origin = later_origin first one proofs verdict rest.origin;
  least = or_from (is_sooner verdict one) (list_any (is_sooner verdict) proofs) (and_left (is_none one.rule) (nat_lt one.query verdict.query) e) rest.least;
  start = rest.start;
}
found_where None one proofs verdict true e rest = record {
  origin = here_origin None one proofs verdict e rest.origin;
  least = or_from (is_sooner verdict one) (list_any (is_sooner verdict) proofs) (and_right (is_none one.rule) (nat_lt one.query verdict.query) rest.start) rest.least;
  start = refl;
}
found_where (Some first) one proofs verdict true e rest = found_here first one proofs verdict (nat_lt one.query first.query) refl e rest

start_where : (first : Option Verdict) (verdict : Verdict) → first ≡ Some verdict → is_before verdict first ≡ false
start_where first verdict e = ap (is_before verdict) e ∙ not_before_itself verdict

found : (first : Option Verdict) (proofs : List Verdict) (verdict : Verdict) → fold sooner_false first proofs ≡ Some verdict → Found first proofs verdict
found first [] verdict e = record { origin = inl e; least = refl; start = start_where first verdict e }
found first (one ∷ proofs) verdict e = found_where first one proofs verdict (is_none one.rule) refl (found (sooner_false first one) proofs verdict e)

-- ---- the answers

true_where : (waits out spent : Bool) (mets : List Met) (wanted : List Wanted) (first : Option Verdict)
    → cond waits Waiting (cond out (cond spent (Spent mets) (Update wanted)) (final_answer first)) ≡ AllTrue → (out ≡ false) × (first ≡ None)
true_where true out spent mets wanted first e = cc
true_where false true true mets wanted first e = cc
true_where false true false mets wanted first e = cc
true_where false false spent mets wanted None e = (refl, refl)
true_where false false spent mets wanted (Some verdict) e = cc

answered_where : (waits out spent : Bool) (mets : List Met) (wanted : List Wanted) (first : Option Verdict)
    → cond waits Waiting (cond out (cond spent (Spent mets) (Update wanted)) (final_answer first)) ≡ AllTrue → waits ≡ false
answered_where true out spent mets wanted first e = cc
answered_where false out spent mets wanted first e = refl

-- where the answer is that all is true, nothing is missing
pub all_answered : (round : Round) (reading : Option Reading) → judge round reading ≡ AllTrue → is_waiting round reading ≡ false
all_answered round reading e =
    answered_where (is_waiting round reading) (list_any (is_outdated (aim_in round reading)) round.targets) (is_spent round (met_in round reading)) (mets_in round (met_in round reading))
    (wants_of (aim_in round reading) round.targets) (least_false (proofs_in round.targets)) e

pub all_agree : (round : Round) (reading : Option Reading) → judge round reading ≡ AllTrue → AllAgree round reading
all_agree round reading e =
    let met : Option Met = met_in round reading in
    let said = true_where (is_waiting round reading) (list_any (is_outdated (aim_in round reading)) round.targets) (is_spent round met) (mets_in round met)
    (wants_of (aim_in round reading) round.targets) (least_false (proofs_in round.targets)) e in
    let current : list_any (is_behind round reading) round.targets ≡ false = sym (any_outdated_is round reading) ∙ said.0 in
    record {
      current = current;
      all_true = (none_false None (proofs_in round.targets) said.1).1;
      one_version = one_version_by_query round reading current;
    }

false_where : (waits out spent : Bool) (mets : List Met) (wanted : List Wanted) (first : Option Verdict) (verdict : Verdict)
    → cond waits Waiting (cond out (cond spent (Spent mets) (Update wanted)) (final_answer first)) ≡ False verdict → (out ≡ false) × (first ≡ Some verdict)
false_where true out spent mets wanted first verdict e = cc
false_where false true true mets wanted first verdict e = cc
false_where false true false mets wanted first verdict e = cc
false_where false false spent mets wanted None verdict e = cc
false_where false false spent mets wanted (Some first) verdict e = let same : first ≡ verdict = cc in (refl, ap (λ (one : Verdict). Some one) same)

least_where : (round : Round) (reading : Option Reading) (verdict : Verdict) → list_any (is_behind round reading) round.targets ≡ false
    → Found None (proofs_in round.targets) verdict
    → (None ≡ Some verdict) ⊎ ((place : ℕ) × (slice_get (proofs_in round.targets) place ≡ Some verdict) × (is_none verdict.rule ≡ true)) → IsLeastFalse round reading verdict
least_where round reading verdict current is (inl e) = cc
least_where round reading verdict current is (inr there) =
    record { current = current; place = there.0; there = there.1; untrue = there.2; least = is.least }

pub false_is_least : (round : Round) (reading : Option Reading) (verdict : Verdict) → judge round reading ≡ False verdict → IsLeastFalse round reading verdict
false_is_least round reading verdict e =
    let met : Option Met = met_in round reading in
    let said = false_where (is_waiting round reading) (list_any (is_outdated (aim_in round reading)) round.targets) (is_spent round met) (mets_in round met)
    (wants_of (aim_in round reading) round.targets) (least_false (proofs_in round.targets)) verdict e in
    let is = found None (proofs_in round.targets) verdict said.1 in
    least_where round reading verdict (sym (any_outdated_is round reading) ∙ said.0) is is.origin
