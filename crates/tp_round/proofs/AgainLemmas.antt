-- A round that is judged again.
use Rattle.std.proofs.Common.{◌≡◌, Bool, true, false, ◌||◌, cond, List, [], ◌∷◌, map, Option, Some, None, refl, ap, ◌∙◌}
use Rattle.std.proofs.lemmas.Bool.{or_left, or_right}
use Rattle.std.specs.List.{list_any}
use Rattle.tp_model.specs.Words.{AdminId, Met, Reading, Verdict, Version}
use Rattle.tp_round.specs.declared.round.Judged.{Judged}
use Rattle.tp_round.specs.declared.round.Judged.TheVariants.{Waiting, AllTrue, False, Spent, Update}
use Rattle.tp_round.specs.declared.round.Round.{Round}
use Rattle.tp_round.specs.declared.round.Target.{Target}
use Rattle.tp_round.specs.declared.round.Wanted.{Wanted}
use Rattle.tp_round.specs.Judge.{after, after_judgement, aim_in, final_answer, is_missing, is_outdated, is_spent, is_waiting, judge, met_in, mets_in, new_target, next_round, next_target, wants_of}
use Rattle.tp_round.specs.Replies.{least_false, proofs_in}
use Rattle.tp_round.specs.Laws.{is_update}

-- what an update says
pub record IsUpdated (round : Round) (reading : Option Reading) (named : List Wanted) : Type 0 where
  pub goes_on : is_waiting round reading ≡ false
  pub is_out : list_any (is_outdated (aim_in round reading)) round.targets ≡ true
  pub is_named : named ≡ wants_of (aim_in round reading) round.targets
  pub unspent : is_spent round (met_in round reading) ≡ false

updated_where : (waits out spent : Bool) (mets : List Met) (wanted named : List Wanted) (first : Option Verdict)
    → cond waits Waiting (cond out (cond spent (Spent mets) (Update wanted)) (final_answer first)) ≡ Update named → (waits ≡ false) × (out ≡ true) × (named ≡ wanted) × (spent ≡ false)
updated_where true out spent mets wanted named first e = cc
updated_where false true true mets wanted named first e = cc
updated_where false true false mets wanted named first e = let same : named ≡ wanted = cc in (refl, refl, same, refl)
updated_where false false spent mets wanted named None e = cc
updated_where false false spent mets wanted named (Some verdict) e = cc

pub updated : (round : Round) (reading : Option Reading) (named : List Wanted) → judge round reading ≡ Update named → IsUpdated round reading named
updated round reading named e =
    let met : Option Met = met_in round reading in
    let said = updated_where (is_waiting round reading) (list_any (is_outdated (aim_in round reading)) round.targets) (is_spent round met) (mets_in round met)
    (wants_of (aim_in round reading) round.targets) named (least_false (proofs_in round.targets)) e in
    record { goes_on = said.0; is_out = said.1; is_named = said.2; unspent = said.3 }

pub stays : (round : Round) (aim : List (AdminId × Version)) (met : Option Met) (answer : Judged) → is_update answer ≡ false → after round aim met answer ≡ round
stays round aim met Waiting e = refl
stays round aim met AllTrue e = refl
stays round aim met (False verdict) e = refl
stays round aim met (Spent mets) e = refl
stays round aim met (Update named) e = cc

pub same_again : (round : Round) (reading : Option Reading) → is_update (judge round reading) ≡ false → judge (after_judgement round reading) reading ≡ judge round reading
same_again round reading e =
    ap (λ (next : Round). judge next reading) (stays round (aim_in round reading) (met_in round reading) (judge round reading) e)

missing_where : (target : Target) (b rest more : Bool) → (rest ≡ true → more ≡ true) → (b || rest) ≡ true → (is_missing (cond b (new_target target.server) target) || more) ≡ true
missing_where target true rest more on e = refl
missing_where target false rest more on e = or_right (is_missing target) more (on e)

missing : (aim : List (AdminId × Version)) (targets : List Target) → list_any (is_outdated aim) targets ≡ true → list_any is_missing (map (next_target aim) targets) ≡ true
missing aim [] e = e
missing aim (target ∷ targets) e =
    missing_where target (is_outdated aim target) (list_any (is_outdated aim) targets) (list_any is_missing (map (next_target aim) targets)) (missing aim targets) e

pub waits_after : (round : Round) (reading again : Option Reading) (named : List Wanted) → judge round reading ≡ Update named → judge (after_judgement round reading) again ≡ Waiting
waits_after round reading again named e =
    let aim : List (AdminId × Version) = aim_in round reading in
    let next : Round = next_round round aim named (mets_in round (met_in round reading)) in
    let is = updated round reading named e in
    let here : list_any is_missing next.targets ≡ true = missing aim round.targets is.is_out in
    let waits : is_waiting next again ≡ true = or_left (list_any is_missing next.targets) _ here in
    ap (λ answer. judge (after round aim (met_in round reading) answer) again) e ∙ rw waits refl
