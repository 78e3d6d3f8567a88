-- Rounds are answered: where no reply is missing, an update or all true comes where it is due.
use Rattle.std.proofs.Common.{◌≡◌, Bool, true, false, cond, List, [], ◌∷◌, not, Option, Some, None, refl, ap, ◌∙◌}
use Rattle.std.proofs.lemmas.Bool.{and_parts}
use Rattle.std.specs.List.{fold, list_all, list_any}
use Rattle.std.specs.Option.{is_none}
use Rattle.tp_model.specs.Words.{Met, Verdict}
use Rattle.tp_round.specs.declared.round.Judged.TheVariants.{Waiting, AllTrue, Spent, Update}
use Rattle.tp_round.specs.declared.round.Wanted.{Wanted}
use Rattle.tp_round.specs.Judge.{aim_in, final_answer, is_outdated, is_spent, is_waiting, met_in, mets_in, wants_of}
use Rattle.tp_round.specs.Replies.{least_false, proofs_in, sooner, sooner_false}
use Rattle.tp_round.specs.Laws.{AllTrueWhereAgreed, UpdatesTheOutdated, WaitsForReplies, is_true}
use Rattle.tp_round.proofs.NamesLemmas.{any_outdated_is}
use Rattle.tp_round.proofs.SpentLemmas.{nothing_met}

waiting_where : (waits out spent : Bool) (mets : List Met) (wanted : List Wanted) (first : Option Verdict)
    → cond waits Waiting (cond out (cond spent (Spent mets) (Update wanted)) (final_answer first)) ≡ Waiting → waits ≡ true
waiting_where true out spent mets wanted first e = refl
waiting_where false true true mets wanted first e = absurd (cc)
waiting_where false true false mets wanted first e = absurd (cc)
waiting_where false false spent mets wanted None e = absurd (cc)
waiting_where false false spent mets wanted (Some verdict) e = absurd (cc)

pub waits_for_replies : WaitsForReplies
waits_for_replies round reading e =
    waiting_where (is_waiting round reading) (list_any (is_outdated (aim_in round reading)) round.targets) (is_spent round (met_in round reading)) (mets_in round (met_in round reading))
    (wants_of (aim_in round reading) round.targets) (least_false (proofs_in round.targets)) e

updated_where : (waits out spent : Bool) (mets : List Met) (wanted : List Wanted) (first : Option Verdict) → waits ≡ false → out ≡ true → spent ≡ false
    → cond waits Waiting (cond out (cond spent (Spent mets) (Update wanted)) (final_answer first)) ≡ Update wanted
updated_where true out spent mets wanted first w o s = absurd (cc)
updated_where false false spent mets wanted first w o s = absurd (cc)
updated_where false true true mets wanted first w o s = absurd (cc)
updated_where false true false mets wanted first w o s = refl

pub updates_the_outdated : UpdatesTheOutdated
updates_the_outdated round reading w behind view = (
  wants_of (aim_in round reading) round.targets,
  updated_where (is_waiting round reading) (list_any (is_outdated (aim_in round reading)) round.targets) (is_spent round (met_in round reading)) (mets_in round (met_in round reading))
      (wants_of (aim_in round reading) round.targets) (least_false (proofs_in round.targets)) w (any_outdated_is round reading ∙ behind) (ap (is_spent round) (nothing_met round reading view)),
)

kept_where : (first : Option Verdict) (one : Verdict) (b : Bool) → is_none one.rule ≡ b → not b ≡ true → cond b (sooner first one) first ≡ first
kept_where first one true e t = absurd (cc)
kept_where first one false e t = refl

-- where all are true none is the least false one
least_where_true : (proofs : List Verdict) → list_all is_true proofs ≡ true → fold sooner_false None proofs ≡ None
least_where_true [] e = refl
least_where_true (one ∷ proofs) e =
    let parts = and_parts (is_true one) (list_all is_true proofs) e in
    ap (λ (first : Option Verdict). fold sooner_false first proofs) (kept_where None one (is_none one.rule) refl parts.0) ∙ least_where_true proofs parts.1

agreed_where : (waits out spent : Bool) (mets : List Met) (wanted : List Wanted) (first : Option Verdict) → waits ≡ false → out ≡ false → first ≡ None
    → cond waits Waiting (cond out (cond spent (Spent mets) (Update wanted)) (final_answer first)) ≡ AllTrue
agreed_where true out spent mets wanted first w o n = absurd (cc)
agreed_where false true spent mets wanted first w o n = absurd (cc)
agreed_where false false spent mets wanted (Some verdict) w o n = absurd (cc)
agreed_where false false spent mets wanted None w o n = refl

pub all_true_where_agreed : AllTrueWhereAgreed
all_true_where_agreed round reading w current all =
    agreed_where (is_waiting round reading) (list_any (is_outdated (aim_in round reading)) round.targets) (is_spent round (met_in round reading)) (mets_in round (met_in round reading))
    (wants_of (aim_in round reading) round.targets) (least_false (proofs_in round.targets)) w (any_outdated_is round reading ∙ current) (least_where_true (proofs_in round.targets) all)
