-- Rounds without proofs under global consistency.
use Rattle.std.proofs.Common.{◌≡◌, Bool, true, false, cond, List, [], ◌∷◌, find, map, Option, Some, None, option_map, refl, ap, ◌∙◌}
use Rattle.std.proofs.lemmas.Bool.{or_parts}
use Rattle.std.specs.List.{list_any}
use Rattle.tp_model.specs.Words.{AdminId, Level, Met, Reading, Verdict, Version}
use Rattle.tp_round.specs.declared.round.Judged.TheVariants.{Waiting, Spent, Update}
use Rattle.tp_round.specs.declared.round.Round.{Round}
use Rattle.tp_round.specs.declared.round.Wanted.{Wanted}
use Rattle.tp_round.specs.Judge.{aim_for, aim_in, final_answer, is_below, is_outdated, is_spent, is_waiting, judge, met_at, met_by, met_in, mets_in, wants_of}
use Rattle.tp_model.specs.Levels.{is_global_at}
use Rattle.tp_round.specs.Replies.{admins_of, least_false, proofs_in}
use Rattle.tp_round.specs.Laws.{is_of_global}
use Rattle.tp_round.proofs.AdminLemmas.{any_admin}

below_where : (levels : List Level) (proofs : List Verdict) (aimed : AdminId × Version) (rest : List (AdminId × Version)) → is_global_at levels aimed.0 ≡ false
    → find (is_below levels proofs) rest ≡ None → find (is_below levels proofs) (aimed ∷ rest) ≡ None
below_where levels proofs aimed rest e on = rw e on

none_below : (levels : List Level) (reading : Option Reading) (proofs among : List Verdict) (admins : List AdminId) → list_any (is_global_at levels) admins ≡ false
    → find (is_below levels proofs) (map (aim_for levels reading among) admins) ≡ None
none_below levels reading proofs among [] e = refl
none_below levels reading proofs among (admin ∷ admins) e =
    let parts = or_parts (is_global_at levels admin) (list_any (is_global_at levels) admins) e in
    below_where levels proofs (aim_for levels reading among admin) (map (aim_for levels reading among) admins) parts.0 (none_below levels reading proofs among admins parts.1)

met_where : (levels : List Level) (reading : Option Reading) (proofs : List Verdict) (aim : List (AdminId × Version)) → find (is_below levels proofs) aim ≡ None
    → met_by levels reading proofs aim ≡ None
met_where levels None proofs aim e = refl
met_where levels (Some reading) proofs aim e = ap (option_map (met_at reading proofs)) e

-- nothing is met at the master where no proof is under global consistency
pub nothing_met : (round : Round) (reading : Option Reading) → list_any (is_of_global round.levels) (proofs_in round.targets) ≡ false → met_in round reading ≡ None
nothing_met round reading e =
    let proofs : List Verdict = proofs_in round.targets in
    let none : list_any (is_global_at round.levels) (admins_of proofs) ≡ false = any_admin (is_global_at round.levels) proofs ∙ e in
    met_where round.levels reading proofs (aim_in round reading) (none_below round.levels reading proofs proofs (admins_of proofs) none)

spent_where : (waits out spent : Bool) (mets given : List Met) (wanted : List Wanted) (first : Option Verdict) → spent ≡ false
    → cond waits Waiting (cond out (cond spent (Spent mets) (Update wanted)) (final_answer first)) ≡ Spent given → ⊥
spent_where true out spent mets given wanted first never e = cc
spent_where false true true mets given wanted first never e = cc
spent_where false true false mets given wanted first never e = cc
spent_where false false spent mets given wanted None never e = cc
spent_where false false spent mets given wanted (Some verdict) never e = cc

pub never_spent : (round : Round) (reading : Option Reading) (mets : List Met) → list_any (is_of_global round.levels) (proofs_in round.targets) ≡ false
    → judge round reading ≡ Spent mets → ⊥
never_spent round reading mets view e =
    let met : Option Met = met_in round reading in
    let never : is_spent round met ≡ false = ap (is_spent round) (nothing_met round reading view) in
    spent_where (is_waiting round reading) (list_any (is_outdated (aim_in round reading)) round.targets) (is_spent round met) (mets_in round met) mets
    (wants_of (aim_in round reading) round.targets) (least_false (proofs_in round.targets)) never e

-- nor are they where the master was not read
pub unread_unspent : (round : Round) (mets : List Met) → judge round None ≡ Spent mets → ⊥
unread_unspent round mets e =
    spent_where (is_waiting round None) (list_any (is_outdated (aim_in round None)) round.targets) (is_spent round None) (mets_in round None) mets
    (wants_of (aim_in round None) round.targets) (least_false (proofs_in round.targets)) refl e
