-- The judgement where its tests are known.
use Rattle.std.proofs.Common.{◌≡◌, true, false, List, Option, ap, sym, ◌∙◌}
use Rattle.std.specs.List.{list_any}
use Rattle.tp_model.specs.Words.{AdminId, Met, Reading, Version}
use Rattle.tp_round.specs.declared.round.Round.{Round}
use Rattle.tp_round.specs.Judge.{after, after_judgement, aim_in, is_outdated, is_waiting, judge, met_in, update_answer}

pub judge_outdated : (round : Round) (reading : Option Reading) (aim : List (AdminId × Version)) (met : Option Met) → is_waiting round reading ≡ false
    → aim ≡ aim_in round reading → met ≡ met_in round reading → list_any (is_outdated aim) round.targets ≡ true
    → update_answer round aim met ≡ judge round reading
judge_outdated round reading aim met goes_on is_aim is_met is_out =
    let out : list_any (is_outdated (aim_in round reading)) round.targets ≡ true = ap (λ one. list_any (is_outdated one) round.targets) (sym is_aim) ∙ is_out in
    rw (goes_on, out) (ap (λ one. update_answer round one met) is_aim ∙ ap (update_answer round (aim_in round reading)) is_met)

pub judged_outdated : (round : Round) (reading : Option Reading) (aim : List (AdminId × Version)) (met : Option Met) → is_waiting round reading ≡ false
    → aim ≡ aim_in round reading → met ≡ met_in round reading → list_any (is_outdated aim) round.targets ≡ true
    → after round aim met (update_answer round aim met) ≡ after_judgement round reading
judged_outdated round reading aim met goes_on is_aim is_met is_out =
    ap (λ one. after round one met (update_answer round aim met)) is_aim
    ∙ ap (λ one. after round (aim_in round reading) one (update_answer round aim met)) is_met
    ∙ ap (after round (aim_in round reading) (met_in round reading)) (judge_outdated round reading aim met goes_on is_aim is_met is_out)
