-- Rounds in which each proof is of an administrator under global consistency: every round before the present one met something.
use Rattle.std.proofs.Common.{◌≡◌, inl, ◌<◌, ◌≤◌, ◌+◌, ℕ, Bool, true, false, ◌||◌, ◌==◌, cond, List, [], ◌∷◌, length, map, not, Option, Some, None, arith, refl, ap, subst, sym, ◌∙◌}
use Rattle.std.proofs.Math.Bool.{or-false}
use Rattle.std.proofs.lemmas.Bool.{and_from, and_parts, both_ways, eq-eqb, eqb-true, or_parts}
use Rattle.std.specs.List.{list_all, list_any}
use Rattle.tp_model.specs.Words.{AdminId, Level, Met, Reading, ServerId, Verdict, Version}
use Rattle.tp_round.specs.declared.round.Judged.{Judged}
use Rattle.tp_round.specs.declared.round.Judged.TheVariants.{Waiting, AllTrue, False, Spent, Update}
use Rattle.tp_round.specs.declared.round.Round.{Round}
use Rattle.tp_round.specs.declared.round.Wanted.{Wanted}
use Rattle.tp_round.specs.Judge.{after, aim_in, final_answer, first_round, is_missing, is_outdated, is_spent, is_waiting, judge, met_in, mets_in, new_target, next_number, next_round, next_target, wants_of, with_reply}
use Rattle.tp_round.specs.Replies.{least_false, proofs_in, verdicts_in}
use Rattle.tp_round.specs.Laws.{AreInOrder, Call, IsSpentAtLimit, Judges, MeetsInEachRound, Replies, SpentAtTheLimit, after_call, after_calls, is_as_named, is_behind, is_not_above, is_of_global, is_read_after, is_read_for, is_under_global, reads_globals, target_in}
use Rattle.tp_round.proofs.AgainLemmas.{updated}
use Rattle.tp_round.proofs.MetLemmas.{spent_has_all_mets}
use Rattle.tp_round.proofs.NamesLemmas.{all_of_each, any_outdated_is}
use Rattle.tp_round.proofs.RoundsLemmas.{Counts, Keeps, are_not_above, are_read_for, at_none_out, call_counts, call_keeps, global_at, is_short_of, keeps_first, no_proofs, one_more, renewed_passes, reply_passes, unmet_none_short, unread_where}
use Rattle.tp_round.proofs.VersionLemmas.{are_at, is_at}

-- ---- a round that meets nothing has nobody out of date

-- such a proof has its target where it is neither below nor above what was read
at_target : (round : Round) (reading : Option Reading) (verdict : Verdict) → is_waiting round reading ≡ false → is_of_global round.levels verdict ≡ true
    → is_read_for round verdict ≡ true → is_short_of round.levels reading verdict ≡ false → is_not_above round.levels reading verdict ≡ true
    → is_at (target_in round reading) verdict ≡ true
at_target round (Some reading) verdict goes_on global read short above = global_at round reading verdict global short above
at_target round None verdict goes_on global read short above =
    let reads : round.reads ≡ true = sym (or-false round.reads) ∙ ap (λ b. round.reads || not b) (sym global) ∙ read in
    absurd (unread_where (list_any is_missing round.targets) round.reads reads goes_on)

all_at_target : (round : Round) (reading : Option Reading) (some : List Verdict) → is_waiting round reading ≡ false → list_all (is_of_global round.levels) some ≡ true
    → list_all (is_read_for round) some ≡ true → list_any (is_short_of round.levels reading) some ≡ false → list_all (is_not_above round.levels reading) some ≡ true
    → list_all (is_at (target_in round reading)) some ≡ true
all_at_target round reading [] goes_on global read short above = refl
all_at_target round reading (verdict ∷ some) goes_on global read short above =
    let own = and_parts (is_of_global round.levels verdict) (list_all (is_of_global round.levels) some) global in
    let reads = and_parts (is_read_for round verdict) (list_all (is_read_for round) some) read in
    let low = or_parts (is_short_of round.levels reading verdict) (list_any (is_short_of round.levels reading) some) short in
    let high = and_parts (is_not_above round.levels reading verdict) (list_all (is_not_above round.levels reading) some) above in
    and_from (is_at (target_in round reading) verdict) (list_all (is_at (target_in round reading)) some)
    (at_target round reading verdict goes_on own.0 reads.0 low.0 high.0) (all_at_target round reading some goes_on own.1 reads.1 low.1 high.1)

-- all kept proofs are of administrators under global consistency
abbrev pub are_global : Round → Bool
are_global round = list_all (is_of_global round.levels) (proofs_in round.targets)

global_agrees : (round : Round) (reading : Option Reading) → are_global round ≡ true → are_read_for round ≡ true → is_waiting round reading ≡ false → met_in round reading ≡ None
    → are_not_above round reading ≡ true → list_any (is_outdated (aim_in round reading)) round.targets ≡ false
global_agrees round reading global reads goes_on unmet above =
    let here = all_at_target round reading (proofs_in round.targets) goes_on global reads (unmet_none_short round reading unmet) above in
    any_outdated_is round reading ∙ at_none_out round reading round.targets (sym (all_of_each (is_at (target_in round reading)) round.targets) ∙ here)

-- so a round in which a server is out of date meets something
meets_one : (round : Round) (reading : Option Reading) → are_global round ≡ true → are_read_for round ≡ true → is_waiting round reading ≡ false
    → are_not_above round reading ≡ true → list_any (is_outdated (aim_in round reading)) round.targets ≡ true → met_in round reading ≡ None → ⊥
meets_one round reading global reads goes_on above out unmet =
    both_ways (list_any (is_outdated (aim_in round reading)) round.targets) (global_agrees round reading global reads goes_on unmet above) out

-- ---- what every run keeps

pub record IsMetEach (round : Round) : Type 0 where
  pub global : are_global round ≡ true
  pub counted : round.number ≡ length round.mets + 1

next_by : (round : Round) (met : Option Met) → (met ≡ None → ⊥) → round.number ≡ length round.mets + 1 → length round.mets < round.limit → round.limit ≤ 16
    → next_number round ≡ length (mets_in round met) + 1
next_by round None some counted few top = absurd (some refl)
next_by round (Some met) some counted few top = omega (arith, one_more round met, counted, few, top)

judged_met : (round : Round) (reading : Option Reading) (answer : Judged) → judge round reading ≡ answer → are_not_above round reading ≡ true → Keeps round → Counts round → IsMetEach round
    → IsMetEach (after round (aim_in round reading) (met_in round reading) answer)
judged_met round reading Waiting e above keeps counts h = h
judged_met round reading AllTrue e above keeps counts h = h
judged_met round reading (False verdict) e above keeps counts h = h
judged_met round reading (Spent mets) e above keeps counts h = h
judged_met round reading (Update named) e above keeps counts h =
    let is = updated round reading named e in
    record {
      global = all_of_each (is_of_global round.levels) (map (next_target (aim_in round reading)) round.targets)
          ∙ renewed_passes (is_of_global round.levels) (aim_in round reading) round.targets (sym (all_of_each (is_of_global round.levels) round.targets) ∙ h.global);
      counted = next_by round (met_in round reading) (meets_one round reading h.global keeps.reads is.goes_on above is.is_out) h.counted counts.few counts.top;
    }

replied_global : (round : Round) (server : ServerId) (verdicts : List Verdict) → list_all (is_of_global round.levels) verdicts ≡ true → are_global round ≡ true
    → list_all (is_of_global round.levels) (proofs_in (with_reply round.targets server verdicts)) ≡ true
replied_global round server verdicts new global =
    all_of_each (is_of_global round.levels) (with_reply round.targets server verdicts)
    ∙ reply_passes (is_of_global round.levels) round.targets server verdicts (sym (all_of_each (is_of_global round.levels) round.targets) ∙ global) (λ waits. new)

call_met : (call : Call) (round : Round) → is_under_global round.levels call ≡ true → is_read_after call round ≡ true → Keeps round → Counts round → IsMetEach round → IsMetEach (after_call call round)
call_met (Replies server verdicts) round global above keeps counts h = record { global = replied_global round server verdicts global h.global; counted = h.counted }
call_met (Judges reading) round global above keeps counts h = judged_met round reading (judge round reading) refl above keeps counts h

levels_stay : (call : Call) (round : Round) → (after_call call round).levels ≡ round.levels
levels_stay (Replies server verdicts) round = refl
levels_stay (Judges reading) round = by_answer (judge round reading)
  where
    by_answer : (answer : Judged) → (after round (aim_in round reading) (met_in round reading) answer).levels ≡ round.levels
    by_answer Waiting = refl
    by_answer AllTrue = refl
    by_answer (False verdict) = refl
    by_answer (Spent mets) = refl
    by_answer (Update named) = refl

-- the round after calls in order, with all that is kept
pub record Runs (round : Round) : Type 0 where
  pub keeps : Keeps round
  pub counts : Counts round
  pub met : IsMetEach round

calls_run : (levels : List Level) (calls : List Call) (round : Round) → round.levels ≡ levels → list_all (is_under_global levels) calls ≡ true → AreInOrder calls round → Runs round → Runs (after_calls calls round)
calls_run levels [] round same global in_order h = h
calls_run levels (call ∷ calls) round same global in_order h =
    let parts = and_parts (is_under_global levels call) (list_all (is_under_global levels) calls) global in
    calls_run levels calls (after_call call round) (levels_stay call round ∙ same) parts.1 in_order.3 (record {
      keeps = call_keeps call round in_order.0 in_order.1 in_order.2 h.keeps;
      counts = call_counts call round in_order.2 h.keeps h.counts;
      met = call_met call round (ap (λ (all : List Level). is_under_global all call) same ∙ parts.0) in_order.2 h.keeps h.counts h.met;
    })

runs_after : (servers : List ServerId) (limit : ℕ) (levels : List Level) (reads : Bool) → 1 ≤ limit → limit ≤ 16 → (calls : List Call) → list_all (is_under_global levels) calls ≡ true
    → AreInOrder calls (first_round servers limit levels reads) → Runs (after_calls calls (first_round servers limit levels reads))
runs_after servers limit levels reads some top calls global in_order =
    calls_run levels calls (first_round servers limit levels reads) refl global in_order (record {
      keeps = keeps_first servers limit levels reads;
      counts = record { top = top; few = omega (arith, some); counted = inl refl };
      met = record { global = ap (list_all (is_of_global levels)) (no_proofs servers); counted = refl };
    })

pub meets_in_each_round : MeetsInEachRound
meets_in_each_round servers limit levels reads some top calls global in_order = (runs_after servers limit levels reads some top calls global in_order).met.counted

-- ---- the rounds are spent in the last one

spent_out : (waits out spent : Bool) (mets given : List Met) (wanted : List Wanted) (first : Option Verdict)
    → cond waits Waiting (cond out (cond spent (Spent mets) (Update wanted)) (final_answer first)) ≡ Spent given → out ≡ true
spent_out true out spent mets given wanted first e = cc
spent_out false true spent mets given wanted first e = refl
spent_out false false spent mets given wanted None e = cc
spent_out false false spent mets given wanted (Some verdict) e = cc

spent_whole : (waits out spent : Bool) (mets given : List Met) (wanted : List Wanted) (first : Option Verdict)
    → cond waits Waiting (cond out (cond spent (Spent mets) (Update wanted)) (final_answer first)) ≡ Spent given → waits ≡ false
spent_whole true out spent mets given wanted first e = absurd (cc)
spent_whole false out spent mets given wanted first e = refl

spent_by : (waits out spent : Bool) (mets : List Met) (wanted : List Wanted) (first : Option Verdict) → waits ≡ false → out ≡ true → spent ≡ true
    → cond waits Waiting (cond out (cond spent (Spent mets) (Update wanted)) (final_answer first)) ≡ Spent mets
spent_by waits out spent mets wanted first w o s = rw w (rw o (rw s refl))

last_met : (round : Round) (met : Option Met) → (met ≡ None → ⊥) → round.number ≡ length round.mets + 1 → round.number ≡ round.limit → is_spent round met ≡ true
last_met round None some counted last = absurd (some refl)
last_met round (Some met) some counted last = eq-eqb (length (mets_in round (Some met))) round.limit (omega (arith, one_more round met, counted, last))

spent_last : (round : Round) (reading : Option Reading) → are_not_above round reading ≡ true → Runs round → IsSpentAtLimit round reading
spent_last round reading above h =
    let out : Bool = list_any (is_outdated (aim_in round reading)) round.targets in
    let met : Option Met = met_in round reading in
    record {
      spent = λ mets e.
          let all = spent_has_all_mets round reading mets e in
          let count : length mets ≡ length round.mets + 1 = ap length all.all ∙ one_more round all.met in (
            spent_whole (is_waiting round reading) out (is_spent round met) (mets_in round met) mets (wants_of (aim_in round reading) round.targets) (least_false (proofs_in round.targets)) e,
            sym (any_outdated_is round reading)
                ∙ spent_out (is_waiting round reading) out (is_spent round met) (mets_in round met) mets (wants_of (aim_in round reading) round.targets) (least_false (proofs_in round.targets)) e,
            omega (arith, count, all.count, h.met.counted),
          );
      last = λ goes_on behind last.
          let is_out : out ≡ true = any_outdated_is round reading ∙ behind in
          let some : met ≡ None → ⊥ = meets_one round reading h.met.global h.keeps.reads goes_on above is_out in (
            mets_in round met,
            spent_by (is_waiting round reading) out (is_spent round met) (mets_in round met) (wants_of (aim_in round reading) round.targets) (least_false (proofs_in round.targets)) goes_on is_out
                (last_met round met some h.met.counted last),
          );
    }

pub spent_at_the_limit : SpentAtTheLimit
spent_at_the_limit servers limit levels reads some top calls global in_order reading above =
    spent_last (after_calls calls (first_round servers limit levels reads)) reading above (runs_after servers limit levels reads some top calls global in_order)
