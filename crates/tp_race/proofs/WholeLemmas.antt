-- A race is whole: what stands in its steps of its scripts, of its mails, and of what comes behind the book.
use Rattle.std.proofs.Common.{◌≡◌, ℕ, ◌+◌, ◌<◌, ◌≤◌, nat_lt, List, [], ◌∷◌, length, slice_get, not, Bool, true, false, Option, Some, None, is_none, option_map, refl, sym, ap, subst, ◌∙◌, arith}
use Rattle.std.proofs.lemmas.Bool.{and_from}
use Rattle.std.proofs.lemmas.Bool.Decides.{nat_tests}
use Rattle.std.proofs.lemmas.List.Folds.{list_all-append}
use Rattle.std.proofs.lemmas.List.Sums.{sum_by-append}
use Rattle.std.specs.List.{count_by, list_all, sum_by}
use Rattle.std.specs.Option.{option_or}
use Rattle.tp_auto.proofs.GoingLemmas.{going_first}
use Rattle.tp_auto.proofs.NextLemmas.{quiet_finished}
use Rattle.tp_auto.proofs.StandsLemmas.{stands_after}
use Rattle.tp_auto.specs.Auto.{bound, is_quiet, lowest_down, next_by}
use Rattle.tp_cluster.specs.Calls.{IsClosedWorld}
use Rattle.tp_cluster.specs.declared.plan.Plan.{Plan}
use Rattle.tp_coord.specs.State.{Coordinator}
use Rattle.tp_ends.proofs.TrustedRun.{all_done, final_is, steps_of}
use Rattle.tp_ends.specs.After.{RestsAfter, all_after, automatic_after, final_after}
use Rattle.tp_machine.specs.Machine.{Machine, after, is_submitted, opening}
use Rattle.tp_machine.specs.Named.{IsTxn}
use Rattle.tp_machine.specs.Parts.{Part}
use Rattle.tp_machine.specs.WorldView.{WorldView}
use Rattle.tp_model.proofs.RuleLemmas.{rules_of}
use Rattle.tp_model.specs.Valid.{IsValid, is_valid}
use Rattle.tp_model.specs.Words.step
use Rattle.tp_model.specs.Words.{Actor, Scenario, Step, TxnId}
use Rattle.tp_runs.proofs.agreement.CoordinatorActs.{up_most}
use Rattle.tp_runs.proofs.agreement.Logs.{submitted_count}
use Rattle.tp_runs.proofs.basics.Facts.{all_from_each}
use Rattle.tp_runs.proofs.runs.Runs.{Holds}
use Rattle.tp_runs.specs.Laws.{is_finished}
use Rattle.tp_types.proofs.EachLemmas.{each_as, each_from_all}
use Rattle.tp_types.proofs.ListLemmas.{three_parts}
use Rattle.tp_types.specs.Each.{Each}
use Rattle.tp_wire.specs.declared.view.View.{View}
use Rattle.tp_wire.specs.History.{one_if, times}
use Rattle.tp_race.proofs.AutomaticLemmas.{AreAutomatic, all_up_done, all_up_first, automatic, automatic_race, is_automatic}
use Rattle.tp_race.proofs.BookLemmas.{IsRaceBook, race_book}
use Rattle.tp_race.proofs.ListLemmas.{all_pass, one_by, sum_none, within_more}
use Rattle.tp_race.proofs.MailLemmas.{IsOnce, once_done}
use Rattle.tp_race.proofs.RefusalLemmas.{counted}
use Rattle.tp_race.proofs.SaidLemmas.{submitted_by_steps}
use Rattle.tp_race.proofs.ScriptLemmas.{IsCommand, all_commands, is_command}
use Rattle.tp_race.specs.Callers.{AreAll, HasRun, callers_of, scripts_of}
use Rattle.tp_race.specs.WholeRace.{IsOfOffices, IsWithin, WholeRace, delivers, is_office_step, is_race_step, is_timer, submits}

-- ---- the book

-- what no command weighs no script weighs
commands_silent : (sc : Scenario) (f : Step → ℕ) → IsValid sc → ((taken : Step) → is_command taken ≡ true → f taken ≡ 0) → sum_by (sum_by f) (scripts_of sc) ≡ 0
commands_silent sc f formed none =
    sum_none (sum_by f) (scripts_of sc)
    (each_as (λ (script : List Step). Each (IsCommand sc) script) (λ (script : List Step). sum_by f script ≡ 0)
    (λ script each. sum_none f script (each_as (IsCommand sc) (λ (taken : Step). f taken ≡ 0) (λ taken c. none taken c.command) script each)) (scripts_of sc) (all_commands sc formed))

command_race : (taken : Step) → is_command taken ≡ true → one_by (not (is_race_step taken)) ≡ 0
command_race (step.Lose mail) e = absurd (cc)
command_race (step.Crash who cut) e = absurd (cc)
command_race (step.Boot who) e = absurd (cc)
command_race _ e = refl

command_untimed : (taken : Step) → is_command taken ≡ true → one_by (is_timer taken) ≡ 0
command_untimed (step.Timer txn) e = absurd (cc)
command_untimed _ e = refl

book_race : (sc : Scenario) (book : List Step) → IsValid sc → IsRaceBook sc book → list_all is_race_step book ≡ true
book_race sc book formed b =
    all_pass is_race_step book
    (b.weighs (λ (taken : Step). one_by (not (is_race_step taken))) (λ mail. refl) ∙ commands_silent sc (λ (taken : Step). one_by (not (is_race_step taken))) formed command_race)

-- ---- after the book

automatic_steps : (sc : Scenario) (book : List Step) → is_valid sc ≡ true → IsRaceBook sc book → RestsAfter sc book → AreAutomatic sc (after sc book) (automatic_after sc book)
automatic_steps sc book formed b rests =
    automatic sc (bound sc (length (after sc book).undelivered)) 0 (after sc book) formed (going_first sc (after sc book) (stands_after sc book formed b.exist))
    (all_up_done sc (opening sc) 0 book rests.lawful (book_race sc book (rules_of sc formed) b) (all_up_first sc))

-- ---- mails

once_first : (sc : Scenario) (mail : ℕ) → IsOnce mail 0 (opening sc)
once_first sc mail = record { once = let none : nat_lt mail 0 ≡ false = grind (arith, nat_tests) in ap one_if (sym none) }

nothing_pending : (sc : Scenario) (m : Machine) (mail : ℕ) → is_quiet sc m ≡ true → times mail m.undelivered ≡ 0
nothing_pending sc m mail quiet = by_down (lowest_down sc m.state.actors) m.undelivered quiet
  where
    by_down : (down : Option Actor) (numbers : List ℕ) → is_none (option_or (option_map (λ (who : Actor). step.Boot who) down) (next_by sc m.state.actors 0 (slice_get numbers 0))) ≡ true → times mail numbers ≡ 0
    by_down (Some who) numbers e = absurd (cc)
    by_down None [] e = refl
    by_down None (n ∷ numbers) e = absurd (cc)

-- each mail that was sent was delivered once, and no other
all_once : (sc : Scenario) (book : List Step) (mail : ℕ) → is_valid sc ≡ true → IsRaceBook sc book → RestsAfter sc book
    → count_by (delivers mail) (all_after sc book) ≡ one_if (nat_lt mail (length (final_after sc book).state.mails))
all_once sc book mail formed b rests =
    let at_most = b.once mail in
    let done = once_done sc mail 0 (opening sc) 0 book rests.lawful (book_race sc book (rules_of sc formed) b) (omega (arith, at_most)) (once_first sc mail) in
    let final = ((automatic_steps sc book formed b rests).once mail (0 + count_by (delivers mail) book) done).once in
    let none = nothing_pending sc (final_after sc book) mail rests.quiet in
    omega (arith, final, none, sum_by-append (λ (taken : Step). one_by (delivers mail taken)) book (automatic_after sc book))

sent_one : (mail mails : ℕ) → mail < mails → one_if (nat_lt mail mails) ≡ 1
sent_one mail mails less = let yes : nat_lt mail mails ≡ true = grind (arith, nat_tests) in ap one_if yes

one_sent : (mail mails : ℕ) → 1 ≤ one_if (nat_lt mail mails) → mail < mails
one_sent mail mails some = by_test (nat_lt mail mails) refl some
  where
    by_test : (b : Bool) → nat_lt mail mails ≡ b → 1 ≤ one_if b → mail < mails
    by_test true e h = grind (arith, nat_tests)
    by_test false e h = absurd (omega (arith, h))

-- ---- submissions

at_most_once : (found : Option (Part Coordinator)) → submitted_count found ≤ 1
at_most_once None = omega arith
at_most_once (Some part) = up_most part.up

final_holds : (sc : Scenario) (book : List Step) → is_valid sc ≡ true → IsRaceBook sc book → RestsAfter sc book → Holds sc (final_after sc book).state
final_holds sc book formed b rests =
    subst (λ (m : Machine). Holds sc m.state) (sym (final_is sc book))
    (stands_after sc (all_after sc book) formed (all_done sc book formed b.exist rests.lawful).exist).holds

all_submitted : (sc : Scenario) (book : List Step) (txn : TxnId) → is_valid sc ≡ true → IsRaceBook sc book → RestsAfter sc book → IsTxn sc txn → count_by (submits txn) (all_after sc book) ≡ 1
all_submitted sc book txn formed b rests exists =
    let w = (final_after sc book).state in
    let steps : count_by (submits txn) w.steps ≡ count_by (submits txn) (all_after sc book) = ap (count_by (submits txn)) (steps_of sc book formed b.exist rests.lawful) in
    let known = submitted_by_steps sc w txn (final_holds sc book formed b rests) in
    let finished : is_finished w.actors txn ≡ true = quiet_finished sc (final_after sc book) rests.quiet txn exists in
    let begun = counted (slice_get w.actors.coordinators txn.0) (three_parts (is_submitted w.actors txn) _ _ finished).0 in
    omega (arith, steps, known, begun, at_most_once (slice_get w.actors.coordinators txn.0))

-- ---- publishers and officers

office_by_hand : (taken : Step) → is_automatic taken ≡ true → is_office_step taken ≡ true → ⊥
office_by_hand (step.Submit txn) e f = cc
office_by_hand (step.Deliver mail) e f = cc
office_by_hand (step.Timer txn) e f = cc
office_by_hand (step.Publish admin) e f = cc
office_by_hand (step.Push admin server) e f = cc
office_by_hand (step.Tick by) e f = cc
office_by_hand (step.Revoke cred) e f = cc
office_by_hand (step.Lose mail) e f = cc
office_by_hand (step.Crash who cut) e f = cc
office_by_hand (step.Boot who) e f = cc

unasked : (p : Step → Bool) → IsOfOffices p → (taken : Step) → (is_office_step taken ≡ true → ⊥) → one_by (p taken) ≡ 0
unasked p of taken other = by_test (p taken) refl
  where
    by_test : (b : Bool) → p taken ≡ b → one_by b ≡ 0
    by_test true e = absurd (other (of taken e))
    by_test false e = refl

as_often : (sc : Scenario) (book : List Step) (p : Step → Bool) → is_valid sc ≡ true → IsRaceBook sc book → RestsAfter sc book → IsOfOffices p → count_by p (all_after sc book) ≡ sum_by (count_by p) (scripts_of sc)
as_often sc book p formed b rests of =
    let listed = b.weighs (λ (taken : Step). one_by (p taken)) (λ mail. unasked p of (step.Deliver mail) (λ e. cc)) in
    let none = sum_none (λ (taken : Step). one_by (p taken)) (automatic_after sc book)
    (each_as (λ (taken : Step). is_automatic taken ≡ true) (λ (taken : Step). one_by (p taken) ≡ 0) (λ taken e. unasked p of taken (office_by_hand taken e)) (automatic_after sc book)
    (each_from_all is_automatic (automatic_after sc book) (automatic_steps sc book formed b rests).kinds)) in
    omega (arith, listed, none, sum_by-append (λ (taken : Step). one_by (p taken)) book (automatic_after sc book))

-- ---- the whole

whole : (sc : Scenario) (book : List Step) → is_valid sc ≡ true → IsRaceBook sc book → RestsAfter sc book → WholeRace sc book
whole sc book formed b rests =
    record {
      submitted = λ txn exists. all_submitted sc book txn formed b rests exists;
      scripts = each_as (λ (script : List Step). IsWithin script book) (λ (script : List Step). IsWithin script (all_after sc book)) (λ script h. within_more script book (automatic_after sc book) h) (scripts_of sc) b.within;
      as_often = λ p of. as_often sc book p formed b rests of;
      delivered = λ mail less. all_once sc book mail formed b rests ∙ sent_one mail (length (final_after sc book).state.mails) less;
      unsent = λ mail some. one_sent mail (length (final_after sc book).state.mails) (subst (λ (n : ℕ). 1 ≤ n) (all_once sc book mail formed b rests) some);
      steps = list_all-append is_race_step book (automatic_after sc book)
          ∙ and_from _ _ (book_race sc book (rules_of sc formed) b)
          (all_from_each (λ (taken : Step). is_automatic taken ≡ true) is_race_step automatic_race (automatic_after sc book)
          (each_from_all is_automatic (automatic_after sc book) (automatic_steps sc book formed b rests).kinds));
      untimed = b.weighs (λ (taken : Step). one_by (is_timer taken)) (λ mail. refl) ∙ commands_silent sc (λ (taken : Step). one_by (is_timer taken)) (rules_of sc formed) command_untimed;
      quiet = rests.quiet;
    }

-- the steps of a race whose callers have done their scripts, with the automatic ones behind them, are a whole race
pub whole_race : (plan : Plan) (views : List View) (world : WorldView) (closed : IsClosedWorld plan views world) → is_valid plan.scenario ≡ true → plan.callers ≡ callers_of plan.scenario
    → AreAll (HasRun plan.scenario) (callers_of plan.scenario) views → RestsAfter plan.scenario closed.book.steps → WholeRace plan.scenario closed.book.steps
whole_race plan views world closed formed count all rests = whole plan.scenario closed.book.steps formed (race_book plan views world closed count all) rests
