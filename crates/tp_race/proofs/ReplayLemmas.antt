-- A race replayed: the scenario that lists its steps runs to the same report.
use Rattle.std.proofs.Common.{List, None, Ok, Option, Some, [], ap, arith, inl, inr, is_none, length, map, refl, subst, sym, true, ℕ, ◌+◌, ◌∙◌, ◌∷◌, ◌≡◌, ◌≤◌}
use Rattle.std.proofs.lemmas.Bool.{and_from}
use Rattle.std.proofs.lemmas.Bool.Decides.{nat_tests}
use Rattle.std.specs.List.{list_all}
use Rattle.tp_auto.proofs.AutoLemmas.{automatic-none}
use Rattle.tp_auto.specs.Auto.{bound, is_quiet, next_of}
use Rattle.tp_ends.proofs.PrintableRun.{run_rests}
use Rattle.tp_ends.proofs.TrustedRun.{all_done, final_is}
use Rattle.tp_ends.specs.After.{RestsAfter, all_after, automatic_after, final_after, first_refused_of, told_after}
use Rattle.tp_ends.specs.Calls.{IsRested}
use Rattle.tp_ends.specs.Input.{IsRead, Reads}
use Rattle.tp_ends.specs.Listed.{refused_from, refused_or}
use Rattle.tp_ends.specs.Streams.{Stream}
use Rattle.tp_machine.specs.Machine.{Machine, after, after_steps, ending_of, machine_after, opening, refusal}
use Rattle.tp_machine.specs.Named.{IsStepOf}
use Rattle.tp_machine.specs.declared.error.StepError.{StepError}
use Rattle.tp_model.proofs.RuleLemmas.{rules_of}
use Rattle.tp_model.specs.Limits.{has_count, is_from_to, steps_limit}
use Rattle.tp_model.specs.SpelledNames.{is_spelled}
use Rattle.tp_model.specs.Valid.{has_valid_data, has_valid_policies, is_valid, is_valid_step}
use Rattle.tp_model.specs.Words.{Scenario, Step}
use Rattle.tp_race.proofs.ListedSteps.{book_named, steps_valid}
use Rattle.tp_race.proofs.ListingLemmas.{after_unlisted, ending_unlisted, next_unlisted, opening_unlisted, refused_unlisted, report_unlisted, text_unlisted}
use Rattle.tp_race.proofs.ReadAgain.{read_again}
use Rattle.tp_race.specs.Replayed.{IsListed, IsRun, RacesAreReplayed, listing}
use Rattle.tp_race.specs.WholeRace.{WholeRace}
use Rattle.tp_report.specs.ReportText.{report_text}
use Rattle.tp_report.specs.StepText.{step_text}
use Rattle.tp_runs.proofs.runs.Runs.{ends_after, so_far_after, whole_after}
use Rattle.tp_scenario.proofs.ReadLemmas.{spelled_from, valid_from}
use Rattle.tp_scenario.specs.Reads.{SaysValue}
use Rattle.tp_scenario.specs.Steps.{steps_at}
use Rattle.tp_scenario.specs.Values.{array_of}
use Rattle.tp_scenario.specs.Walk.{names_of}
use Rattle.tp_top.proofs.ListedLemmas.{listed_are}
use Rattle.tp_top.proofs.ReadBack.{list_read_back, step_read_back}
use Rattle.tp_top.specs.Laws.{SaysOnly}
use Rattle.tp_top.specs.Run.{report_told}
use Rattle.tp_types.proofs.EachLemmas.{each_as, each_from_all}
use Rattle.tp_types.specs.Each.{Each}

-- ---- what was read is valid

said_value : (bytes : List ℕ) (sc : Scenario) → Reads bytes sc → SaysValue bytes (Ok sc)
said_value bytes sc (inl s) = let no = s.answer_is in absurd (cc)
said_value bytes sc (inr (inl s)) = let no = s.answer_is in absurd (cc)
said_value bytes sc (inr (inr s)) = s

read_valid : (input : Stream) (sc : Scenario) → IsRead input sc → is_valid sc ≡ true
read_valid input sc h = let s = said_value h.bytes sc h.reads in valid_from s.value (Ok sc) (inr s.answer_is)

read_spelled : (input : Stream) (sc : Scenario) → IsRead input sc → is_spelled sc ≡ true
read_spelled input sc h = let s = said_value h.bytes sc h.reads in spelled_from s.value (Ok sc) (inr s.answer_is)

-- ---- the scenario that lists the steps is valid

count_within : (most n : ℕ) → n ≤ most → is_from_to 0 most n ≡ true
count_within most n h = grind (arith, nat_tests)

listing_valid : (sc : Scenario) (steps : List Step) → is_valid sc ≡ true → length steps ≤ steps_limit → list_all (is_valid_step sc) steps ≡ true → is_valid (listing sc steps) ≡ true
unfolding is_valid
listing_valid sc steps formed few valid =
    let rules = rules_of sc formed in
    and_from _ _
    (and_from (has_valid_policies sc) (has_valid_data sc) (and_from _ _ (and_from _ _ rules.admins rules.clock) rules.creds) (and_from _ _ (and_from _ _ rules.servers rules.items) rules.txns))
    (and_from _ _ (and_from _ _ (and_from (has_count 0 steps_limit steps) (list_all (is_valid_step sc) steps) (count_within steps_limit (length steps) few) valid) rules.clients)
    (and_from _ _ rules.publishers rules.officers))

-- ---- they run as they were raced

abbrev AreAllowed : Scenario → Machine → List Step → Type 0
AreAllowed sc m [] = Unit {0}
AreAllowed sc m (taken ∷ others) = (refusal m.state taken ≡ None) × AreAllowed sc (machine_after sc m taken) others

none_from : (sc : Scenario) (m : Machine) (at : ℕ) (steps : List Step) → AreAllowed sc m steps → refused_from sc m at steps ≡ None
none_from sc m at [] h = refl
none_from sc m at (taken ∷ steps) h =
    ap (λ (why : Option StepError). refused_or why at (refused_from sc (machine_after sc m taken) (at + 1) steps)) h.0
    ∙ none_from sc (machine_after sc m taken) (at + 1) steps h.1

none_lawful : (sc : Scenario) (book : List Step) → is_valid sc ≡ true → RestsAfter sc book → WholeRace sc book → refused_from sc (opening sc) 0 (all_after sc book) ≡ None
none_lawful sc book formed rests whole =
    none_from sc (opening sc) 0 (all_after sc book) (all_done sc book formed (book_named sc book formed rests whole) rests.lawful).allowed

none_if : {A : Type 0} (found : Option A) → is_none found ≡ true → found ≡ None
none_if None e = refl
none_if (Some x) e = absurd (cc)

-- of the scenario that lists a race's steps: how it goes
record Goes (sc : Scenario) (book : List Step) (of : Scenario) : Type 0 where
  lawful : first_refused_of of (all_after sc book) ≡ None
  after_is : after of (all_after sc book) ≡ final_after sc book
  alone : automatic_after of (all_after sc book) ≡ []
  quiet : is_quiet of (after of (all_after sc book)) ≡ true

goes : (sc : Scenario) (book : List Step) → is_valid sc ≡ true → RestsAfter sc book → WholeRace sc book → Goes sc book (listing sc (all_after sc book))
goes sc book formed rests whole =
    let all = all_after sc book in
    let of = listing sc all in
    let same : after of all ≡ final_after sc book
    = ap (λ (m : Machine). after_steps of m all) (opening_unlisted sc all) ∙ (after_unlisted sc all (opening sc) all ∙ sym (final_is sc book)) in
    let quiet : is_quiet of (after of all) ≡ true
    = ap (λ (found : Option Step). is_none found) (next_unlisted sc all (after of all) 0) ∙ (ap (λ (m : Machine). is_quiet sc m) same ∙ rests.quiet) in
    record {
      lawful = ap (λ (m : Machine). refused_from of m 0 all) (opening_unlisted sc all) ∙ (refused_unlisted sc all (opening sc) 0 all ∙ none_lawful sc book formed rests whole);
      after_is = same;
      alone = automatic-none of (bound of (length (after of all).undelivered)) 0 (after of all) (none_if (next_of of (after of all) 0) quiet);
      quiet = quiet;
    }

-- with none behind them the last machine is the one after them
final_listed : (sc : Scenario) (book : List Step) (of : Scenario) → Goes sc book of → final_after of (all_after sc book) ≡ after of (all_after sc book)
final_listed sc book of g = ap (λ (later : List Step). after_steps of (after of (all_after sc book)) later) g.alone

rested : (sc : Scenario) (book : List Step) (of : Scenario) → is_valid of ≡ true → Each (IsStepOf of) (all_after sc book) → Goes sc book of → IsRested of (all_after sc book)
rested sc book of formed exist g =
    let all = all_after sc book in
    let last = ap (λ (m : Machine). m.state) (final_listed sc book of g) in
    record {
      lawful = g.lawful;
      quiet = ap (λ (m : Machine). is_quiet of m) (final_listed sc book of g) ∙ g.quiet;
      so_far = so_far_after of all (final_after of all).state formed exist last;
      whole = record { ended = ends_after of all (final_after of all).state formed exist last; commits = whole_after of all (final_after of all).state formed exist last };
    }

-- the report of a race
abbrev race_report : Scenario → List Step → List ℕ
race_report sc book = report_text sc (final_after sc book).state.facts (ending_of sc (final_after sc book).state)

told_listed : (sc : Scenario) (book : List Step) → Goes sc book (listing sc (all_after sc book)) → race_report sc book ≡ told_after report_told (listing sc (all_after sc book)) (all_after sc book)
told_listed sc book g =
    let all = all_after sc book in
    let of = listing sc all in
    let last : final_after of all ≡ final_after sc book = final_listed sc book of g ∙ g.after_is in
    sym
    (report_unlisted sc all (final_after of all).state.facts (ending_of of (final_after of all).state)
    ∙ (ap (report_text sc (final_after of all).state.facts) (ending_unlisted sc all (final_after of all).state)
    ∙ ap (λ (m : Machine). report_text sc m.state.facts (ending_of sc m.state)) last))

runs : (sc : Scenario) (book : List Step) → is_valid sc ≡ true → RestsAfter sc book → WholeRace sc book → is_valid (listing sc (all_after sc book)) ≡ true → IsRun sc (all_after sc book) (race_report sc book)
runs sc book formed rests whole valid =
    let all = all_after sc book in
    let of = listing sc all in
    let g = goes sc book formed rests whole in
    let are = listed_are of valid in
    record {
      comes = record { rests = run_rests of all valid are (rested sc book of valid are.exist g); text_is = told_listed sc book g };
      alone = g.alone;
    }

-- ---- they can be listed

texts_unlisted : (sc : Scenario) (listed steps : List Step) → map (step_text (listing sc listed)) steps ≡ map (step_text sc) steps
texts_unlisted sc listed [] = refl
texts_unlisted sc listed (taken ∷ steps) =
    ap (λ (text : List ℕ). text ∷ map (step_text (listing sc listed)) steps) (text_unlisted sc listed taken)
    ∙ ap (λ (texts : List (List ℕ)). step_text sc taken ∷ texts) (texts_unlisted sc listed steps)

lists : (sc : Scenario) (steps : List Step) → is_valid (listing sc steps) ≡ true → is_spelled sc ≡ true → length steps ≤ steps_limit → list_all (is_valid_step sc) steps ≡ true → IsListed sc steps
lists sc steps formed spelled few valid =
    let of = listing sc steps in
    let read : steps_at (names_of sc) (Some (array_of (map (step_text sc) steps))) ≡ Ok steps
    = ap (λ (texts : List (List ℕ)). steps_at (names_of sc) (Some (array_of texts))) (sym (texts_unlisted sc steps steps)) ∙ list_read_back of steps formed spelled few valid in
    record {
      valid = formed;
      spelled = spelled;
      says = each_as (λ (taken : Step). is_valid_step sc taken ≡ true) (λ (taken : Step). SaysOnly of taken (step_text sc taken))
          (λ taken h. subst (SaysOnly of taken) (text_unlisted sc steps taken) (step_read_back of taken formed spelled h)) steps (each_from_all (is_valid_step sc) steps valid);
      reads = λ value other e sets. read_again sc steps (map (step_text sc) steps) value other e sets read;
    }

pub replayed : RacesAreReplayed
replayed input sc text input_is races few =
    let formed = read_valid input sc input_is.read in
    let valid = steps_valid sc races.book formed races.rests races.whole few in
    let kept = listing_valid sc (all_after sc races.book) formed few valid in
    record {
      listed = lists sc (all_after sc races.book) kept (read_spelled input sc input_is.read) few valid;
      report = race_report sc races.book;
      run = runs sc races.book formed races.rests races.whole kept;
      text_is = races.text_is;
    }
