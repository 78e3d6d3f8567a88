-- All invariants together, after every list of steps that name what exists.
use Rattle.std.proofs.Common.{List, None, Option, Some, [], ap, arith, if◌then◌else◌, is_some, length, refl, subst, sym, true, ◌*◌, ◌+◌, ◌<◌, ◌^◌, ◌∙◌, ◌∷◌, ◌≡◌, ◌≤◌}
use Rattle.tp_model.specs.Agreement.{is_agreed}
use Rattle.tp_model.specs.Valid.{is_valid}
use Rattle.tp_model.specs.Causes.{is_caused}
use Rattle.tp_model.specs.Commits.{are_lone}
use Rattle.tp_model.specs.Outside.{IsOutside}
use Rattle.tp_model.specs.SerialRun.{is_serial}
use Rattle.tp_model.specs.Trust.{is_trusted}
use Rattle.tp_model.specs.Words.{Fact, Scenario, Step}
use Rattle.tp_runs.proofs.ids.Valid.{IsValid, valid_of}
use Rattle.tp_runs.proofs.ages.World.{Ages, ages_next, ages_opening}
use Rattle.tp_runs.proofs.deaths.World.{Deaths, deaths_next, deaths_opening}
use Rattle.tp_runs.proofs.ages.Crashes.{ages_crashed}
use Rattle.tp_runs.proofs.agreement.Crashes.{agrees_crashed}
use Rattle.tp_runs.proofs.deaths.Crashes.{deaths_crashed}
use Rattle.tp_runs.proofs.epochs.Crashes.{epochs_crashed}
use Rattle.tp_runs.proofs.ids.Crashes.{sound_crashed}
use Rattle.tp_runs.proofs.known.Crashes.{pairs_crashed}
use Rattle.tp_runs.proofs.mails.Crashes.{few_crashed}
use Rattle.tp_runs.proofs.outside.Crashes.{outside_crashed}
use Rattle.tp_runs.proofs.sizes.Crashes.{sizes_crashed}
use Rattle.tp_runs.proofs.bounds.Crashes.{bounds_crashed}
use Rattle.tp_runs.proofs.bounds.World.{Bounds, all_bounded, bounds_next, bounds_opening}
use Rattle.tp_runs.proofs.agreement.End.{facts_agreed}
use Rattle.tp_runs.proofs.agreement.Ended.{all_ended}
use Rattle.tp_runs.proofs.agreement.Steps.{agrees_next, agrees_opening}
use Rattle.tp_runs.proofs.agreement.World.{Agrees, PreparesNamed}
use Rattle.tp_runs.proofs.epochs.World.{Epochs, epochs_next, epochs_opening, prepares_named}
use Rattle.tp_runs.proofs.ids.Queries.{have_homes}
use Rattle.tp_runs.proofs.ids.Steps.{sound_next, sound_opening}
use Rattle.tp_runs.proofs.mails.World.{FewMails, HasFewMails, few_mails, few_next, few_opening, steps_counted}
use Rattle.tp_runs.proofs.outside.Steps.{outside_next, outside_opening}
use Rattle.tp_runs.proofs.known.Waiting.{wait_rightly}
use Rattle.tp_runs.proofs.known.World.{Pairs, pairs_next, pairs_opening}
use Rattle.tp_machine.proofs.basics.Rules.{few_rules}
use Rattle.tp_runs.proofs.printable.World.{state_printable, steps_kept}
use Rattle.tp_runs.proofs.refusals.Steps.{refusals_next, refusals_opening}
use Rattle.tp_runs.proofs.refusals.Running.{Remembers}
use Rattle.tp_runs.proofs.refusals.Crashes.{refusals_crashed}
use Rattle.tp_runs.proofs.refusals.World.{Refusals}
use Rattle.tp_runs.proofs.restarts.Steps.{restarts_next, restarts_opening}
use Rattle.tp_runs.proofs.restarts.Crashes.{restarts_crashed}
use Rattle.tp_runs.proofs.restarts.World.{Restarts}
use Rattle.tp_runs.proofs.serial_data.Crashes.{serial_crashed}
use Rattle.tp_runs.proofs.serial_data.End.{serial_facts, serial_values, values_at_end}
use Rattle.tp_runs.proofs.serial_data.Lone.{AreLone, facts_lone, lone_crashed, lone_next, lone_opening}
use Rattle.tp_runs.proofs.serial_data.Steps.{serial_next, serial_opening}
use Rattle.tp_runs.proofs.serial_data.World.{Serial}
use Rattle.tp_runs.proofs.sizes.Lengths.{all_fit}
use Rattle.tp_runs.proofs.sizes.World.{Sizes, sizes_next, sizes_opening}
use Rattle.tp_runs.proofs.trusted.End.{facts_caused, facts_trusted}
use Rattle.tp_runs.proofs.trusted.Crashes.{trusts_crashed}
use Rattle.tp_runs.proofs.trusted.Steps.{trusts_next, trusts_opening}
use Rattle.tp_runs.proofs.trust.World.{Trusts}
use Rattle.tp_runs.proofs.walks.Crashes.{CrashCases, crash_cases_as, crash_cases_both, every_step_by}
use Rattle.tp_runs.proofs.walks.Steps.{KeepsUp}
use Rattle.tp_runs.specs.Bounded.{AreBounded}
use Rattle.tp_runs.specs.Laws.{HasAllCommits, HasAllEnds, HasNumbers, IsPrintableState, IsTrustedState, mails_most}
use Rattle.tp_machine.specs.Fits.{AllFitLogs}
use Rattle.tp_machine.specs.Machine.{Machine, State, after, after_step, after_steps, machine_after, opening, opening_state, refusal, state_after}
use Rattle.tp_types.specs.Each.{Each}
use Rattle.tp_runs.specs.Sound.{IsSound}
use Rattle.tp_machine.specs.Named.{IsStepOf}
use Rattle.tp_machine.specs.declared.error.StepError.{StepError}

-- what holds of every world: its ids exist, its actors agree, what servers hold of a transaction is what its coordinator knows, its
-- commits are trusted and serial, what comes from outside is what its steps say, its crashes are counted, its values are bounded, and its
-- records are small
pub record Holds (sc : Scenario) (w : State) : Type 0 where
  pub sound : IsSound sc w
  pub agrees : Agrees sc w
  pub epochs : Epochs sc w
  pub ages : Ages w
  pub deaths : Deaths sc w
  pub restarts : Restarts sc w
  pub lone : AreLone w.facts
  pub outside : IsOutside sc w.steps w.facts
  pub trusts : Trusts sc w
  pub pairs : Pairs sc w
  pub serial : Serial sc w
  pub refusals : Refusals sc w
  pub bounds : Bounds sc w
  pub few : FewMails w
  pub sizes : Sizes w

pub holds_opening : (sc : Scenario) → is_valid sc ≡ true → Holds sc (opening_state sc)
holds_opening sc formed =
    record { sound = sound_opening sc formed; agrees = agrees_opening sc; epochs = epochs_opening sc; ages = ages_opening sc; deaths = deaths_opening sc; restarts = restarts_opening sc; lone = lone_opening; outside = outside_opening sc; trusts = trusts_opening sc formed; pairs = pairs_opening sc; serial = serial_opening sc (valid_of sc formed); refusals = refusals_opening sc; bounds = bounds_opening sc (valid_of sc formed); few = few_opening sc; sizes = sizes_opening sc }

-- each invariant may lean on all the others before the step. So it is where each actor is up or down as it was
holds_running : (sc : Scenario) (m : Machine) (taken : Step) → is_valid sc ≡ true → IsStepOf sc taken → KeepsUp taken → refusal m.state taken ≡ None → Holds sc m.state → Holds sc (machine_after sc m taken).state
holds_running sc m taken formed exists stays allowed h =
    let rightly = wait_rightly sc m.state h.sound h.pairs in
    let valid : IsValid sc = valid_of sc formed in
    let named : PreparesNamed m.state = prepares_named sc m.state h.epochs in
    record {
      sound = sound_next sc m taken formed exists stays allowed h.agrees.coordinator_count rightly h.sound;
      agrees = agrees_next sc m taken valid exists stays allowed rightly h.sound named h.agrees;
      epochs = epochs_next sc m taken (have_homes sc valid) exists stays allowed rightly h.sound h.agrees h.epochs;
      ages = ages_next sc m taken exists stays allowed rightly h.sound h.agrees h.ages;
      deaths = deaths_next sc m taken exists stays allowed rightly h.sound h.agrees h.ages h.pairs h.deaths;
      restarts = restarts_next sc m taken (have_homes sc valid) exists stays allowed rightly h.sound h.agrees h.epochs h.ages h.pairs h.deaths h.restarts;
      lone = lone_next sc m taken exists stays allowed h.agrees.coordinator_count h.agrees.past h.lone;
      outside = outside_next sc m taken exists stays allowed h.agrees.coordinator_count h.agrees.past h.trusts.master h.outside;
      trusts = trusts_next sc m taken formed exists stays allowed rightly h.sound h.agrees h.pairs h.trusts;
      pairs = pairs_next sc m taken formed exists stays allowed rightly h.sound h.agrees h.epochs h.trusts h.pairs;
      serial = serial_next sc m taken valid exists stays allowed rightly h.sound named h.agrees h.pairs h.serial;
      refusals = refusals_next sc m taken valid exists stays allowed rightly h.sound h.agrees h.pairs h.serial (record { epochs = h.epochs; told = h.deaths.told; restarts = h.restarts }) h.refusals;
      bounds = bounds_next sc m taken valid exists stays allowed rightly h.sound named h.agrees h.pairs h.serial h.bounds;
      few = few_next sc m taken formed exists stays allowed rightly h.agrees h.few;
      sizes = sizes_next sc m taken (have_homes sc valid) valid exists stays allowed rightly h.sound h.agrees h.pairs h.trusts h.sizes;
    }

-- and after each crash and each boot
holds_crashed : (sc : Scenario) (w : State) → is_valid sc ≡ true → Holds sc w → CrashCases sc w (λ taken move. Holds sc (state_after w taken move))
holds_crashed sc w formed h =
    let rightly = wait_rightly sc w h.sound h.pairs in
    let valid : IsValid sc = valid_of sc formed in
    let named : PreparesNamed w = prepares_named sc w h.epochs in
    let known : Remembers sc w = record { epochs = h.epochs; told = h.deaths.told; restarts = h.restarts } in
    let ids = crash_cases_both (sound_crashed sc w valid rightly h.sound) (agrees_crashed sc w valid rightly h.sound named h.agrees) in
    let epochs = crash_cases_both (epochs_crashed sc w rightly h.sound h.epochs) (ages_crashed sc w rightly h.sound h.ages) in
    let deaths = crash_cases_both (deaths_crashed sc w h.sound h.agrees h.deaths) (restarts_crashed sc w (have_homes sc valid) rightly h.sound h.agrees h.epochs h.ages h.pairs h.deaths h.restarts) in
    let outside = crash_cases_both (lone_crashed sc w h.agrees.past h.lone) (outside_crashed sc w h.agrees.past h.outside) in
    let trusts = crash_cases_both (trusts_crashed sc w formed rightly h.sound h.agrees h.pairs h.trusts) (pairs_crashed sc w rightly h.sound h.agrees h.epochs h.pairs) in
    let serial = crash_cases_both (serial_crashed sc w valid rightly h.sound named h.agrees h.pairs h.serial) (refusals_crashed sc w valid rightly h.sound h.agrees h.pairs h.serial known h.refusals) in
    let bounds = crash_cases_both (bounds_crashed sc w valid rightly h.sound named h.agrees h.pairs h.serial h.bounds) (few_crashed sc w formed h.sound h.few) in
    let sizes = sizes_crashed sc w (have_homes sc valid) valid rightly h.sound h.agrees h.pairs h.trusts h.sizes in
    crash_cases_as sc w _ (λ taken move. Holds sc (state_after w taken move))
    (λ taken move t. record {
      sound = t.0.0.0.0;
      agrees = t.0.0.0.1;
      epochs = t.0.0.1.0;
      ages = t.0.0.1.1;
      deaths = t.0.1.0.0;
      restarts = t.0.1.0.1;
      lone = t.0.1.1.0;
      outside = t.0.1.1.1;
      trusts = t.1.0.0.0;
      pairs = t.1.0.0.1;
      serial = t.1.0.1.0;
      refusals = t.1.0.1.1;
      bounds = t.1.1.0.0;
      few = t.1.1.0.1;
      sizes = t.1.1.1;
    })
    (crash_cases_both (crash_cases_both (crash_cases_both ids epochs) (crash_cases_both deaths outside)) (crash_cases_both (crash_cases_both trusts serial) (crash_cases_both bounds sizes)))

-- so all of it holds after any step that is not refused
pub holds_next : (sc : Scenario) (m : Machine) (taken : Step) → is_valid sc ≡ true → IsStepOf sc taken → refusal m.state taken ≡ None → Holds sc m.state → Holds sc (machine_after sc m taken).state
holds_next sc m taken formed exists allowed h =
    every_step_by sc m (Holds sc) (holds_crashed sc m.state formed h) h.agrees.server_count h.agrees.coordinator_count taken exists allowed
    (λ stays. holds_running sc m taken formed exists stays allowed h)

step_holds : (sc : Scenario) (m : Machine) (taken : Step) (why : Option StepError) → refusal m.state taken ≡ why → is_valid sc ≡ true → IsStepOf sc taken → Holds sc m.state
    → Holds sc (if is_some why then m else machine_after sc m taken).state
step_holds sc m taken None e formed exists h = holds_next sc m taken formed exists e h
step_holds sc m taken (Some why) e formed exists h = h

steps_hold : (sc : Scenario) (m : Machine) (steps : List Step) → is_valid sc ≡ true → Each (IsStepOf sc) steps → Holds sc m.state → Holds sc (after_steps sc m steps).state
steps_hold sc m [] formed exist h = h
steps_hold sc m (taken ∷ steps) formed exist h =
    steps_hold sc (after_step sc m taken) steps formed exist.1 (step_holds sc m taken (refusal m.state taken) refl formed exist.0 h)

-- after every list of steps
pub holds_after : (sc : Scenario) (steps : List Step) → is_valid sc ≡ true → Each (IsStepOf sc) steps → Holds sc (after sc steps).state
holds_after sc steps formed exist = steps_hold sc (opening sc) steps formed exist (holds_opening sc formed)

-- ---- what the facts show

shows : (sc : Scenario) (w : State) → is_valid sc ≡ true → Holds sc w → IsTrustedState sc w
shows sc w formed h =
    record {
      outside = h.outside;
      agreed = facts_agreed sc w h.agrees;
      trusted = facts_trusted sc w h.sound h.trusts;
      caused = facts_caused sc w h.sound h.refusals h.deaths h.restarts h.trusts;
      serial = serial_facts sc w h.serial;
      lone = facts_lone w.facts h.lone;
      values_are = serial_values sc w (valid_of sc formed) h.sound h.agrees h.serial;
    }

-- after every list of steps the history is trusted so far
pub always_trusted : (sc : Scenario) (steps : List Step) → is_valid sc ≡ true → Each (IsStepOf sc) steps → IsTrustedState sc (after sc steps).state
always_trusted sc steps formed exist = shows sc (after sc steps).state formed (holds_after sc steps formed exist)

-- where all transactions are finished they have ended
pub has_all_ends : (sc : Scenario) (steps : List Step) → is_valid sc ≡ true → Each (IsStepOf sc) steps → HasAllEnds sc (after sc steps).state
has_all_ends sc steps formed exist finished = let h = holds_after sc steps formed exist in all_ended sc (after sc steps).state h.sound h.agrees finished

-- and where all transactions have ended the values are those of all commits
pub has_all_commits : (sc : Scenario) (steps : List Step) → is_valid sc ≡ true → Each (IsStepOf sc) steps → HasAllCommits sc (after sc steps).state
has_all_commits sc steps formed exist ended =
    let w = (after sc steps).state in
    let h = holds_after sc steps formed exist in
    serial_values sc w (valid_of sc formed) h.sound h.agrees h.serial ∙ values_at_end sc w (valid_of sc formed) h.agrees h.serial ended

-- and few mails were sent
pub sends_few : (sc : Scenario) (steps : List Step) → is_valid sc ≡ true → Each (IsStepOf sc) steps → length (after sc steps).state.mails ≤ mails_most * length steps
sends_few sc steps formed exist = omega (arith, few_mails (after sc steps).state (holds_after sc steps formed exist).few, steps_counted sc (opening sc) steps)

-- and no record on an actor's log is too long for a log
pub always_fit : (sc : Scenario) → is_valid sc ≡ true → AllFitLogs sc
always_fit sc formed steps exist = let h = holds_after sc steps formed exist in all_fit sc (after sc steps).state (valid_of sc formed) h.sound h.sizes

-- and what each shows may be printed
pub always_printable : (sc : Scenario) (steps : List Step) → is_valid sc ≡ true → Each (IsStepOf sc) steps → Each HasNumbers steps → length steps < 2 ^ 57 → IsPrintableState sc (after sc steps).state
always_printable sc steps formed exist numbered short =
    let w = (after sc steps).state in
    let h = holds_after sc steps formed exist in
    let valid : IsValid sc = valid_of sc formed in
    let shown = shows sc w formed h in
    let counted : length w.steps ≤ length (opening sc).state.steps + length steps = steps_counted sc (opening sc) steps in
    state_printable sc w (record { valid = valid; homes = have_homes sc valid; few = few_rules sc formed })
    (record { sound = h.sound; agrees = h.agrees; serial = h.serial; bounded = all_bounded sc w valid h.sound h.bounds; few = few_mails w h.few; outside = h.outside; trusted = shown.trusted; caused = shown.caused })
    (steps_kept HasNumbers sc (opening sc) steps numbered tt) (omega (arith, counted, short))

-- ---- the same of a world that the steps give

pub sound_after : (sc : Scenario) (steps : List Step) (m : Machine) → is_valid sc ≡ true → Each (IsStepOf sc) steps → m ≡ after sc steps → IsSound sc m.state
sound_after sc steps m formed exist e = subst (λ (k : Machine). IsSound sc k.state) (sym e) (holds_after sc steps formed exist).sound

pub bounded_after : (sc : Scenario) (steps : List Step) (w : State) → is_valid sc ≡ true → Each (IsStepOf sc) steps → w ≡ (after sc steps).state → AreBounded sc w
bounded_after sc steps w formed exist e =
    let h = holds_after sc steps formed exist in
    subst (AreBounded sc) (sym e) (all_bounded sc (after sc steps).state (valid_of sc formed) h.sound h.bounds)

pub so_far_after : (sc : Scenario) (steps : List Step) (w : State) → is_valid sc ≡ true → Each (IsStepOf sc) steps → w ≡ (after sc steps).state → IsTrustedState sc w
so_far_after sc steps w formed exist e = subst (IsTrustedState sc) (sym e) (always_trusted sc steps formed exist)

pub ends_after : (sc : Scenario) (steps : List Step) (w : State) → is_valid sc ≡ true → Each (IsStepOf sc) steps → w ≡ (after sc steps).state → HasAllEnds sc w
ends_after sc steps w formed exist e = subst (HasAllEnds sc) (sym e) (has_all_ends sc steps formed exist)

pub whole_after : (sc : Scenario) (steps : List Step) (w : State) → is_valid sc ≡ true → Each (IsStepOf sc) steps → w ≡ (after sc steps).state → HasAllCommits sc w
whole_after sc steps w formed exist e = subst (HasAllCommits sc) (sym e) (has_all_commits sc steps formed exist)

pub few_after : (sc : Scenario) (steps : List Step) (w : State) → is_valid sc ≡ true → Each (IsStepOf sc) steps → w ≡ (after sc steps).state → HasFewMails w
few_after sc steps w formed exist e = subst HasFewMails (sym e) (few_mails (after sc steps).state (holds_after sc steps formed exist).few)

-- of facts, which stand when a world is given up

pub agreed_after : (sc : Scenario) (steps : List Step) (facts : List Fact) → is_valid sc ≡ true → Each (IsStepOf sc) steps → facts ≡ (after sc steps).state.facts → is_agreed sc facts ≡ true
agreed_after sc steps facts formed exist e = ap (is_agreed sc) e ∙ (always_trusted sc steps formed exist).agreed

pub trusted_after : (sc : Scenario) (steps : List Step) (facts : List Fact) → is_valid sc ≡ true → Each (IsStepOf sc) steps → facts ≡ (after sc steps).state.facts → is_trusted sc facts ≡ true
trusted_after sc steps facts formed exist e = ap (is_trusted sc) e ∙ (always_trusted sc steps formed exist).trusted

pub caused_after : (sc : Scenario) (steps : List Step) (facts : List Fact) → is_valid sc ≡ true → Each (IsStepOf sc) steps → facts ≡ (after sc steps).state.facts → is_caused sc facts ≡ true
caused_after sc steps facts formed exist e = ap (is_caused sc) e ∙ (always_trusted sc steps formed exist).caused

pub serial_after : (sc : Scenario) (steps : List Step) (facts : List Fact) → is_valid sc ≡ true → Each (IsStepOf sc) steps → facts ≡ (after sc steps).state.facts → is_serial sc facts ≡ true
serial_after sc steps facts formed exist e = ap (is_serial sc) e ∙ (always_trusted sc steps formed exist).serial

pub lone_after : (sc : Scenario) (steps : List Step) (facts : List Fact) → is_valid sc ≡ true → Each (IsStepOf sc) steps → facts ≡ (after sc steps).state.facts → are_lone facts ≡ true
lone_after sc steps facts formed exist e = ap are_lone e ∙ (always_trusted sc steps formed exist).lone
