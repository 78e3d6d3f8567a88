-- A world that comes to rest, and what is told of it: the headline.
use Rattle.std.proofs.Common.{◌≡◌, ◌*◌, ◌≤◌, ℕ, List, length, true, Result, Ok, Err, OnOk, refl, sym, ap, subst, ◌∙◌, arith}
use Rattle.std.specs.Io.KnownBytes.{Appends}
use Rattle.tp_auto.specs.Auto.{Drains, automatic_steps, bound, is_quiet}
use Rattle.tp_machine.specs.Machine.{Machine, State, after, after_steps, ending_of}
use Rattle.tp_machine.specs.Named.{IsStepOf}
use Rattle.tp_machine.specs.WorldView.{WorldView}
use Rattle.tp_model.specs.Valid.{is_valid}
use Rattle.tp_model.specs.Words.{Scenario, Step}
use Rattle.tp_runs.specs.Laws.{IsTrustedState}
use Rattle.tp_ends.proofs.ByThemselves.{automatic_by_themselves}
use Rattle.tp_ends.proofs.TrustedRun.{steps_of}
use Rattle.tp_ends.specs.After.{RestsAfter, all_after, automatic_after, final_after, told_after}
use Rattle.tp_ends.specs.Headline.{TellsTrusted, Told}
use Rattle.tp_ends.specs.Streams.{Stream}
use Rattle.tp_ends.specs.Calls.{IsAfter, IsAtRest, IsRestedTo, IsWhole, Settles}
use Rattle.tp_types.specs.Each.{Each}

-- ---- coming to rest

-- a machine after its automatic steps
abbrev rested : Scenario → Machine → Machine
rested sc m = after_steps sc m (automatic_steps sc (bound sc (length m.undelivered)) m)

settles : (old new : WorldView) → Drains old new → is_quiet new.scenario new.machine ≡ true → (steps : List Step) → IsAfter steps old → IsAtRest old.scenario steps new
settles old new drains quiet steps here =
    let kept : new.scenario ≡ old.scenario = ap (λ (w : WorldView). w.scenario) drains.now in
    let now : new.machine ≡ final_after old.scenario steps = ap (λ (w : WorldView). w.machine) drains.now ∙ ap (rested old.scenario) here.now in
    record {
      scenario_is = kept;
      now = now;
      lawful = here.lawful;
      quiet = ap (λ (m : Machine). is_quiet old.scenario m) (sym now) ∙ (ap (λ (sc : Scenario). is_quiet sc new.machine) (sym kept) ∙ quiet);
    }

-- a drain that ends has its world come to rest
pub settled : {A E : Type 0} (old new : WorldView) (result : Result A E) → OnOk result (Drains old new) → OnOk result (is_quiet new.scenario new.machine ≡ true) → OnOk result (Settles old new)
settled old new (Ok done) drains quiet = settles old new drains quiet
settled old new (Err e) drains quiet = tt

-- ---- what holds of a world at rest

-- what holds of a world at rest holds of the last state
at_rest : (sc : Scenario) (steps : List Step) (world : WorldView) (P : Scenario → State → Type 0) → IsAtRest sc steps world → P world.scenario world.machine.state → P sc (final_after sc steps).state
at_rest sc steps world P h p = subst (λ (s : Scenario). P s (final_after sc steps).state) h.scenario_is (subst (λ (m : Machine). P world.scenario m.state) h.now p)

-- what is told of a world at rest is what is told of the run
pub rested_told : (told : Told) (sc : Scenario) (steps : List Step) (world : WorldView) (text : List ℕ) → is_valid sc ≡ true → Each (IsStepOf sc) steps → IsAtRest sc steps world
    → text ≡ told world.scenario world.machine.state.steps world.machine.state.facts (ending_of world.scenario world.machine.state)
    → IsTrustedState world.scenario world.machine.state → IsWhole world.scenario world.machine.state → IsRestedTo told sc steps text
rested_told told sc steps world text formed exist h text_is so_far whole =
    record {
      rested = record { lawful = h.lawful; quiet = h.quiet; so_far = at_rest sc steps world IsTrustedState h so_far; whole = at_rest sc steps world IsWhole h whole };
      text_is = at_rest sc steps world (λ (s : Scenario) (w : State). text ≡ told s w.steps w.facts (ending_of s w)) h text_is
          ∙ ap (λ (all : List Step). told sc all (final_after sc steps).state.facts (ending_of sc (final_after sc steps).state)) (steps_of sc steps formed exist h.lawful);
    }

-- ---- the headline

-- the mails are few for the steps that were done
pub few_by_steps : (sc : Scenario) (steps : List Step) → RestsAfter sc steps → length (final_after sc steps).state.mails ≤ 128 * length (final_after sc steps).state.steps
few_by_steps sc steps h = omega (arith, h.few_mails, h.trusted.steps_are)

-- what a run comes to is a trusted history whose steps begin with these, and what is told of it was written
abbrev pub tells_trusted : (told : Told) (sc : Scenario) (steps : List Step) (out : Stream) (text : List ℕ) → RestsAfter sc steps → text ≡ told_after told sc steps → Appends out.old out.new text → TellsTrusted told sc steps out
tells_trusted told sc steps out text rests text_is written =
    record {
      later = automatic_after sc steps;
      facts = (final_after sc steps).state.facts;
      ending = ending_of sc (final_after sc steps).state;
      by_themselves = automatic_by_themselves sc (bound sc (length (after sc steps).undelivered)) 0 (after sc steps);
      trusted = rests.trusted;
      few_mails = few_by_steps sc steps rests;
      printable = rests.printable;
      written = subst (Appends out.old out.new) text_is written;
    }
