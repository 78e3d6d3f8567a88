-- The history of a whole run is trusted: the invariants of every world, and the end of the one run, whatever steps it begins with.
use Rattle.std.proofs.Common.{◌≡◌, ℕ, zero, suc, ◌+◌, ◌≤◌, List, [], ◌∷◌, ◌++◌, length, true, Option, Some, None, refl, sym, ap, subst, ◌∙◌, arith}
use Rattle.std.proofs.lemmas.List.{append_assoc, append-nil, length-append}
use Rattle.tp_model.specs.Words.{Scenario, Step}
use Rattle.tp_model.specs.Valid.{is_valid}
use Rattle.tp_model.specs.TrustedHistory.{TrustedHistory, TrustedSoFar, have_ended}
use Rattle.tp_runs.specs.Laws.{HasAllCommits, HasAllEnds, IsTrustedState}
use Rattle.tp_machine.specs.Machine.{Machine, Move, State, after, after_step, after_steps, ending_of, machine_after, mails_of, opening, refusal, state_after}
use Rattle.tp_types.specs.Each.{Each}
use Rattle.tp_machine.specs.Named.{IsStepOf}
use Rattle.tp_machine.proofs.basics.Machine.{steps_next}
use Rattle.tp_types.proofs.EachLemmas.{each_append}
use Rattle.tp_auto.specs.Auto.{automatic_from, bound, cursor_after, is_quiet, next_of}
use Rattle.tp_ends.specs.After.{all_after, automatic_after, final_after, first_refused_of}
use Rattle.tp_ends.specs.Listed.{refused_from}
use Rattle.tp_auto.proofs.AutoLemmas.{after_allowed, automatic-none, automatic-some}
use Rattle.tp_auto.proofs.GoingLemmas.{Going, going_first, next_goes}
use Rattle.tp_auto.proofs.NextLemmas.{quiet_finished}
use Rattle.tp_auto.proofs.StandsLemmas.{stands_after}
use Rattle.tp_ends.proofs.ListedRun.{none_refused}

-- mails are only added
pub more_mails : (w : State) (taken : Step) (move : Move) → length w.mails ≤ length (state_after w taken move).mails
more_mails w taken move = omega (arith, length-append w.mails (mails_of (length w.steps) (length w.mails) move.letters))

-- ---- steps that are done

-- the step names what exists, and is not refused
record IsDone (sc : Scenario) (m : Machine) (taken : Step) : Type 0 where
  pub exists : IsStepOf sc taken
  pub allowed : refusal m.state taken ≡ None

-- the machine refuses none of the steps, done one after another
abbrev AreAllowed : Scenario → Machine → List Step → Type 0
AreAllowed sc m [] = Unit {0}
AreAllowed sc m (taken ∷ others) = (refusal m.state taken ≡ None) × AreAllowed sc (machine_after sc m taken) others

-- the steps name what exists, none is refused, and they are those that the machine then has
pub record AreDone (sc : Scenario) (m : Machine) (steps : List Step) : Type 0 where
  pub exist : Each (IsStepOf sc) steps
  pub allowed : AreAllowed sc m steps
  pub steps_are : (after_steps sc m steps).state.steps ≡ m.state.steps ++ steps

-- one step and the rest
done_first : (sc : Scenario) (m : Machine) (taken : Step) (others : List Step) → IsDone sc m taken → AreDone sc (machine_after sc m taken) others → AreDone sc m (taken ∷ others)
done_first sc m taken others d rest =
    record {
      exist = (d.exists, rest.exist);
      allowed = (d.allowed, rest.allowed);
      steps_are = ap (λ (k : Machine). (after_steps sc k others).state.steps) (after_allowed sc m taken d.allowed)
          ∙ (rest.steps_are ∙ (ap (λ (steps : List Step). steps ++ others) (steps_next sc m taken) ∙ append_assoc m.state.steps (taken ∷ []) others));
    }

by_next : (sc : Scenario) (left cursor : ℕ) (m : Machine) (next : Option Step) → is_valid sc ≡ true → next_of sc m cursor ≡ next → Going sc m cursor
    → ((after : ℕ) (k : Machine) → Going sc k after → AreDone sc k (automatic_from sc left after k)) → AreDone sc m (automatic_from sc (suc left) cursor m)
by_next sc left cursor m None formed e g rest = subst (AreDone sc m) (sym (automatic-none sc (suc left) cursor m e)) (record { exist = tt; allowed = tt; steps_are = sym (append-nil m.state.steps) })
by_next sc left cursor m (Some taken) formed e g rest =
    let goes = next_goes sc m cursor taken formed g e in
    subst (AreDone sc m) (sym (automatic-some sc left cursor m taken e goes.allowed))
    (done_first sc m taken (automatic_from sc left (cursor_after taken cursor) (machine_after sc m taken)) (record { exists = goes.exists; allowed = goes.allowed })
    (rest (cursor_after taken cursor) (machine_after sc m taken) goes.going))

automatic_done : (sc : Scenario) (count cursor : ℕ) (m : Machine) → is_valid sc ≡ true → Going sc m cursor → AreDone sc m (automatic_from sc count cursor m)
automatic_done sc zero cursor m formed g = record { exist = tt; allowed = tt; steps_are = sym (append-nil m.state.steps) }
automatic_done sc (suc left) cursor m formed g = by_next sc left cursor m (next_of sc m cursor) formed refl g (λ after k going. automatic_done sc left after k formed going)

-- ---- the whole run

append_steps : (sc : Scenario) (m : Machine) (first more : List Step) → after_steps sc (after_steps sc m first) more ≡ after_steps sc m (first ++ more)
append_steps sc m [] more = refl
append_steps sc m (taken ∷ first) more = append_steps sc (after_step sc m taken) first more

-- the last machine is the one after all steps
pub final_is : (sc : Scenario) (steps : List Step) → final_after sc steps ≡ after sc (all_after sc steps)
final_is sc steps = append_steps sc (opening sc) steps (automatic_after sc steps)

allowed_after : (sc : Scenario) (m : Machine) (first more : List Step) → AreAllowed sc m first → AreAllowed sc (after_steps sc m first) more → AreAllowed sc m (first ++ more)
allowed_after sc m [] more f g = g
allowed_after sc m (taken ∷ first) more f g =
    (f.0, allowed_after sc (machine_after sc m taken) first more f.1 (subst (λ (k : Machine). AreAllowed sc (after_steps sc k first) more) (after_allowed sc m taken f.0) g))

-- steps that are done one after another are done together
done_after : (sc : Scenario) (m : Machine) (first more : List Step) → AreDone sc m first → AreDone sc (after_steps sc m first) more → AreDone sc m (first ++ more)
done_after sc m first more f g =
    record {
      exist = each_append (IsStepOf sc) first more f.exist g.exist;
      allowed = allowed_after sc m first more f.allowed g.allowed;
      steps_are = ap (λ (k : Machine). k.state.steps) (sym (append_steps sc m first more))
          ∙ (g.steps_are ∙ (ap (λ (steps : List Step). steps ++ more) f.steps_are ∙ append_assoc m.state.steps first more));
    }

-- steps of which none is refused are done
given_done : (sc : Scenario) (m : Machine) (at : ℕ) (steps : List Step) → Each (IsStepOf sc) steps → refused_from sc m at steps ≡ None → AreDone sc m steps
given_done sc m at [] exist none = record { exist = tt; allowed = tt; steps_are = sym (append-nil m.state.steps) }
given_done sc m at (taken ∷ steps) exist none =
    let n = none_refused sc m at taken steps none in
    done_first sc m taken steps (record { exists = exist.0; allowed = n.allowed })
    (given_done sc (machine_after sc m taken) (at + 1) steps exist.1 n.rest)

-- all steps name what exists, and are the steps of the last machine
pub all_done : (sc : Scenario) (steps : List Step) → is_valid sc ≡ true → Each (IsStepOf sc) steps → first_refused_of sc steps ≡ None → AreDone sc (opening sc) (all_after sc steps)
all_done sc steps formed exist lawful =
    done_after sc (opening sc) steps (automatic_after sc steps)
    (given_done sc (opening sc) 0 steps exist lawful)
    (automatic_done sc (bound sc (length (after sc steps).undelivered)) 0 (after sc steps) formed (going_first sc (after sc steps) (stands_after sc steps formed exist)))

pub steps_of : (sc : Scenario) (steps : List Step) → is_valid sc ≡ true → Each (IsStepOf sc) steps → first_refused_of sc steps ≡ None → (final_after sc steps).state.steps ≡ all_after sc steps
steps_of sc steps formed exist lawful = ap (λ (m : Machine). m.state.steps) (final_is sc steps) ∙ (all_done sc steps formed exist lawful).steps_are

-- a run that comes to be quiet leaves a trusted history, where its last state is trusted
pub trusted_run : (sc : Scenario) (steps : List Step) → is_valid sc ≡ true → Each (IsStepOf sc) steps → first_refused_of sc steps ≡ None → is_quiet sc (final_after sc steps) ≡ true
    → IsTrustedState sc (final_after sc steps).state → HasAllEnds sc (final_after sc steps).state → HasAllCommits sc (final_after sc steps).state
    → TrustedHistory sc (all_after sc steps) (final_after sc steps).state.facts (ending_of sc (final_after sc steps).state)
trusted_run sc steps formed exist lawful quiet so_far ends whole =
    let w = (final_after sc steps).state in
    let ended : have_ended sc w.facts 0 sc.txns ≡ true = ends (quiet_finished sc (final_after sc steps) quiet) in
    record {
      so_far = subst (λ (all : List Step). TrustedSoFar sc all w.facts (ending_of sc w).values) (steps_of sc steps formed exist lawful) so_far;
      ended = ended;
      whole = whole ended;
      steps_are = ap length (steps_of sc steps formed exist lawful);
    }
