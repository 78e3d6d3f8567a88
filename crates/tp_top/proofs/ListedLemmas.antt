-- The steps that a scenario lists: what they are, and how far they were done.
use Rattle.std.proofs.Common.{◌≡◌, ◌^◌, ◌++◌, List, length, take, true, Some, None, refl, sym, ap, subst, ◌∙◌, arith}
use Rattle.std.specs.List.{list_all}
use Rattle.std.proofs.lemmas.Bool.{and_parts, ltb-true}
use Rattle.tp_machine.specs.Machine.{after, after_steps}
use Rattle.tp_machine.specs.WorldView.{WorldView, start}
use Rattle.tp_model.proofs.RuleLemmas.{count_most, rules_of}
use Rattle.tp_model.specs.Limits.{has_count, steps_limit, tick_limit}
use Rattle.tp_model.specs.Valid.{is_valid, is_valid_step}
use Rattle.tp_model.specs.Words.step
use Rattle.tp_model.specs.Words.{Scenario, Step}
use Rattle.tp_runs.specs.Laws.{HasNumbers}
use Rattle.tp_ends.proofs.ListedRun.{listed_exist}
use Rattle.tp_ends.proofs.PrintableRun.{AreSteps}
use Rattle.tp_ends.specs.After.{first_refused_of}
use Rattle.tp_ends.specs.Listed.{refused_from}
use Rattle.tp_ends.specs.declared.listed.StepRefusal.{StepRefusal}
use Rattle.tp_ends.specs.Calls.{Follows, IsAfter, IsAtRest, Settles, StopsBefore}
use Rattle.tp_top.specs.mirrors.Runs.{IsStoppedAt}
use Rattle.tp_types.proofs.EachLemmas.{each_as, each_from_all}

-- ---- what is listed

listed_numbered : (sc : Scenario) (taken : Step) → is_valid_step sc taken ≡ true → HasNumbers taken
listed_numbered sc (step.Tick by) h = let most = count_most 1 tick_limit by h in omega (arith, most)
listed_numbered sc (step.Lose mail) h = let most = ltb-true mail (10 ^ 15) h in omega (arith, most)
listed_numbered sc (step.Submit txn) h = tt
listed_numbered sc (step.Publish admin) h = tt
listed_numbered sc (step.Push admin server) h = tt
listed_numbered sc (step.Revoke cred) h = tt
listed_numbered sc (step.Deliver mail) h = tt
listed_numbered sc (step.Crash who cut) h = tt
listed_numbered sc (step.Boot who) h = tt
listed_numbered sc (step.Timer txn) h = tt

-- they name what exists, their numbers are of 64 bits, and they are few
pub listed_are : (sc : Scenario) → is_valid sc ≡ true → AreSteps sc sc.steps
listed_are sc formed =
    let rules = and_parts (has_count 0 steps_limit sc.steps) (list_all (is_valid_step sc) sc.steps) (rules_of sc formed).steps in
    let most = count_most 0 steps_limit (length sc.steps) rules.0 in
    record {
      exist = listed_exist sc formed;
      numbered = each_as (λ (taken : Step). is_valid_step sc taken ≡ true) HasNumbers (listed_numbered sc) sc.steps (each_from_all (is_valid_step sc) sc.steps rules.1);
      few = omega (arith, most);
    }

-- ---- how far they were done

-- a world in which all of them were done is after them
followed_all : (old new : WorldView) (steps : List Step) → old ≡ start old.scenario → steps ≡ old.scenario.steps → Follows old new steps None → IsAfter old.scenario.steps new
followed_all old new steps fresh listed follows =
    let kept : new.scenario ≡ old.scenario = ap (λ (w : WorldView). w.scenario) (follows.done refl) in
    let lawful : first_refused_of old.scenario old.scenario.steps ≡ None =
    sym (follows.first
    ∙ (ap (λ (l : List Step). refused_from old.scenario old.machine 0 l) listed
    ∙ ap (λ (w : WorldView). refused_from old.scenario w.machine 0 old.scenario.steps) fresh)) in
    record {
      up = ap (λ (w : WorldView). w.given_up) (follows.done refl) ∙ ap (λ (w : WorldView). w.given_up) fresh;
      lawful = ap (λ (sc : Scenario). first_refused_of sc old.scenario.steps) kept ∙ lawful;
      now = ap (λ (w : WorldView). w.machine) (follows.done refl)
          ∙ (ap (λ (l : List Step). after_steps old.scenario old.machine l) listed
          ∙ (ap (λ (w : WorldView). after_steps old.scenario w.machine old.scenario.steps) fresh
          ∙ ap (λ (sc : Scenario). after sc old.scenario.steps) (sym kept)));
    }

-- so where it then settles it comes to rest after them
pub run_settled : (old mid new : WorldView) (steps : List Step) → old ≡ start old.scenario → steps ≡ old.scenario.steps → Follows old mid steps None → Settles mid new → IsAtRest old.scenario old.scenario.steps new
run_settled old mid new steps fresh listed follows settles =
    subst (λ (sc : Scenario). IsAtRest sc old.scenario.steps new) (ap (λ (w : WorldView). w.scenario) (follows.done refl))
    (settles old.scenario.steps (followed_all old mid steps fresh listed follows))

-- a run of the scenario's own steps that is stopped stands before the first of them that is refused
pub stopped_at : (old new : WorldView) (steps : List Step) (refused : StepRefusal) → old ≡ start old.scenario → steps ≡ old.scenario.steps → Follows old new steps (Some refused) → StopsBefore old new steps (Some refused)
    → IsStoppedAt old.scenario new refused
stopped_at old new steps refused fresh listed follows before = record {
  first = sym (follows.first
      ∙ (ap (λ (l : List Step). refused_from old.scenario old.machine 0 l) listed
      ∙ ap (λ (w : WorldView). refused_from old.scenario w.machine 0 old.scenario.steps) fresh));
  before = before
      ∙ (ap (λ (l : List Step). old.machine.state.steps ++ take refused.at l) listed
      ∙ ap (λ (w : WorldView). w.machine.state.steps ++ take refused.at old.scenario.steps) fresh);
}
