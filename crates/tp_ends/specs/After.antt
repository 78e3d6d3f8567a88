-- How a run ends: the automatic steps after a list of steps, and the world after all of them.
use Rattle.std.specs.Prelude.{◌≡◌, ◌*◌, ◌≤◌, List, ◌++◌, length, true, Option, None, ℕ}
use Rattle.tp_auto.specs.Auto.{automatic_steps, bound, is_quiet}
use Rattle.tp_machine.specs.Machine.{Machine, after, after_steps, ending_of, opening}
use Rattle.tp_model.specs.TrustedHistory.{TrustedHistory}
use Rattle.tp_model.specs.Words.{Scenario, Step}
use Rattle.tp_runs.specs.Laws.{IsPrintableState, mails_most}
use Rattle.tp_ends.specs.Headline.{Told}
use Rattle.tp_ends.specs.Listed.{refused_from}
use Rattle.tp_ends.specs.declared.listed.StepRefusal.{StepRefusal}

-- the first of the steps that the machine refuses
abbrev pub first_refused_of : Scenario → List Step → Option StepRefusal
first_refused_of sc steps = refused_from sc (opening sc) 0 steps

-- the automatic steps after them, of which the bound may be taken
abbrev pub automatic_after : Scenario → List Step → List Step
automatic_after sc steps =
    automatic_steps sc (bound sc (length (after sc steps).undelivered)) (after sc steps)

-- the steps, and the automatic ones after them
abbrev pub all_after : Scenario → List Step → List Step
all_after sc steps = steps ++ automatic_after sc steps

-- the world after all of them
abbrev pub final_after : Scenario → List Step → Machine
final_after sc steps = after_steps sc (after sc steps) (automatic_after sc steps)

-- what is told of that world
abbrev pub told_after : Told → Scenario → List Step → List ℕ
told_after told sc steps =
    told sc (all_after sc steps) (final_after sc steps).state.facts
    (ending_of sc (final_after sc steps).state)

-- none of the steps is refused, and the run comes to rest with a trusted history that may be printed, of few mails
pub record RestsAfter (sc : Scenario) (steps : List Step) : Type 0 where
  pub lawful : first_refused_of sc steps ≡ None
  pub quiet : is_quiet sc (final_after sc steps) ≡ true
  pub trusted : TrustedHistory sc (all_after sc steps) (final_after sc steps).state.facts
      (ending_of sc (final_after sc steps).state)
  pub few_mails : length (final_after sc steps).state.mails ≤ mails_most * length (all_after sc steps)
  pub printable : IsPrintableState sc (final_after sc steps).state
