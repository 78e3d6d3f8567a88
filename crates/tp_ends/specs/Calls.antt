-- What the calls of this crate promise: of steps that are done, of a world at rest, and of an input.
use Rattle.std.specs.Prelude.{◌≡◌, List, [], ◌++◌, ℕ, take, true, false, Option, Some, None}
use Rattle.tp_auto.specs.Auto.{is_quiet, world_after}
use Rattle.tp_machine.specs.Machine.{State, after, ending_of}
use Rattle.tp_machine.specs.WorldView.{WorldView}
use Rattle.tp_model.specs.Valid.{is_valid}
use Rattle.tp_model.specs.Words.{Scenario, Step}
use Rattle.tp_runs.specs.Laws.{HasAllCommits, HasAllEnds, IsTrustedState}
use Rattle.tp_scenario.specs.declared.from_bytes.ScenarioError.{ScenarioError}
use Rattle.tp_ends.specs.After.{final_after, first_refused_of, told_after}
use Rattle.tp_ends.specs.Headline.{Told}
use Rattle.tp_ends.specs.Input.{IsRead}
use Rattle.tp_ends.specs.Listed.{refused_from}
use Rattle.tp_ends.specs.Refusals.{refusal_line}
use Rattle.tp_ends.specs.Streams.{Stream}
use Rattle.tp_ends.specs.Unread.{FailsToRead, RefusesInput}
use Rattle.tp_ends.specs.declared.answer.Answer.{Answer}
use Rattle.tp_ends.specs.declared.answer.Answer.TheVariants as answer
use Rattle.tp_ends.specs.declared.listed.StepRefusal.{StepRefusal}

-- ---- steps that are done

-- the first of the steps that the old world refuses is told; where there is none, the new world is the one after all of
-- them
pub record Follows (old new : WorldView) (steps : List Step) (refused : Option StepRefusal)
    : Type 0 where
  pub first : refused ≡ refused_from old.scenario old.machine 0 steps
  pub done : refused ≡ None → new ≡ world_after old steps

-- where a step is refused just the steps before it were done
abbrev pub StopsBefore : WorldView → WorldView → List Step → Option StepRefusal → Type 0
StopsBefore old new steps None = Unit {0}
StopsBefore old new steps (Some refused) =
    new.machine.state.steps ≡ old.machine.state.steps ++ take refused.at steps

-- a world that is not given up, after these steps, of which none is refused
pub record IsAfter (steps : List Step) (world : WorldView) : Type 0 where
  pub up : world.given_up ≡ false
  pub lawful : first_refused_of world.scenario steps ≡ None
  pub now : world.machine ≡ after world.scenario steps

-- a world of the scenario that came to rest after these steps
pub record IsAtRest (sc : Scenario) (steps : List Step) (world : WorldView) : Type 0 where
  pub scenario_is : world.scenario ≡ sc
  pub now : world.machine ≡ final_after sc steps
  pub lawful : first_refused_of sc steps ≡ None
  pub quiet : is_quiet sc (final_after sc steps) ≡ true

-- whatever steps the old world is after, the new one came to rest after them
abbrev pub Settles : WorldView → WorldView → Type 0
Settles old new = (steps : List Step) → IsAfter steps old → IsAtRest old.scenario steps new

-- ---- what is shown of a state

-- where all of its transactions are finished they have ended, and where they have, its values are those that all
-- commits leave
pub record IsWhole (sc : Scenario) (w : State) : Type 0 where
  pub ended : HasAllEnds sc w
  pub commits : HasAllCommits sc w

-- the steps are done, and the run comes to rest, with a history of which all is told
pub record IsRested (sc : Scenario) (steps : List Step) : Type 0 where
  pub lawful : first_refused_of sc steps ≡ None
  pub quiet : is_quiet sc (final_after sc steps) ≡ true
  pub so_far : IsTrustedState sc (final_after sc steps).state
  pub whole : IsWhole sc (final_after sc steps).state

-- and the text is what is told of it
pub record IsRestedTo (told : Told) (sc : Scenario) (steps : List Step) (text : List ℕ) : Type 0 where
  pub rested : IsRested sc steps
  pub text_is : text ≡ told_after told sc steps

-- ---- what comes of an input

-- of one that is refused so: its line
abbrev pub IsRefusal : ScenarioError → Answer → Type 0
IsRefusal why (answer.Refused text line) = (text.0 ≡ []) × (line.0 ≡ refusal_line why)
IsRefusal why answer.NoMemory = Unit {0}
IsRefusal why _ = ⊥

-- of one that is not read as a scenario
abbrev pub IsUnread : Stream → Answer → Type 0
IsUnread input (answer.Text text) = ⊥
IsUnread input (answer.Refused text line) = RefusesInput input text.0 line.0
IsUnread input answer.ReadFault = FailsToRead input
IsUnread input answer.NoMemory = Unit {0}

-- of one that is: the scenario, which is valid
pub record IsInput (input : Stream) (sc : Scenario) : Type 0 where
  pub read : IsRead input sc
  pub valid : is_valid sc ≡ true
