-- A race replayed: the scenario that lists the steps of a race, and what `run` promises of it.
use Rattle.std.specs.Prelude.{◌≡◌, ◌≢◌, ◌≤◌, ◌++◌, ◌∷◌, ℕ, List, [], length, map, flat_map, codes, true, Some, Ok}
use Rattle.serde_json.specs.Data.{Data}
use Rattle.tp_ends.specs.After.{all_after, automatic_after}
use Rattle.tp_ends.specs.Streams.{Stream}
use Rattle.tp_model.specs.Limits.{steps_limit}
use Rattle.tp_model.specs.SpelledNames.{is_spelled}
use Rattle.tp_model.specs.Valid.{is_valid}
use Rattle.tp_model.specs.Words.{Scenario, Step}
use Rattle.tp_report.specs.StepText.{step_text}
use Rattle.tp_scenario.specs.Values.{array_of, field, object_at}
use Rattle.tp_scenario.specs.Walk.{walk_of}
use Rattle.tp_scenario.specs.declared.path.Key.{Key}
use Rattle.tp_scenario.specs.declared.path.Key.TheVariants.{Admins, Clients, Clock, Credentials, Officers, Publishers, Servers, Steps, Transactions}
use Rattle.tp_scenario.specs.declared.path.Path.TheVariants.{Whole}
use Rattle.tp_top.specs.Laws.{SaysOnly}
use Rattle.tp_top.specs.Run.{report_told}
use Rattle.tp_top.specs.Runs.{ComesTo}
use Rattle.tp_types.specs.Each.{Each}
use Rattle.tp_race.specs.Race.{IsRaceInput, RacesTo}
use Rattle.tp_race.specs.Texts.{step_line}

-- the scenario, with these steps as the listed ones
abbrev pub listing : Scenario → List Step → Scenario
listing sc steps = record sc { steps = steps }

-- the value is an object with the keys of a scenario
abbrev pub IsScenarioObject : Data → Type 0
IsScenarioObject value =
    object_at Whole (Admins ∷ Servers ∷ Transactions ∷ [])
    (Clock ∷ Credentials ∷ Steps ∷ Clients ∷ Publishers ∷ Officers ∷ []) value ≡ Ok value

-- the other value is that of a scenario too, and differs from this one in its steps alone, which are the array of these
-- texts
pub record SetsSteps (texts : List (List ℕ)) (value other : Data) : Type 0 where
  pub form : IsScenarioObject other
  pub steps : field Steps other ≡ Some (array_of texts)
  pub kept : (key : Key) → key ≢ Steps → field key other ≡ field key value

-- The scenario that lists these steps keeps every rule, and its names are spelled as names. The text of each step says
-- this step and no other. Whatever JSON value is the scenario, the one with the array of these texts as its steps is
-- the scenario that lists them
pub record IsListed (sc : Scenario) (steps : List Step) : Type 0 where
  pub valid : is_valid (listing sc steps) ≡ true
  pub spelled : is_spelled (listing sc steps) ≡ true
  pub says : Each (λ (taken : Step). SaysOnly (listing sc steps) taken (step_text sc taken)) steps
  pub reads : (value other : Data) → walk_of value ≡ Ok sc → SetsSteps (map (step_text sc) steps) value other
      → walk_of other ≡ Ok (listing sc steps)

-- What `run` promises of the scenario that lists these steps: none of them is refused, it comes to rest with none
-- behind them, and its report is this text
pub record IsRun (sc : Scenario) (steps : List Step) (report : List ℕ) : Type 0 where
  pub comes : ComesTo report_told (listing sc steps) report
  pub alone : automatic_after (listing sc steps) steps ≡ []

-- the text of a race: its first line, a line for each of these steps, which can be listed, and the report that `run`
-- promises of them
pub record IsReplayed (sc : Scenario) (steps : List Step) (text : List ℕ) : Type 0 where
  pub listed : IsListed sc steps
  pub report : List ℕ
  pub run : IsRun sc steps report
  pub text_is : text ≡ codes "race 1\n" ++ (flat_map (step_line sc) steps ++ report)

-- so it is of each race of at most 100,000 steps
abbrev pub RacesAreReplayed : Type 0
RacesAreReplayed =
    (input : Stream) (sc : Scenario) (text : List ℕ) → IsRaceInput input sc → (races : RacesTo sc text)
    → length (all_after sc races.book) ≤ steps_limit → IsReplayed sc (all_after sc races.book) text
