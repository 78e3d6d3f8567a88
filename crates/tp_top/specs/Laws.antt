-- What the text of a step tells.
use Rattle.std.specs.Prelude.{◌≡◌, ◌≤◌, ℕ, List, length, map, true, Some, Ok}
use Rattle.std.specs.List.{list_all}
use Rattle.tp_model.specs.Limits.{steps_limit}
use Rattle.tp_model.specs.SpelledNames.{is_spelled}
use Rattle.tp_model.specs.Valid.{is_valid, is_valid_step}
use Rattle.tp_model.specs.Words.{Scenario, Step}
use Rattle.tp_report.specs.StepText.{step_text}
use Rattle.tp_scenario.specs.Spelled.{IsStep}
use Rattle.tp_scenario.specs.Steps.{steps_at}
use Rattle.tp_scenario.specs.Values.{array_of}
use Rattle.tp_scenario.specs.Walk.{names_of}

-- the text says the step, where the names of the scenario are declared, and no other step
pub record SaysOnly (sc : Scenario) (taken : Step) (text : List ℕ) : Type 0 where
  pub says : IsStep (names_of sc) taken text
  pub no_other : (other : Step) → IsStep (names_of sc) other text → other ≡ taken

-- in a valid scenario whose names are spelled as names, the text of a step that it may list says this step alone; a
-- valid step names what exists, and its numbers are in their ranges, so a mail's number has at most 15 digits
abbrev pub StepsAreReadBack : Type 0
StepsAreReadBack =
    (sc : Scenario) (taken : Step) → is_valid sc ≡ true → is_spelled sc ≡ true
    → is_valid_step sc taken ≡ true → SaysOnly sc taken (step_text sc taken)

-- and of the array of the texts of at most 100,000 such steps the walk reads these steps, where a scenario lists them
abbrev pub ListsAreReadBack : Type 0
ListsAreReadBack =
    (sc : Scenario) (steps : List Step) → is_valid sc ≡ true → is_spelled sc ≡ true
    → length steps ≤ steps_limit → list_all (is_valid_step sc) steps ≡ true
    → steps_at (names_of sc) (Some (array_of (map (step_text sc) steps))) ≡ Ok steps
