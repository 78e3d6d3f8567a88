-- The text of a race: a line for each step, and the report of these steps.
use Rattle.std.specs.Prelude.{ℕ, List, ◌++◌, flat_map, codes}
use Rattle.tp_ends.specs.Headline.{Told}
use Rattle.tp_model.specs.Words.{Scenario, Step}
use Rattle.tp_report.specs.ReportText.{report_text}
use Rattle.tp_report.specs.StepText.{step_text}

-- `step SPELLING`
abbrev pub step_line : Scenario → Step → List ℕ
step_line sc taken = codes "step " ++ (step_text sc taken ++ codes "\n")

-- `race 1`, the steps, and the report
abbrev pub race_told : Told
race_told sc steps facts ending =
    codes "race 1\n" ++ (flat_map (step_line sc) steps ++ report_text sc facts ending)
