-- What the commands that run a scenario promise to one another.
use Rattle.std.specs.Prelude.{◌≡◌, List, ℕ, take, Some}
use Rattle.tp_bulk.specs.Bulk.{scenario_of}
use Rattle.tp_machine.specs.WorldView.{WorldView}
use Rattle.tp_model.specs.Words.{Scenario, Step}
use Rattle.tp_top.specs.Bulk.{line_told}
use Rattle.tp_ends.specs.Headline.{Told}
use Rattle.tp_top.specs.Run.{report_told}
use Rattle.tp_top.specs.Runs.{StopsAt, first_refused, nothing_before}
use Rattle.tp_top.specs.Trace.{trace_told}
use Rattle.tp_ends.specs.declared.answer.Answer.{Answer}
use Rattle.tp_ends.specs.declared.answer.Answer.TheVariants as answer
use Rattle.tp_ends.specs.declared.listed.StepRefusal.{StepRefusal}
use Rattle.tp_top.specs.declared.runs.RunEnd.{RunEnd}
use Rattle.tp_top.specs.declared.runs.RunEnd.TheVariants as end
use Rattle.tp_ends.specs.Calls.{IsAtRest, IsRestedTo}
use Rattle.tp_trace.specs.Blocks.{trace_text}

-- a world that stands before the first listed step that is refused
pub record IsStoppedAt (sc : Scenario) (world : WorldView) (refused : StepRefusal) : Type 0 where
  pub first : first_refused sc ≡ Some refused
  pub before : world.machine.state.steps ≡ take refused.at sc.steps

-- how the run of a scenario ended in this world
abbrev pub HasRun : Scenario → WorldView → RunEnd → Type 0
HasRun sc world end.AtRest = IsAtRest sc sc.steps world
HasRun sc world (end.Stopped refused) = IsStoppedAt sc world refused

-- what comes of a scenario: what is told of its run, or of the steps before the first that is refused
abbrev pub IsTold : Told → (Scenario → List Step → List ℕ) → Scenario → Answer → Type 0
IsTold told before sc (answer.Text text) = IsRestedTo told sc sc.steps text.0
IsTold told before sc (answer.Refused text line) = StopsAt before sc text.0 line.0
IsTold told before sc answer.NoMemory = Unit {0}
IsTold told before sc answer.ReadFault = ⊥

-- by the report of its run
abbrev pub IsReported : Scenario → Answer → Type 0
IsReported sc answer = IsTold report_told nothing_before sc answer

-- by its trace
abbrev pub IsTraced : Scenario → Answer → Type 0
IsTraced sc answer = IsTold trace_told trace_text sc answer

-- what comes of the large scenario
abbrev pub IsCounted : ℕ → Answer → Type 0
IsCounted count (answer.Text text) =
    IsRestedTo (line_told count) (scenario_of count) (scenario_of count).steps text.0
IsCounted count (answer.Refused text line) = ⊥
IsCounted count answer.NoMemory = Unit {0}
IsCounted count answer.ReadFault = ⊥
