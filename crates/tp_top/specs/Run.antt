-- The command `run` tells the report of a run.
use Rattle.tp_model.specs.Words.{Scenario}
use Rattle.tp_report.specs.ReportText.{report_text}
use Rattle.tp_ends.specs.Headline.{TellsTrusted, Told}
use Rattle.tp_ends.specs.Input.{IsRead}
use Rattle.tp_ends.specs.Streams.{Stream}

abbrev pub report_told : Told
report_told sc steps facts ending = report_text sc facts ending

-- the input was read whole as a scenario, and exactly the report of a trusted history of it was written
pub record PrintsTrusted (input out : Stream) : Type 0 where
  pub scenario : Scenario
  pub read : IsRead input scenario
  pub tells : TellsTrusted report_told scenario scenario.steps out
