-- The command `trace` tells all steps of a run, and how it has ended.
use Rattle.std.specs.Prelude.{◌≡◌, ◌++◌, codes}
use Rattle.std.specs.List.{flat_map}
use Rattle.tp_model.specs.Words.{Scenario}
use Rattle.tp_report.specs.ReportText.{report_text}
use Rattle.tp_ends.specs.Headline.{TellsTrusted, Told}
use Rattle.tp_ends.specs.Input.{IsRead}
use Rattle.tp_ends.specs.Streams.{Stream}
use Rattle.tp_trace.specs.Blocks.{ending_text, trace_lines, trace_text}
use Rattle.tp_trace.specs.Laws.{told_of}

abbrev pub trace_told : Told
trace_told sc steps facts ending = trace_text sc steps ++ ending_text sc ending

-- the input was read whole as a scenario, and exactly the trace of a trusted history of it was written; its report is
-- what the lines of the trace say of facts, between the head of a report and its last lines
pub record TracesTrusted (input out : Stream) : Type 0 where
  pub scenario : Scenario
  pub read : IsRead input scenario
  pub tells : TellsTrusted trace_told scenario scenario.steps out
  pub reports : report_text scenario tells.facts tells.ending
      ≡ codes "tpvc 1\n" ++ flat_map told_of (trace_lines scenario (scenario.steps ++ tells.later))
      ++ ending_text scenario tells.ending
