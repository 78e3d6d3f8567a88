-- The law of a trace: the report of a run is in it.
use Rattle.std.specs.Prelude.{◌≡◌, ℕ, List, [], ◌++◌, codes, decimal}
use Rattle.std.specs.List.{flat_map}
use Rattle.tp_machine.specs.Machine.{after, ending_of}
use Rattle.tp_model.specs.Words.{Scenario, Step}
use Rattle.tp_report.specs.ReportText.{report_text}
use Rattle.tp_trace.specs.Blocks.{ending_text, trace_lines}
use Rattle.tp_trace.specs.Lines.{Line}
use Rattle.tp_trace.specs.declared.lines.Kind.{Kind}
use Rattle.tp_trace.specs.declared.lines.Kind.TheVariants as kind

abbrev pub told_by : Kind → Line → List ℕ
told_by kind.Fact line = decimal line.place ++ codes " " ++ line.rest
told_by kind.Because line = codes "  " ++ line.rest
told_by _ line = []

-- what a report has of a line: a fact behind its place, and behind two spaces what stands below one; nothing of another line
abbrev pub told_of : Line → List ℕ
told_of line = told_by line.kind line

-- the head of a report, what it has of the lines of a trace, and the last lines, which both have, are the report
abbrev pub TracesTellReports : Type 0
TracesTellReports =
    (sc : Scenario) (steps : List Step)
    → report_text sc (after sc steps).state.facts (ending_of sc (after sc steps).state)
    ≡ codes "tpvc 1\n" ++ flat_map told_of (trace_lines sc steps)
    ++ ending_text sc (ending_of sc (after sc steps).state)
