-- What stands below a decision and is not in a report: why an abort came, and which versions a commit was behind.
use Rattle.std.specs.Prelude.{List, ◌++◌, map}
use Rattle.tp_model.specs.Words.{Fact, Scenario}
use Rattle.tp_trace.specs.Lines.{Line, line_of}
use Rattle.tp_trace.specs.declared.lines.Kind.TheVariants as kind
use Rattle.tp_why.specs.Behind.{behind_lines}
use Rattle.tp_why.specs.Why as why

-- of a fact, by the facts up to it; below most facts nothing stands
abbrev pub why_lines : Scenario → List Fact → Fact → List Line
why_lines sc facts fact =
    map (line_of fact.place kind.Why) (why.why_lines sc facts fact)
    ++ map (line_of fact.place kind.Behind) (behind_lines sc facts fact)
