-- The lines of a fact: as a report has them, with the place before each, and below them what a report does not say.
use Rattle.std.specs.Prelude.{ℕ, ◌+◌, List, [], ◌∷◌, ◌++◌, map}
use Rattle.std.specs.List.{flat_map}
use Rattle.tp_model.specs.Words.{CommitRecord, Deed, Fact, Instance, Scenario, Verdict, What}
use Rattle.tp_model.specs.Words.decision
use Rattle.tp_model.specs.Words.what
use Rattle.tp_report.specs.ReportText.{deed_line, instance_line, proof_line, what_line}
use Rattle.tp_trace.specs.Lines.{Line, report_line}
use Rattle.tp_trace.specs.Why.{why_lines}
use Rattle.tp_trace.specs.declared.lines.Kind.TheVariants as kind

abbrev pub proof_because : Scenario → ℕ → Verdict → Line
proof_because sc place proof = report_line place kind.Because (proof_line sc proof)

abbrev pub deed_because : Scenario → ℕ → Deed → Line
deed_because sc place deed = report_line place kind.Because (deed_line sc deed)

-- an instance by its number, and its proofs
abbrev pub instance_because : Scenario → ℕ → ℕ → Instance → List Line
instance_because sc place number made =
    report_line place kind.Because (instance_line number made.reading)
    ∷ map (proof_because sc place) made.proofs

abbrev pub instances_because : Scenario → ℕ → ℕ → List Instance → List Line
instances_because sc place number [] = []
instances_because sc place number (first ∷ others) =
    instance_because sc place number first ++ instances_because sc place (number + 1) others

-- what a commit rests on
abbrev pub commit_because : Scenario → ℕ → CommitRecord → List Line
commit_because sc place held =
    instances_because sc place 1 held.instances ++ map (deed_because sc place) held.deeds

abbrev pub because_lines : Scenario → ℕ → What → List Line
because_lines sc place (what.Decided txn (decision.Commit held)) = commit_because sc place held
because_lines sc place _ = []

-- the lines of one fact, by all facts so far
abbrev pub told_lines : Scenario → List Fact → Fact → List Line
told_lines sc facts fact =
    report_line fact.place kind.Fact (what_line sc fact.what)
    ∷ (because_lines sc fact.place fact.what ++ why_lines sc facts fact)

-- the lines of several facts
abbrev pub all_told : Scenario → List Fact → List Fact → List Line
all_told sc facts news = flat_map (told_lines sc facts) news
