-- Lines of a trace, each with a place, a kind, and what it says.
use Rattle.std.specs.Prelude.{ℕ, List, ◌++◌, codes, decimal}
use Rattle.std.specs.List.{flat_map}
use Rattle.tp_model.specs.Words.{Actor, Mail, Record, Scenario}
use Rattle.tp_report.specs.StepText.{actor_word}
use Rattle.tp_report.specs.Tokens.{Token, text_of}
use Rattle.tp_trace.specs.Bodies.{mail_text}
use Rattle.tp_trace.specs.Records.{record_text}
use Rattle.tp_trace.specs.declared.lines.Kind.{Kind}
use Rattle.tp_trace.specs.declared.lines.Kind.TheVariants as kind

pub record Line : Type 0 where
  -- the number of steps before its step
  pub place : ℕ
  pub kind : Kind
  -- what stands behind the kind, with the end of the line
  pub rest : List ℕ

abbrev pub kind_word : Kind → List ℕ
kind_word kind.Listed = codes "step"
kind_word kind.Automatic = codes "auto"
kind_word kind.Took = codes "took"
kind_word kind.Gone = codes "gone"
kind_word kind.Forced = codes "forced"
kind_word kind.Torn = codes "torn"
kind_word kind.Fact = codes "fact"
kind_word kind.Because = codes "because"
kind_word kind.Why = codes "why"
kind_word kind.Behind = codes "behind"
kind_word kind.Free = codes "free"
kind_word kind.Lock = codes "lock"
kind_word kind.Knows = codes "knows"
kind_word kind.Item = codes "item"
kind_word kind.Sent = codes "sent"
kind_word kind.Now = codes "now"

-- `P KIND `, which begins a line
unfoldable pub front_text : ℕ → Kind → List ℕ
front_text place kind = decimal place ++ codes " " ++ kind_word kind ++ codes " "

abbrev pub line_text : Line → List ℕ
line_text line = front_text line.place line.kind ++ line.rest

abbrev pub lines_text : List Line → List ℕ
lines_text lines = flat_map line_text lines

-- a line of these words
abbrev pub line_of : ℕ → Kind → List ℕ → Line
line_of place kind words = record { place = place; kind = kind; rest = words ++ codes "\n" }

-- a line that a report has, without what it begins with there
abbrev pub report_line : ℕ → Kind → List Token → Line
report_line place kind tokens =
    record { place = place; kind = kind; rest = text_of tokens }

-- ---- lines of mails and of records

-- a mail that was taken, is gone, or was sent
abbrev pub mail_line : Scenario → ℕ → Kind → Mail → Line
mail_line sc place kind mail = line_of place kind (mail_text sc mail)

-- a record that an actor's log gained, or that was torn
abbrev pub record_line : Scenario → ℕ → Kind → Actor → Record → Line
record_line sc place kind who kept =
    line_of place kind (actor_word sc who ++ codes " " ++ record_text sc kept)
