-- What the text of a report tells.
use Rattle.std.specs.Prelude.{◌≡◌, List, true, false}
use Rattle.tp_model.specs.Words.{Ending, Fact, Scenario}
use Rattle.tp_model.specs.Valid.{is_valid}
use Rattle.tp_model.specs.SpelledNames.{is_spelled}
use Rattle.tp_model.specs.Printable.{has_cred_none, is_printable}
use Rattle.tp_report.specs.ReportText.{report_text}

-- two histories with one text
pub record IsTold (sc : Scenario) (facts others : List Fact) (ending last : Ending) : Type 0 where
  pub printable : is_printable sc facts ending ≡ true
  pub other_printable : is_printable sc others last ≡ true
  pub one_text : report_text sc facts ending ≡ report_text sc others last

-- they are one, where the names of a valid scenario are spelled as names and no credential is called `none`
abbrev pub TellsOneHistory : Type 0
TellsOneHistory =
    (sc : Scenario) → is_valid sc ≡ true → is_spelled sc ≡ true → has_cred_none sc ≡ false
    → (facts others : List Fact) (ending last : Ending) → IsTold sc facts others ending last
    → (facts ≡ others) × (ending ≡ last)
