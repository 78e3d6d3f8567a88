-- The headline: what was written is what is told of a trusted history, and it names no machine.
use Rattle.std.specs.Prelude.{Bool, List, false, true, ℕ, ◌*◌, ◌++◌, ◌≡◌, ◌≤◌}
use Rattle.std.specs.Io.KnownBytes.{Appends}
use Rattle.std.specs.List.{list_all}
use Rattle.tp_model.specs.Printable.{is_printable}
use Rattle.tp_model.specs.TrustedHistory.{TrustedHistory}
use Rattle.tp_model.specs.Words.step
use Rattle.tp_model.specs.Words.{Ending, Fact, Scenario, Step}
use Rattle.tp_ends.specs.Streams.{Stream}

-- a step that the automatic phase may take: a submission of a transaction, the delivery of a mail, a timer, or a boot
abbrev pub comes_by_itself : Step → Bool
comes_by_itself (step.Submit txn) = true
comes_by_itself (step.Deliver mail) = true
comes_by_itself (step.Timer txn) = true
comes_by_itself (step.Boot who) = true
comes_by_itself _ = false

-- a text that is told of a run: of its scenario, its steps, its facts and its ending
abbrev pub Told : Type 0
Told = Scenario → List Step → List Fact → Ending → List ℕ

-- exactly what is told of a trusted history of the scenario was written, whose steps are these and then such as come by
-- themselves; it has few mails, and its report can be read back
pub record TellsTrusted (told : Told) (sc : Scenario) (steps : List Step) (out : Stream) : Type 0 where
  pub later : List Step
  pub facts : List Fact
  pub ending : Ending
  pub by_themselves : list_all comes_by_itself later ≡ true
  pub trusted : TrustedHistory sc (steps ++ later) facts ending
  pub few_mails : ending.mails ≤ 128 * ending.steps
  pub printable : is_printable sc facts ending ≡ true
  pub written : Appends out.old out.new (told sc (steps ++ later) facts ending)
