-- The book behind its lock.
use Rattle.std.specs.Prelude.{◌≡◌, ℕ, List, length}
use Rattle.tp_types.specs.declared.fact.Fact.{Fact}
use Rattle.tp_types.specs.declared.mail.Mail.{Mail}
use Rattle.tp_types.specs.declared.scenario.Step.{Step}
use Rattle.tp_wire.specs.declared.view.View.{View}
use Rattle.tp_wire.specs.Entries.{steps_in, facts_in, mails_in}
use Rattle.tp_wire.specs.Rule.{keeper}

-- the lists say what the history of the seat says, and so many mails are taken
pub record IsLocked (v : View) (steps : List Step) (facts : List Fact) (mails : List Mail) (next : ℕ) : Type 0 where
  pub view_is : v ≡ keeper v.log v.takers
  pub steps_are : steps ≡ steps_in v.log
  pub facts_are : facts ≡ facts_in v.log
  pub mails_are : mails ≡ mails_in v.log
  pub next_is : next ≡ length v.takers
