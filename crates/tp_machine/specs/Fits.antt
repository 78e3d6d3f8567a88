-- Records that a log takes.
use Rattle.std.specs.Prelude.{List, Some}
use Rattle.tp_actor_log.specs.Records.{FitsLog}
use Rattle.tp_coord.specs.State.{Coordinator}
use Rattle.tp_model.specs.Words.{Scenario, Step}
use Rattle.tp_model.specs.Words.step
use Rattle.tp_server.specs.State.{Server}
use Rattle.tp_types.specs.Each.{Each}
use Rattle.tp_machine.specs.declared.actors.Actors.{Actors}
use Rattle.tp_machine.specs.Machine.{after}
use Rattle.tp_machine.specs.Named.{IsStepOf}
use Rattle.tp_machine.specs.Parts.{Part}

-- no record on an actor's log is too long for a log
abbrev pub HasShortLog : {S : Type 0} → Part S → Type 0
HasShortLog part = Each FitsLog part.log

-- no record on an actor's log is too long
pub record FitLogs (actors : Actors) : Type 0 where
  pub servers : Each (λ (part : Part Server). HasShortLog part) actors.servers
  pub coordinators : Each (λ (part : Part Coordinator). HasShortLog part) actors.coordinators

-- the step by which a step begins: where an actor crashes in the receipt of a mail that receipt, else the step itself
abbrev pub received : Step → Step
received (step.Crash who (Some cut)) = step.Deliver cut.mail
received taken = taken

-- nor is any after a list of steps that name what exists
abbrev pub AllFitLogs : Scenario → Type 0
AllFitLogs sc = (steps : List Step) → Each (IsStepOf sc) steps → FitLogs (after sc steps).state.actors
