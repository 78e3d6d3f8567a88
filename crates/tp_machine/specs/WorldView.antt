-- A world as its callers see it.
use Rattle.std.specs.Prelude.{◌≡◌, length, Bool, true, false, Some, None}
use Rattle.tp_model.specs.Words.{Actor, Scenario, Step}
use Rattle.tp_model.specs.Words.actor
use Rattle.tp_model.specs.Valid.{is_valid}
use Rattle.tp_machine.specs.declared.actors.Actors.{Actors}
use Rattle.tp_machine.specs.declared.history.History.{History}
use Rattle.tp_machine.specs.declared.error.StepError.{StepError}
use Rattle.tp_machine.specs.Fits.{AllFitLogs}
use Rattle.tp_machine.specs.mirrors.Acts.{HasEitherLogs, SameUp}
use Rattle.tp_pending.specs.Flags.{marked}
use Rattle.tp_types.specs.Each.{Each}
use Rattle.tp_machine.specs.Named.{IsStepOf}
use Rattle.tp_machine.specs.Machine.{State, Machine, after, machine_after, opening, refusal}

-- the state of these actors with this history
abbrev pub state_of : Actors → History → State
state_of actors history = record {
  actors = actors;
  mails = history.mails;
  facts = history.facts;
  steps = history.steps;
}

abbrev pub machine_of : Actors → History → Machine
machine_of actors history = record {
  state = state_of actors history;
  undelivered = marked 0 history.pending;
}

-- the scenario of the start, whether the world is given up, and the machine
pub record WorldView : Type 0 where
  pub scenario : Scenario
  pub given_up : Bool
  pub machine : Machine

-- the world before the first step
abbrev pub start : Scenario → WorldView
start sc = record { scenario = sc; given_up = false; machine = opening sc }

-- the machine is what the scenario and its steps give
abbrev pub IsReached : WorldView → Type 0
IsReached world =
    world.given_up ≡ false → world.machine ≡ after world.scenario world.machine.state.steps

-- its facts are those that the scenario and the steps give
abbrev pub HasItsFacts : WorldView → Type 0
HasItsFacts world =
    world.machine.state.facts ≡ (after world.scenario world.machine.state.steps).state.facts

-- there is one actor for each server, and one for each transaction
pub record HasAllActors (sc : Scenario) (actors : Actors) : Type 0 where
  pub servers : length actors.servers ≡ length sc.servers
  pub coordinators : length actors.coordinators ≡ length sc.txns

-- the actor is an office, which has no log
abbrev pub is_office : Actor → Bool
is_office actor.Authority = true
is_office actor.Master = true
is_office _ = false

-- what is so of every world: its scenario is valid, no run of it makes a record that a log does not take, its
-- actors are all there, its steps name what exists, and its facts are those that they give; and while it is not given up it is
-- reached
pub record IsWorld (world : WorldView) : Type 0 where
  pub valid : is_valid world.scenario ≡ true
  pub fit : AllFitLogs world.scenario
  pub whole : HasAllActors world.scenario world.machine.state.actors
  pub named : Each (IsStepOf world.scenario) world.machine.state.steps
  pub told : HasItsFacts world
  pub reached : IsReached world

-- the step was not refused, and was done
pub record Does (old new : WorldView) (taken : Step) : Type 0 where
  pub was_up : old.given_up ≡ false
  pub not_refused : refusal old.machine.state taken ≡ None
  pub now : new ≡ record old { machine = machine_after old.scenario old.machine taken }

-- the step was refused, and nothing changed
pub record Refuses (old new : WorldView) (taken : Step) (why : StepError) : Type 0 where
  pub was_up : old.given_up ≡ false
  pub reason : refusal old.machine.state taken ≡ Some why
  pub unchanged : new ≡ old

-- the world is given up in a step: its facts, steps and mails, which of these are undelivered, and which actors are down, stay.
-- Each actor's log is that from before the step, or that after it
pub record GivesUp (old new : WorldView) (taken : Step) : Type 0 where
  pub scenario : new.scenario ≡ old.scenario
  pub given_up : new.given_up ≡ true
  pub facts : new.machine.state.facts ≡ old.machine.state.facts
  pub steps : new.machine.state.steps ≡ old.machine.state.steps
  pub mails : new.machine.state.mails ≡ old.machine.state.mails
  pub undelivered : new.machine.undelivered ≡ old.machine.undelivered
  pub up : SameUp old.machine.state.actors new.machine.state.actors
  pub logs : HasEitherLogs old.machine.state.actors
      (machine_after old.scenario old.machine taken).state.actors
      new.machine.state.actors
