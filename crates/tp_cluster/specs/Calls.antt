-- What the calls of a cluster tell.
use Rattle.std.specs.Prelude.{◌≡◌, ℕ, ◌+◌, ◌≤◌, List, [], ◌∷◌, ◌++◌, length, map, Some, Result, Ok, Err, true, false}
use Rattle.atomic_table.specs.Seated.{TableId}
use Rattle.tp_model.specs.Valid.{is_valid}
use Rattle.tp_model.specs.Words.{Scenario, Step}
use Rattle.tp_machine.specs.declared.error.StepError.{StepError}
use Rattle.tp_machine.specs.Fits.{AllFitLogs}
use Rattle.tp_machine.specs.Machine.{after, refusal}
use Rattle.tp_machine.specs.WorldView.{WorldView}
use Rattle.tp_wire.specs.declared.book.Book.{Book}
use Rattle.tp_wire.specs.declared.view.Entry.{Entry}
use Rattle.tp_wire.specs.declared.view.Part.{Part}
use Rattle.tp_wire.specs.declared.view.View.{View}
use Rattle.tp_types.specs.Each.{Each}
use Rattle.tp_wire.specs.Closing.{HasParts, IsClosed, parts_of}
use Rattle.tp_wire.specs.History.{StartsWith, IsPart, Lawful, numbers_of}
use Rattle.tp_wire.specs.Passes.{Known, moved}
use Rattle.tp_cluster.specs.declared.error.ClusterError.{ClusterError}
use Rattle.tp_cluster.specs.declared.error.ClusterError.TheVariants as error
use Rattle.tp_cluster.specs.declared.plan.Plan.{Plan}
use Rattle.tp_cluster.specs.Runs.{IsNext, actors_of, state_at}

-- a caller's pass has one part, whose number is no actor's
pub record IsCaller (sc : Scenario) (v : View) : Type 0 where
  pub part : Part
  pub one : v.parts ≡ part ∷ []
  pub number : actors_of sc ≤ part.number

-- The step was done at this place, behind all that the pass had seen and been told; what the pass has then seen is a run and
-- ends with the step, which is the next one of the caller's part: of the entries before it, none that the part did not have
-- names the caller. It is named with the caller's number and one actor's
pub record IsOwn (sc : Scenario) (v : View) (taken : Step) (place : ℕ) (w : View) : Type 0 where
  pub before : List Entry
  pub entry : Entry
  pub step : entry.step ≡ taken
  pub place_is : place ≡ length before
  pub seen : w.seen ≡ before ++ entry ∷ []
  pub lawful : Lawful (IsNext sc) w.seen
  pub begins : StartsWith before v.seen
  pub told : v.told ≤ place
  pub current : Each (IsPart before) v.parts
  pub actor : ℕ
  pub numbers : entry.numbers ≡ numbers_of v.parts ++ actor ∷ []
  pub parts : w.parts ≡ map (moved w.seen) v.parts
  pub cleared : v.cleared ≤ w.cleared

-- The step is refused for this reason after the history that the pass has then seen, which is a run, begins with what it had seen and is
-- no shorter than it had been told
pub record IsRefused (sc : Scenario) (v : View) (taken : Step) (why : StepError) (w : View) : Type 0 where
  pub reason : refusal (state_at sc w.seen) taken ≡ Some why
  pub lawful : Lawful (IsNext sc) w.seen
  pub begins : StartsWith w.seen v.seen
  pub told : v.told ≤ length w.seen
  pub parts : w.parts ≡ v.parts
  pub cleared : v.cleared ≤ w.cleared

-- a pass with which a caller may do a step: it is of this cluster, is not given up, and has the caller's part
pub record IsReady (sc : Scenario) (table : TableId) (p : Known) : Type 0 where
  pub site : p.table ≡ table
  pub live : p.given_up ≡ false
  pub caller : IsCaller sc p.view

-- the step was done, and its pass was not given up and is not
pub record IsDone (sc : Scenario) (old : Known) (taken : Step) (place : ℕ) (new : Known) : Type 0 where
  pub was_live : old.given_up ≡ false
  pub live : new.given_up ≡ false
  pub own : IsOwn sc old.view taken place new.view
  pub caller : IsCaller sc new.view

-- the step was refused, and its pass was not given up and is not
pub record IsTurned (sc : Scenario) (old : Known) (taken : Step) (why : StepError) (new : Known) : Type 0 where
  pub was_live : old.given_up ≡ false
  pub live : new.given_up ≡ false
  pub refused : IsRefused sc old.view taken why new.view
  pub caller : IsCaller sc new.view

-- what a call answers of its step: the step's own place, or why it is refused, or that memory was refused
abbrev pub IsAnswer : Scenario → Known → Step → Result ℕ ClusterError → Known → Type 0
IsAnswer sc old taken (Ok place) new = IsDone sc old taken place new
IsAnswer sc old taken (Err (error.Refused why)) new = IsTurned sc old taken why new
IsAnswer sc old taken (Err error.NoMemory) new = Unit {0}

-- what a cluster can be opened for: its scenario is valid, no run of it makes a record that a log does not take, and it has 1 to 100
-- callers
pub record IsPlan (plan : Plan) : Type 0 where
  pub valid : is_valid plan.scenario ≡ true
  pub fit : AllFitLogs plan.scenario
  pub some : 1 ≤ plan.callers
  pub few : plan.callers ≤ 100

-- The world is that of the book's steps: nothing is compared. The wire's closing tells of the book beside these passes and
-- beside those of the actors: the part of each actor is among the latter, and they took no mail
pub record IsClosedWorld (plan : Plan) (views : List View) (world : WorldView) : Type 0 where
  pub book : Book
  pub offices : List View
  pub scenario : world.scenario ≡ plan.scenario
  pub live : world.given_up ≡ false
  pub machine : world.machine ≡ after plan.scenario book.steps
  pub closed : IsClosed (IsNext plan.scenario) (actors_of plan.scenario) (actors_of plan.scenario + plan.callers) (views ++ offices) book
  pub held : HasParts (actors_of plan.scenario) (parts_of offices)
  pub untaken : Each (λ (p : Part). p.took ≡ []) (parts_of offices)
