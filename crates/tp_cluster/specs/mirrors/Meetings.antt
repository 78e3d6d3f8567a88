-- A caller's pass with an actor's under its lock: what both know, and what becomes of them.
use Rattle.std.specs.Prelude.{◌≡◌, ℕ, ◌≤◌, List, [], ◌∷◌, length, Option, Some, None, false, if◌then◌else◌}
use Rattle.std.specs.Option.{option_or}
use Rattle.atomic_table.specs.Seated.{TableId}
use Rattle.tp_coord.specs.State.{Coordinator}
use Rattle.tp_model.specs.Words.actor
use Rattle.tp_model.specs.Words.{Actor, Letter, Scenario, Step, TxnId, What}
use Rattle.tp_machine.specs.declared.error.StepError.{StepError}
use Rattle.tp_machine.specs.declared.error.StepError.TheVariants as error
use Rattle.tp_machine.specs.Parts as parts
use Rattle.tp_machine.specs.declared.part.Act.{Act}
use Rattle.tp_machine.specs.Machine.{State, is_part_down, is_part_submitted, placed_part, refusal}
use Rattle.tp_machine.specs.Moves.{move_of, moved_by, number_of}
use Rattle.tp_machine.specs.Named.{IsActor, IsStepOf}
use Rattle.tp_types.specs.Each.{Each}
use Rattle.tp_wire.specs.declared.view.Entry.{Entry}
use Rattle.tp_wire.specs.declared.view.Part.{Part}
use Rattle.tp_wire.specs.declared.view.View.{View}
use Rattle.tp_wire.specs.Calls.{IsPosted, KeepsParts, SeesAll}
use Rattle.tp_wire.specs.History.{StartsWith, Lawful, IsPart, numbers_of, times_below}
use Rattle.tp_wire.specs.Passes.{Known, MayPost, entry_by, part_alone, without_part}
use Rattle.tp_cluster.specs.Offices.{Held, held_at}
use Rattle.tp_cluster.specs.Offices.Held.{OfCoordinator}
use Rattle.tp_cluster.specs.Runs.{IsNext, actors_of, state_at}

-- a history that goes on from what a pass knows, and keeps the law
pub record Follows (sc : Scenario) (v : View) (log : List Entry) : Type 0 where
  pub begins : StartsWith log v.seen
  pub parts : Each (IsPart log) v.parts
  pub lawful : Lawful (IsNext sc) log

-- A pass that has taken in an actor's, and has looked: it has two parts, and the actor's state is what was kept with it
pub record IsMet (sc : Scenario) (table : TableId) (who : Actor) (held : Held) (v : View) (met : Known) : Type 0 where
  pub site : met.table ≡ table
  pub live : met.given_up ≡ false
  pub own : Part
  pub one : v.parts ≡ own ∷ []
  pub called : actors_of sc ≤ own.number
  pub office : Part
  pub parts : met.view.parts ≡ own ∷ office ∷ []
  pub number_is : office.number ≡ number_of sc who
  pub exists : IsActor sc who
  pub took : office.took ≡ []
  pub begins : StartsWith met.view.seen v.seen
  pub told : v.told ≤ met.view.told
  pub cleared : v.cleared ≤ met.view.cleared
  pub follows : Follows sc met.view met.view.seen
  pub state : held_at (state_at sc office.upto).actors who ≡ Some held

-- a step that may be done in a state, what happens in it and what is sent, and what its actor then has
pub record IsActed (sc : Scenario) (w : State) (taken : Step) (who : Actor) (new : Held) (happened : List What) (letters : List Letter) : Type 0 where
  pub named : IsStepOf sc taken
  pub allowed : refusal w taken ≡ None
  pub mover : moved_by w.mails taken ≡ Some who
  pub happened_is : happened ≡ (move_of sc w taken).happened
  pub letters_are : letters ≡ (move_of sc w taken).letters
  pub new_is : held_at (move_of sc w taken).actors who ≡ Some new

-- wherever it takes place: what its actor then has may hang on the place alone
abbrev pub MayAct : Scenario → View → Step → Actor → (ℕ → Held) → List What → List Letter → Type 0
MayAct sc v taken who new happened letters =
    (log : List Entry) → Follows sc v log → IsActed sc (state_at sc log) taken who (new (length log)) happened letters

-- a pass may post this step with what happened in it
pub record CanPost (sc : Scenario) (table : TableId) (met : Known) (taken : Step) (act : Act) : Type 0 where
  pub site : met.table ≡ table
  pub live : met.given_up ≡ false
  pub actor : times_below (actors_of sc) (numbers_of met.view.parts) ≡ 1
  pub law : MayPost (IsNext sc) met.view (entry_by met.view taken act.happened act.letters)

-- the pass has posted it, and given the part of a number back
pub record HasPosted (sc : Scenario) (met : Known) (number : ℕ) (taken : Step) (act : Act) (place : ℕ) (left kept : Known) : Type 0 where
  pub view : View
  pub posted : IsPosted (IsNext sc) (actors_of sc) met.view (entry_by met.view taken act.happened act.letters) place view
  pub left_is : left ≡ record { table = met.table; view = without_part number view; given_up = false }
  pub kept_is : kept ≡ record { table = met.table; view = part_alone number view; given_up = false }

-- the pass has seen the whole history, and given the part of a number back
pub record HasTurned (sc : Scenario) (met : Known) (number : ℕ) (left kept : Known) : Type 0 where
  pub view : View
  pub all : SeesAll (IsNext sc) (actors_of sc) met.view view
  pub same : KeepsParts met.view view
  pub left_is : left ≡ record { table = met.table; view = without_part number view; given_up = false }
  pub kept_is : kept ≡ record { table = met.table; view = part_alone number view; given_up = false }

-- the actor of a pass that has taken it in has acted, and now has this
pub record CanFinish (sc : Scenario) (table : TableId) (who : Actor) (new : Held) (met : Known) (taken : Step) (act : Act) : Type 0 where
  pub held : Held
  pub view : View
  pub met_is : IsMet sc table who held view met
  pub may : MayAct sc met.view taken who (λ _. new) act.happened act.letters

-- why a transaction's timer does not fire, if it does not
abbrev pub untimed : parts.Part Coordinator → TxnId → Option StepError
untimed part txn =
    option_or (if is_part_submitted part.up then None else Some (error.NotSubmitted txn))
    (if is_part_down part then Some (error.IsDown (actor.Coordinator txn)) else None)

-- the coordinator of a pass that has taken it in has begun, and now is this but for its age, which is the place
pub record CanPlace (sc : Scenario) (table : TableId) (who : Actor) (mid : parts.Part Coordinator) (met : Known) (taken : Step) (act : Act) : Type 0 where
  pub held : Held
  pub view : View
  pub met_is : IsMet sc table who held view met
  pub may : MayAct sc met.view taken who (λ place. OfCoordinator (placed_part place mid)) act.happened act.letters
