-- A history that is a run of a scenario's machine.
use Rattle.std.specs.Prelude.{◌≡◌, ℕ, ◌+◌, ◌≤◌, List, [], ◌∷◌, length, Some, None}
use Rattle.tp_model.specs.Words.{Actor, Scenario}
use Rattle.tp_machine.specs.Machine.{State, after, refusal}
use Rattle.tp_machine.specs.Moves.{move_of, moved_by, number_of}
use Rattle.tp_machine.specs.Named.{IsStepOf}
use Rattle.tp_wire.specs.declared.view.Entry.{Entry}
use Rattle.tp_wire.specs.Entries.{facts_in, mails_in, steps_in}

-- how many actors a scenario has: its servers, its coordinators, the authority and the master
abbrev pub actors_of : Scenario → ℕ
actors_of sc = length sc.servers + length sc.txns + 2

-- the machine's state after the steps of a history
abbrev pub state_at : Scenario → List Entry → State
state_at sc log = (after sc (steps_in log)).state

-- The entry may follow these: its step names what exists and is not refused in the state that they leave, and it says what
-- happens in this step there and what is sent. It stands in the part of the caller who did it, whose number is no actor's,
-- and in that of the actor whom it moves
pub record IsNext (sc : Scenario) (before : List Entry) (e : Entry) : Type 0 where
  pub who : Actor
  pub caller : ℕ
  pub named : IsStepOf sc e.step
  pub allowed : refusal (state_at sc before) e.step ≡ None
  pub mover : moved_by (state_at sc before).mails e.step ≡ Some who
  pub happened : e.happened ≡ (move_of sc (state_at sc before) e.step).happened
  pub letters : e.letters ≡ (move_of sc (state_at sc before) e.step).letters
  pub called : actors_of sc ≤ caller
  pub numbers : e.numbers ≡ caller ∷ number_of sc who ∷ []

-- a history is a run: the machine after its steps has done these, and has sent its mails and made its facts
pub record IsRunOf (sc : Scenario) (log : List Entry) : Type 0 where
  pub steps : (state_at sc log).steps ≡ steps_in log
  pub mails : (state_at sc log).mails ≡ mails_in log
  pub facts : (state_at sc log).facts ≡ facts_in log
