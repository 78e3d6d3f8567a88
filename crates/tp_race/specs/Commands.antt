-- What a caller of a race does with its pass, step by step.
use Rattle.std.specs.Prelude.{◌≡◌, ℕ, ◌+◌, ◌<◌, List, [], ◌∷◌, ◌++◌, false}
use Rattle.atomic_table.specs.Seated.{TableId}
use Rattle.tp_machine.specs.Named.{IsAdmin, IsCred, IsServer, IsTxn}
use Rattle.tp_model.specs.Words.step
use Rattle.tp_model.specs.Words.{Scenario, Step}
use Rattle.tp_wire.specs.declared.view.Part.{Part}
use Rattle.tp_wire.specs.declared.view.View.{View}
use Rattle.tp_wire.specs.Closing.{own}
use Rattle.tp_wire.specs.Entries.{sent_in, steps_in}
use Rattle.tp_wire.specs.Passes.{Known}
use Rattle.tp_cluster.specs.Calls.{IsCaller}
use Rattle.tp_cluster.specs.Runs.{actors_of}
use Rattle.tp_race.specs.Callers.{HasEnded, IsAt, commands, deliveries}

-- a step that a script may have, of which all that it names exists
abbrev pub IsCommand : Scenario → Step → Type 0
IsCommand sc (step.Submit txn) = IsTxn sc txn
IsCommand sc (step.Publish admin) = IsAdmin sc admin
IsCommand sc (step.Push admin server) = IsAdmin sc admin × IsServer sc server
IsCommand sc (step.Revoke cred) = IsCred sc cred
IsCommand sc (step.Tick by) = Unit {0}
IsCommand sc _ = ⊥

-- the pass is of this table, and a caller's where it is not given up
pub record IsOfCaller (sc : Scenario) (table : TableId) (p : Known) : Type 0 where
  pub site : p.table ≡ table
  pub caller : p.given_up ≡ false → IsCaller sc p.view

-- The pass was not given up. Whatever commands a caller had done with it: it has then done these and no others, and has
-- delivered each mail that it took
pub record StaysAt (sc : Scenario) (old new : Known) : Type 0 where
  pub was_live : old.given_up ≡ false
  pub at : (caller : ℕ) (done : List Step) → IsAt sc caller done old.view → IsAt sc caller done new.view

-- the part of a caller's pass, which has done these commands, and has delivered each mail that it took but for this last
-- one, which was sent in what the pass has seen
pub record HasTaken (sc : Scenario) (caller : ℕ) (done : List Step) (mail : ℕ) (v : View) : Type 0 where
  pub part : Part
  pub one : v.parts ≡ part ∷ []
  pub number : part.number ≡ actors_of sc + caller
  pub commanded : commands (steps_in (own part.number part.upto)) ≡ done
  pub undelivered : deliveries (steps_in (own part.number part.upto)) ++ mail ∷ [] ≡ part.took
  pub sent : mail < sent_in v.seen

-- a caller has ended with the pass, which is of this table. Of a pass that was given up nothing else is said
pub record HasWorked (sc : Scenario) (table : TableId) (caller : ℕ) (p : Known) : Type 0 where
  pub site : p.table ≡ table
  pub ended : p.given_up ≡ false → HasEnded sc caller p.view
