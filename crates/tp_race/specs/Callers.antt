-- Who works on the cluster in a race: a caller for each script, and behind them one who delivers what is left.
use Rattle.std.specs.Prelude.{◌≡◌, ◌⊎◌, ℕ, ◌+◌, List, [], ◌∷◌, ◌++◌, length, map, filter, flat_map, slice_get, not, Bool, true, false, Option, Some, None}
use Rattle.tp_model.specs.Words.step
use Rattle.tp_model.specs.Words.{Scenario, Step, TxnId}
use Rattle.tp_machine.specs.declared.error.StepError.{StepError}
use Rattle.tp_machine.specs.Machine.{refusal}
use Rattle.tp_wire.specs.declared.view.Part.{Part}
use Rattle.tp_wire.specs.declared.view.View.{View}
use Rattle.tp_wire.specs.Closing.{own}
use Rattle.tp_wire.specs.Entries.{steps_in}
use Rattle.tp_wire.specs.History.{Lawful}
use Rattle.tp_cluster.specs.Runs.{IsNext, actors_of, state_at}

-- a client submits its transactions
abbrev pub submissions : List TxnId → List Step
submissions script = map (λ (txn : TxnId). step.Submit txn) script

-- all scripts: those of clients, of publishers, and of officers
abbrev pub scripts_of : Scenario → List (List Step)
scripts_of sc = map submissions sc.clients ++ (sc.publishers ++ sc.officers)

-- how many callers there are: one for each script, and one without a script
abbrev pub callers_of : Scenario → ℕ
callers_of sc = length (scripts_of sc) + 1

abbrev pub script_or : Option (List Step) → List Step
script_or (Some script) = script
script_or None = []

-- the script of a caller, if it has one
abbrev pub script_at : Scenario → ℕ → List Step
script_at sc caller = script_or (slice_get (scripts_of sc) caller)

abbrev pub is_delivery : Step → Bool
is_delivery (step.Deliver mail) = true
is_delivery _ = false

-- what a caller's script has of these steps: all but deliveries
abbrev pub commands : List Step → List Step
commands steps = filter (λ (taken : Step). not (is_delivery taken)) steps

abbrev pub mail_of : Step → List ℕ
mail_of (step.Deliver mail) = mail ∷ []
mail_of _ = []

-- the numbers of the mails that these steps deliver
abbrev pub deliveries : List Step → List ℕ
deliveries steps = flat_map mail_of steps

-- the part of a caller's pass, which has done these commands and has delivered each mail that it took
pub record IsAt (sc : Scenario) (caller : ℕ) (done : List Step) (v : View) : Type 0 where
  pub part : Part
  pub one : v.parts ≡ part ∷ []
  pub number : part.number ≡ actors_of sc + caller
  pub commanded : commands (steps_in (own part.number part.upto)) ≡ done
  pub delivered : deliveries (steps_in (own part.number part.upto)) ≡ part.took

-- a caller has done its whole script
abbrev pub HasRun : Scenario → ℕ → View → Type 0
HasRun sc caller v = IsAt sc caller (script_at sc caller) v

-- a caller was refused a step of its script, after the history that its pass has then seen
pub record HasStopped (sc : Scenario) (caller : ℕ) (v : View) : Type 0 where
  pub done : List Step
  pub next : Step
  pub rest : List Step
  pub script : script_at sc caller ≡ done ++ next ∷ rest
  pub at : IsAt sc caller done v
  pub why : StepError
  pub lawful : Lawful (IsNext sc) v.seen
  pub refused : refusal (state_at sc v.seen) next ≡ Some why

abbrev pub HasEnded : Scenario → ℕ → View → Type 0
HasEnded sc caller v = HasRun sc caller v ⊎ HasStopped sc caller v

-- so it is of callers one after another, from this one on
abbrev pub AllFrom : (ℕ → View → Type 0) → ℕ → List View → Type 0
AllFrom Is caller [] = Unit {0}
AllFrom Is caller (v ∷ views) = Is caller v × AllFrom Is (caller + 1) views

-- all callers
pub record AreAll (Is : ℕ → View → Type 0) (callers : ℕ) (views : List View) : Type 0 where
  pub count : length views ≡ callers
  pub each : AllFrom Is 0 views
