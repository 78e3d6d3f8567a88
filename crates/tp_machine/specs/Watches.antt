-- What who looks on sees and hears of a step.
use Rattle.std.specs.Prelude.{◌≡◌, Option, Some, None, false}
use Rattle.tp_model.specs.Words.{Record, Step}
use Rattle.tp_machine.specs.Machine.{refusal}
use Rattle.tp_machine.specs.Named.{IsStepOf}
use Rattle.tp_machine.specs.Moves.{logged}
use Rattle.tp_machine.specs.WorldView.{Does, WorldView}

-- it heard of a record, if there is one, and of nothing else
abbrev pub Heard : {W : Type 0} → (W → Record → W → Type 0) → W → Option Record → W → Type 0
Heard hears old None new = new ≡ old
Heard hears old (Some forced) new = hears old forced new

-- the step can be done in this world
pub record IsSeen (world : WorldView) (taken : Step) : Type 0 where
  pub named : IsStepOf world.scenario taken
  pub up : world.given_up ≡ false
  pub allowed : refusal world.machine.state taken ≡ None

-- it saw a world before the step, heard since what the step has its actor force, and this is the world after the step
pub record IsSeenAfter {W : Type 0} (awaits : W → WorldView → Step → Type 0) (hears : W → Record → W → Type 0)
    (now : W) (world : WorldView) (taken : Step) : Type 0 where
  pub before : W
  pub old : WorldView
  pub awaited : awaits before old taken
  pub heard : Heard hears before (logged old.scenario old.machine.state taken) now
  pub did : Does old world taken
