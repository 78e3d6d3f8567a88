-- What a drain knows of who is up.
use Rattle.std.specs.Prelude.{◌≡◌, Bool, true, false, None}
use Rattle.tp_model.specs.Words.{Step}
use Rattle.tp_model.specs.Words.step
use Rattle.tp_machine.specs.WorldView.{WorldView}
use Rattle.tp_auto.specs.Auto.{lowest_down}

-- an automatic step that takes nobody up: after it each actor is up or down as before
abbrev pub keeps_up : Step → Bool
keeps_up (step.Submit txn) = true
keeps_up (step.Deliver mail) = true
keeps_up (step.Timer txn) = true
keeps_up _ = false

-- where it is known, nobody is down
abbrev pub KnowsUp : Bool → WorldView → Type 0
KnowsUp known world =
    known ≡ true → lowest_down world.scenario world.machine.state.actors ≡ None
