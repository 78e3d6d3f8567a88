-- The listed steps: which of them is refused first, and what is done where none is.
use Rattle.std.specs.Prelude.{ℕ, ◌+◌, List, [], ◌∷◌, Option, Some, None}
use Rattle.tp_model.specs.Words.{Scenario, Step}
use Rattle.tp_machine.specs.declared.error.StepError.{StepError}
use Rattle.tp_machine.specs.Machine.{Machine, machine_after, refusal}
use Rattle.tp_ends.specs.declared.listed.StepRefusal.{StepRefusal}

abbrev pub refused_or : Option StepError → ℕ → Option StepRefusal → Option StepRefusal
refused_or (Some why) at later = Some (record { at = at; why = why })
refused_or None at later = later

-- of these steps, done one after another, the first that the machine refuses; the first of them has this number
abbrev pub refused_from : Scenario → Machine → ℕ → List Step → Option StepRefusal
refused_from sc m at [] = None
refused_from sc m at (taken ∷ steps) =
    refused_or (refusal m.state taken) at
    (refused_from sc (machine_after sc m taken) (at + 1) steps)
