-- What the helpers of the end of a race promise to one another.
use Rattle.std.specs.Prelude.{List, ℕ}
use Rattle.tp_ends.specs.Calls.{IsAfter, IsRestedTo}
use Rattle.tp_machine.specs.Named.{IsStepOf}
use Rattle.tp_machine.specs.WorldView.{WorldView}
use Rattle.tp_model.specs.Words.{Step}
use Rattle.tp_types.specs.Each.{Each}
use Rattle.tp_race.specs.Texts.{race_told}

-- whatever steps the world is after, it came to rest after them, and the text is what is told of that
abbrev pub TellsRest : WorldView → List ℕ → Type 0
TellsRest world text =
    (steps : List Step) → Each (IsStepOf world.scenario) steps → IsAfter steps world
    → IsRestedTo race_told world.scenario steps text
