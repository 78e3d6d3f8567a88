-- What the code of one actor's act promises: it did what the machine says.
use Rattle.std.specs.Prelude.{◌≡◌, Some}
use Rattle.tp_machine.specs.declared.part.Act.{Act}
use Rattle.tp_machine.specs.Machine.{PartMove}
use Rattle.tp_machine.specs.Parts.{Part}

-- an actor acted so
pub record Acts {S : Type 0} (move : PartMove S) (part : Part S) (act : Act) : Type 0 where
  pub part_is : part ≡ move.part
  pub happened_is : act.happened ≡ move.happened
  pub letters_are : act.letters ≡ move.letters

-- an actor made this move but for its state, which comes last
pub record Boots {S : Type 0} (move : PartMove S) (part : Part S) (state : S) (act : Act)
    : Type 0 where
  pub part_is : record part { up = Some state } ≡ move.part
  pub happened_is : act.happened ≡ move.happened
  pub letters_are : act.letters ≡ move.letters
