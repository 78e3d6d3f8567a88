-- What holds of every run of a replicated master.
use Rattle.std.specs.Prelude.{◌≤◌, List}
use Rattle.tp_quorum.specs.Automatic.{HasEnd}
use Rattle.tp_quorum.specs.Machine.{IsStepOf, after}
use Rattle.tp_quorum.specs.OneMaster.{OneMaster}
use Rattle.tp_quorum.specs.Words.{QStep, Sizes}
use Rattle.tp_types.specs.Each.{Each}

-- after every list of steps that name what exists, the facts are those of one master
abbrev pub IsAlwaysOneMaster : Type 0
IsAlwaysOneMaster =
    (sizes : Sizes) (steps : List QStep) → 1 ≤ sizes.replicas → Each (IsStepOf sizes) steps
    → OneMaster (after sizes steps).state.facts

-- after every list of steps that name what exists, the automatic phase has an end
abbrev pub AlwaysHasEnd : Type 0
AlwaysHasEnd =
    (sizes : Sizes) (steps : List QStep) → 1 ≤ sizes.replicas → Each (IsStepOf sizes) steps
    → HasEnd (after sizes steps)
