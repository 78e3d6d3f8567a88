-- What holds of every automatic phase.
use Rattle.std.specs.Prelude.{◌≡◌, ◌≤◌, List, length, true, ℕ}
use Rattle.tp_model.specs.TrustedHistory.{have_ended}
use Rattle.tp_model.specs.Valid.{is_valid}
use Rattle.tp_model.specs.Words.{Scenario, Step}
use Rattle.tp_machine.specs.Machine.{Machine, after, after_steps}
use Rattle.tp_machine.specs.Named.{IsStepOf}
use Rattle.tp_types.specs.Each.{Each}
use Rattle.tp_auto.specs.Auto.{automatic_steps, bound, is_quiet}

-- the machine after its automatic steps, of which the bound may be taken
abbrev pub at_rest : Scenario → Machine → Machine
at_rest sc m = after_steps sc m (automatic_steps sc (bound sc (length m.undelivered)) m)

-- however many automatic steps may be taken from this machine on, no more than the bound are; after them it is quiet,
-- and each transaction was submitted, decided, and settled so at each of its servers
pub record HasEnd (sc : Scenario) (m : Machine) : Type 0 where
  pub few : (count : ℕ) → length (automatic_steps sc count m) ≤ bound sc (length m.undelivered)
  pub quiet : is_quiet sc (at_rest sc m) ≡ true
  pub ended : have_ended sc (at_rest sc m).state.facts 0 sc.txns ≡ true

-- of every scenario that is run, the automatic phase has an end after every list of steps that name what exists
abbrev pub AlwaysHasEnd : Type 0
AlwaysHasEnd =
    (sc : Scenario) (steps : List Step) → is_valid sc ≡ true → Each (IsStepOf sc) steps
    → HasEnd sc (after sc steps)
