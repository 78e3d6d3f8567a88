-- One step of a walk after another, up to the first fault.
use Rattle.std.specs.Prelude.{Result, Ok, Err}
use Rattle.tp_scenario.specs.declared.fault.Fault.{Fault}

abbrev pub and_then : {A B : Type 0} → Result A Fault → (A → Result B Fault) → Result B Fault
and_then (Ok a) next = next a
and_then (Err fault) next = Err fault

infixl 10 ◌>>=◌
abbrev pub ◌>>=◌ : {A B : Type 0} → Result A Fault → (A → Result B Fault) → Result B Fault
walked >>= next = and_then walked next
