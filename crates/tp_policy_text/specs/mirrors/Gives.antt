-- What the program's readers give: a reading, unless memory was refused.
use Rattle.std.specs.Prelude.{◌≡◌, ℕ, List, Result, Ok, Err}
use Rattle.tp_policy_text.specs.declared.halt.Halt.{Halt}
use Rattle.tp_policy_text.specs.declared.halt.Halt.TheVariants as halt
use Rattle.tp_policy_text.specs.mirrors.Readings.{Reading, read, stopped}

abbrev pub Gives : {A : Type 0} → Result A Halt → List ℕ → Reading A → Type 0
Gives (Ok a) left reading = reading ≡ read a left
Gives (Err halt.NoMemory) left reading = Unit {0}
Gives (Err (halt.Stopped why)) left reading = reading ≡ stopped why left
