-- What the program's readers give: what reading gives, unless memory was refused.
use Rattle.std.specs.Prelude.{◌≡◌, List, ℕ, Some, None, Result, Ok, Err}
use Rattle.tp_record.specs.declared.bytes.Halt.{Halt}
use Rattle.tp_record.specs.declared.bytes.Halt.TheVariants as halt
use Rattle.tp_record.specs.mirrors.Readings.{Read}

abbrev pub Gives : {A : Type 0} → Result A Halt → List ℕ → Read A → Type 0
Gives (Ok a) rest read = read ≡ Some (a, rest)
Gives (Err halt.NoRecord) rest read = read ≡ None
Gives (Err halt.NoMemory) rest read = Unit {0}
