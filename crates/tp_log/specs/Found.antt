-- The records of an image as a function of it, for those who keep a log among other things and show it as its list of records.
use Rattle.std.specs.Prelude.{ℕ, zero, suc, ◌==◌, List, [], ◌∷◌, length, Some, None, if◌then◌else◌}
use Rattle.tp_types.specs.declared.records.Record.{Record}
use Rattle.tp_record.specs.mirrors.Readings.{Read, body_at}

-- the record that was read, and those behind it
abbrev pub found_next : (List ℕ → List Record) → Read Record → List Record
found_next others None = []
found_next others (Some r) = r.0 ∷ others r.1

-- in so many turns, of which each finds a record
abbrev pub found_from : ℕ → List ℕ → List Record
found_from zero bytes = []
found_from (suc turns) [] = []
found_from (suc turns) (gate ∷ behind) =
    if gate == 1 then found_next (λ bytes. found_from turns bytes) (body_at behind) else []

abbrev pub records_in : List ℕ → List Record
records_in image = found_from (length image) image
