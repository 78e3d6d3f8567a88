-- Which records have a spelling, and which bytes begin with one.
use Rattle.std.specs.Prelude.{◌≡◌, ℕ, ◌^◌, ◌<◌, List, ◌++◌, length}
use Rattle.tp_types.specs.declared.records.Record.{Record}
use Rattle.tp_record.specs.Ranges.{IsInRange}
use Rattle.tp_record.specs.Spelling.{content}

-- the length of the content fits its four bytes
abbrev pub IsRecord : Record → Type 0
IsRecord r = IsInRange r × (length (content r) < 2 ^ 32)

-- the bytes begin with these
abbrev pub Begins : List ℕ → List ℕ → Type 0
Begins bytes front = (rest : List ℕ) × (bytes ≡ front ++ rest)
