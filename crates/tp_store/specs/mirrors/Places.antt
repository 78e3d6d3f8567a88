-- A write that is kept at a place, as the code puts it there, and a table of which only the first places were made.
use Rattle.std.specs.Prelude.{ℕ, ◌-◌, ◌++◌, List, [], Option, Some, None, length, replicate, slice_set}
use Rattle.tp_store.specs.declared.writes.TentativeWrite.{TentativeWrite}
use Rattle.tp_store.specs.Writes.{later}

-- the writes with one more, where this one is kept at the place
abbrev pub renewed : List TentativeWrite → ℕ → Option TentativeWrite → TentativeWrite
    → List TentativeWrite
renewed writes at None new = writes
renewed writes at (Some kept) new = slice_set writes at (later kept new)

-- the places that were made, and no write at the others
abbrev pub padded : List (List TentativeWrite) → ℕ → List (List TentativeWrite)
padded made count = made ++ replicate (count - length made) []
