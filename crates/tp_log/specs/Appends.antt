-- How long a record may be, and what is left of its append where a crash comes in its midst.
use Rattle.std.specs.Prelude.{◌||◌, ◌&&◌, ◌==◌, nat_le, ℕ, List, [], ◌∷◌, ◌++◌, Bool, if◌then◌else◌}
use Rattle.tp_types.specs.declared.records.Record.{Record}

-- the most bytes of a body, 1 MiB
abbrev pub body_max : ℕ
body_max = 1048576

-- of an append so many calls passed before the crash, and what was unsynced then reads fill: the record is kept where all
-- four passed, or three did and its gate, which was not synced, reads 1
abbrev pub is_kept : ℕ → ℕ → Bool
is_kept calls fill = nat_le 4 calls || (calls == 3 && fill == 1)

abbrev pub kept_after : ℕ → ℕ → List Record → Record → List Record
kept_after calls fill records r = if is_kept calls fill then records ++ r ∷ [] else records
