-- What the lists of a table keep.
use Rattle.std.specs.Prelude.{◌≡◌, ℕ, ◌==◌, ◌++◌, ◌&&◌, ◌||◌, not, nat_lt, List, [], ◌∷◌, Bool, true, false}
use Rattle.std.specs.List.{list_all, All, AllPairs}
use Rattle.tp_types.specs.declared.ids.TxnId.{TxnId}
use Rattle.tp_types.specs.declared.policy.Action.{Action}
use Rattle.tp_lock.specs.declared.entry.LockEntry.{LockEntry}
use Rattle.tp_lock.specs.Rule.{conflicts, is_clear}
use Rattle.tp_lock.specs.Table.{Table}

-- the entry has a greater age; of two equal ages the greater number counts as greater
abbrev pub is_younger : TxnId → ℕ → LockEntry → Bool
is_younger owner age entry =
    nat_lt age entry.age || (entry.age == age && nat_lt owner.0 entry.owner.0)

-- the entry has a greater age, if it conflicts
abbrev pub lets_wait : TxnId → ℕ → Action → LockEntry → Bool
lets_wait owner age mode entry = not (conflicts owner mode entry) || is_younger owner age entry

abbrev pub all_let_wait : TxnId → ℕ → Action → List LockEntry → Bool
all_let_wait owner age mode entries = list_all (lets_wait owner age mode) entries

-- each entry is as told of it and of those that stand before it
abbrev pub EachAfter : (List LockEntry → LockEntry → Type 0) → List LockEntry → List LockEntry
    → Type 0
EachAfter Told earlier [] = Unit {0}
EachAfter Told earlier (entry ∷ entries) =
    Told earlier entry × EachAfter Told (earlier ++ entry ∷ []) entries

-- the entry is held exactly where it is clear of what stands before it
abbrev pub IsRight : List LockEntry → LockEntry → Type 0
IsRight earlier entry = entry.held ≡ is_clear earlier entry

-- the entry is held, or waits for younger owners only
abbrev pub WaitsForYounger : List LockEntry → LockEntry → Type 0
WaitsForYounger earlier entry =
    entry.held ≡ false → all_let_wait entry.owner entry.age entry.mode earlier ≡ true

pub record IsOrderly (entries : List LockEntry) : Type 0 where
  pub right : EachAfter IsRight [] entries
  pub younger : EachAfter WaitsForYounger [] entries

-- the list of each item is orderly
abbrev pub AreOrderly : Table → Type 0
AreOrderly table = All IsOrderly table.lists

-- of two entries that are held no two conflict
abbrev pub HeldDoNotConflict : List LockEntry → Type 0
HeldDoNotConflict entries =
    AllPairs
    (λ one other.
    one.held ≡ true → other.held ≡ true → conflicts other.owner other.mode one ≡ false)
    entries
