-- The steps that a release takes at most.
use Rattle.std.specs.Prelude.{ℕ, ◌+◌, ◌*◌, List, if◌then◌else◌, length}
use Rattle.std.specs.List.{count_by, list_any, sum_by}
use Rattle.tp_types.specs.declared.ids.TxnId.{TxnId}
use Rattle.tp_lock.specs.declared.entry.LockEntry.{LockEntry}
use Rattle.tp_lock.specs.Rule.{is_of}
use Rattle.tp_lock.specs.Table.{Table}

-- how many entries the owner has in a list
abbrev pub owned : TxnId → List LockEntry → ℕ
owned owner entries = count_by (is_of owner) entries

-- how many entries stand in a list, where one of them is the owner's
abbrev pub shared : TxnId → List LockEntry → ℕ
shared owner entries = if list_any (is_of owner) entries then length entries else 0

-- three for each entry of the owner, and two for each entry in the lists of its items
abbrev pub most_steps : TxnId → Table → ℕ
most_steps owner table =
    3 * sum_by (owned owner) table.lists + 2 * sum_by (shared owner) table.lists
