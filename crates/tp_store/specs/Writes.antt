-- The writes of one transaction that is not settled: at most one for each item, the last by query.
use Rattle.std.specs.Prelude.{nat_le, nat_lt, not, List, [], ◌∷◌, Bool, false, Option, Some, None, slice_get, slice_set, ℤ, if◌then◌else◌}
use Rattle.tp_model.specs.Words.{ItemId}
use Rattle.tp_model.specs.Ids.{same_item}
use Rattle.tp_model.specs.Limits.{is_between}
use Rattle.tp_store.specs.declared.writes.Bounds.{Bounds}
use Rattle.tp_store.specs.declared.writes.TentativeWrite.{TentativeWrite}

abbrev pub is_on : ItemId → TentativeWrite → Bool
is_on item write = same_item write.item item

-- ---- a write more

-- of two writes of one item, the one of the greater query; of two of one query, the new one
abbrev pub later : TentativeWrite → TentativeWrite → TentativeWrite
later kept new = if nat_le kept.query new.query then new else kept

-- the writes with one more: in the place of one that is kept of the same item, where the new one is later, and else at the end
abbrev pub with_write : List TentativeWrite → TentativeWrite → List TentativeWrite
with_write [] new = new ∷ []
with_write (kept ∷ writes) new =
    if is_on new.item kept then later kept new ∷ writes else kept ∷ with_write writes new

-- ---- ranges

abbrev pub is_outside_of : Option Bounds → ℤ → Bool
is_outside_of None value = false
is_outside_of (Some bounds) value = not (is_between bounds.min bounds.max value)

-- the value is outside the range of its item
abbrev pub is_outside : List Bounds → TentativeWrite → Bool
is_outside bounds write = is_outside_of (slice_get bounds write.item.0) write.value

-- of a write and one before it, the one of the lesser query
abbrev pub earlier : Option TentativeWrite → TentativeWrite → TentativeWrite
earlier None write = write
earlier (Some first) write = if nat_lt write.query first.query then write else first

abbrev pub first_from : Option TentativeWrite → List TentativeWrite → Option TentativeWrite
first_from first [] = first
first_from first (write ∷ writes) = first_from (Some (earlier first write)) writes

-- the write of the least query
abbrev pub first_of : List TentativeWrite → Option TentativeWrite
first_of writes = first_from None writes

-- ---- values

-- the values of all items after these writes
abbrev pub values_after : List ℤ → List TentativeWrite → List ℤ
values_after values [] = values
values_after values (write ∷ writes) =
    values_after (slice_set values write.item.0 write.value) writes
