-- Lists that are visited by their numbers, and what a table keeps.
use Rattle.std.specs.Prelude.{ℕ, ◌≡◌, drop, List, [], ◌∷◌, true, false, slice_index_or, slice_set, Bool}
use Rattle.std.specs.List.{list_any}
use Rattle.tp_types.specs.declared.ids.TxnId.{TxnId}
use Rattle.tp_lock.specs.declared.slots.Slot.{Slot}
use Rattle.tp_lock.specs.Order.{AreOrderly}
use Rattle.tp_lock.specs.Rule as rule
use Rattle.tp_lock.specs.Table.{Table}
use Rattle.tp_lock.specs.mirrors.Owned.{IsRising, is_among, items_of}
use Rattle.tp_lock.specs.mirrors.Slots.{are_told, shown}

abbrev pub slots_at : ℕ → List (List Slot) → List Slot
slots_at item lists = slice_index_or lists item []

-- the lists after a change of that of one item
abbrev pub at_item : (List Slot → List Slot) → ℕ → List (List Slot) → List (List Slot)
at_item change item lists = slice_set lists item (change (slots_at item lists))

-- and of those of several
abbrev pub at_each : (List Slot → List Slot) → List ℕ → List (List Slot) → List (List Slot)
at_each change [] lists = lists
at_each change (item ∷ items) lists = at_each change items (at_item change item lists)

-- the owner has an entry on the item
abbrev pub stands_at : TxnId → ℕ → Table → Bool
stands_at owner item table = list_any (rule.is_of owner) (slice_index_or table.lists item [])

-- what holds between the lists, the items of each owner, and those that the last release touched with the place of the next
pub record AreKept (lists : List (List Slot)) (owned : List (List ℕ)) (touched : List ℕ) (next : ℕ)
    : Type 0 where
  pub order : AreOrderly (shown lists)
  -- an owner has no entry on an item that is not its own
  pub noted : (owner : TxnId) (item : ℕ) → is_among item (items_of owner.0 owned) ≡ false
      → stands_at owner item (shown lists) ≡ false
  pub rising : (owner : ℕ) → IsRising (items_of owner owned)
  pub in_order : IsRising touched
  -- grants that nobody took are in lists that are yet to be asked
  pub told : (item : ℕ) → is_among item (drop next touched) ≡ false
      → are_told (slots_at item lists) ≡ true
