-- Slots: entries with a flag that is false for a grant that nobody took.
use Rattle.std.specs.Prelude.{ℕ, suc, ◌++◌, ◌&&◌, ◌||◌, not, List, [], ◌∷◌, Bool, true, false, if◌then◌else◌, map, filter, Option, Some, None, option_map, is_some}
use Rattle.std.specs.List.{find, list_any}
use Rattle.tp_types.specs.declared.ids.TxnId.{TxnId}
use Rattle.tp_types.specs.declared.policy.Action.{Action}
use Rattle.tp_lock.specs.declared.entry.Asked.{Asked}
use Rattle.tp_lock.specs.declared.entry.Asked.TheVariants.{Granted, Waits, Dies}
use Rattle.tp_lock.specs.declared.entry.Grant.{Grant}
use Rattle.tp_lock.specs.declared.entry.LockEntry.{LockEntry}
use Rattle.tp_lock.specs.declared.slots.Slot.{Slot}
use Rattle.tp_lock.specs.Rule as rule
use Rattle.tp_lock.specs.Table.{Table}

-- ---- what slots show

abbrev pub entry_of : Slot → LockEntry
entry_of slot = slot.entry

abbrev pub entries_of : List Slot → List LockEntry
entries_of slots = map entry_of slots

abbrev pub is_untold : Slot → Bool
is_untold slot = not slot.told

abbrev pub grant_in : ℕ → Slot → Grant
grant_in item slot = rule.grant_of slot.entry.owner item

abbrev pub untold_in : ℕ → List Slot → List Grant
untold_in item slots = map (grant_in item) (filter is_untold slots)

-- the grants that nobody took in the lists of the items from this one on
abbrev pub untold : ℕ → List (List Slot) → List Grant
untold item [] = []
untold item (slots ∷ lists) = untold_in item slots ++ untold (suc item) lists

abbrev pub are_told : List Slot → Bool
are_told slots = not (is_some (find is_untold slots))

abbrev pub shown : List (List Slot) → Table
shown lists = record { lists = map entries_of lists; grants = untold 0 lists }

-- ---- a request

abbrev pub is_served : TxnId → Action → List Slot → Bool
is_served owner mode slots = list_any (λ slot. rule.serves owner mode slot.entry) slots

abbrev pub has_conflict : TxnId → Action → List Slot → Bool
has_conflict owner mode slots = list_any (λ slot. rule.conflicts owner mode slot.entry) slots

abbrev pub elder_of : TxnId → ℕ → Action → List Slot → Option Slot
elder_of owner age mode slots = find (λ slot. rule.is_elder owner age mode slot.entry) slots

abbrev pub waits_or_dies : Option Slot → Asked
waits_or_dies None = Waits
waits_or_dies (Some elder) = Dies elder.entry.owner

abbrev pub answer_to_new : TxnId → ℕ → Action → List Slot → Asked
answer_to_new owner age mode slots =
    if has_conflict owner mode slots then waits_or_dies (elder_of owner age mode slots) else Granted

abbrev pub answer : TxnId → ℕ → Action → List Slot → Asked
answer owner age mode slots =
    if is_served owner mode slots then Granted else answer_to_new owner age mode slots

abbrev pub slot_of : TxnId → ℕ → Action → Bool → Slot
slot_of owner age mode held = record { entry = rule.lock_of owner age mode held; told = true }

abbrev pub with_answer : TxnId → ℕ → Action → Asked → List Slot → List Slot
with_answer owner age mode Granted slots = slots ++ slot_of owner age mode true ∷ []
with_answer owner age mode Waits slots = slots ++ slot_of owner age mode false ∷ []
with_answer owner age mode (Dies other) slots = slots

abbrev pub with_slot : TxnId → ℕ → Action → List Slot → List Slot
with_slot owner age mode slots =
    if is_served owner mode slots then slots
    else with_answer owner age mode (answer_to_new owner age mode slots) slots

-- ---- a release

abbrev pub is_granted : List Slot → LockEntry → Bool
is_granted earlier entry = not entry.held && not (has_conflict entry.owner entry.mode earlier)

abbrev pub with_grant : List Slot → Slot → Slot
with_grant earlier slot = record {
  entry = record slot.entry { held = slot.entry.held || is_granted earlier slot.entry };
  told = not (is_granted earlier slot.entry);
}

abbrev pub with_grants_from : List Slot → List Slot → List Slot
with_grants_from earlier [] = []
with_grants_from earlier (slot ∷ slots) =
    with_grant earlier slot ∷ with_grants_from (earlier ++ with_grant earlier slot ∷ []) slots

abbrev pub is_of_other : TxnId → Slot → Bool
is_of_other owner slot = rule.is_of_other owner slot.entry

abbrev pub left_by : TxnId → List Slot → List Slot
left_by owner slots = with_grants_from [] (filter (is_of_other owner) slots)

-- ---- grants that are forgotten

abbrev pub as_told : Slot → Slot
as_told slot = record slot { told = true }

abbrev pub all_told : List Slot → List Slot
all_told slots = map as_told slots

-- ---- a grant that is taken

abbrev pub owner_of : Slot → TxnId
owner_of slot = slot.entry.owner

abbrev pub untold_of : Slot → Option Slot
untold_of slot = if slot.told then None else Some slot

abbrev pub told_first : List Slot → List Slot
told_first [] = []
told_first (slot ∷ slots) =
    if slot.told then slot ∷ told_first slots else record slot { told = true } ∷ slots

-- the first that is not told, in the first list that has one
abbrev pub told_lists : List (List Slot) → List (List Slot)
told_lists [] = []
told_lists (slots ∷ lists) =
    if is_some (find is_untold slots) then told_first slots ∷ lists else slots ∷ told_lists lists

abbrev pub first_in : ℕ → List Slot → Option Grant
first_in item slots = option_map (grant_in item) (find is_untold slots)

-- the first grant that nobody took in the lists of the items from this one on
abbrev pub first_of : ℕ → List (List Slot) → Option Grant
first_of item [] = None
first_of item (slots ∷ lists) =
    if is_some (find is_untold slots) then first_in item slots else first_of (suc item) lists
