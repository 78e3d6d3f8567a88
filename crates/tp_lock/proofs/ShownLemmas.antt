-- What slots show, call by call: each mirror of a rule on slots shows what the rule gives.
use Rattle.std.proofs.Common.{◌≡◌, ℕ, zero, suc, Bool, true, false, not, cond, ◌&&◌, ◌||◌, List, [], ◌∷◌, ◌++◌, get_or, set, map, filter, option_map, Option, Some, None, refl, ap, sym, ◌∙◌, replicate}
use Rattle.std.proofs.lemmas.List.{map-append, map-set}
use Rattle.std.specs.List.{find, list_any}
use Rattle.tp_types.specs.declared.ids.ItemId.{ItemId}
use Rattle.tp_types.specs.declared.ids.TxnId.{TxnId}
use Rattle.tp_types.specs.declared.policy.Action.{Action}
use Rattle.tp_lock.specs.declared.entry.Asked.{Asked}
use Rattle.tp_lock.specs.declared.entry.Asked.TheVariants.{Granted, Waits, Dies}
use Rattle.tp_lock.specs.declared.entry.Grant.{Grant}
use Rattle.tp_lock.specs.declared.entry.LockEntry.{LockEntry}
use Rattle.tp_lock.specs.declared.slots.Slot.{Slot}
use Rattle.tp_lock.specs.Rule as rule
use Rattle.tp_lock.specs.Table.{Table}
use Rattle.tp_lock.specs.mirrors.Slots as mirror
use Rattle.tp_lock.specs.mirrors.Slots.{entries_of, entry_of, first_in, first_of, grant_in, is_untold, shown, told_first, told_lists, untold, untold_in}

pub same_table : {lists others : List (List LockEntry)} {grants more : List Grant} → lists ≡ others → grants ≡ more
    → let table : Table = record { lists = lists; grants = grants } in table ≡ record { lists = others; grants = more }
same_table lists grants = λ i. record { lists = lists i; grants = grants i }

-- ---- a table that is opened

no_entries : (items : ℕ) → map entries_of (replicate items []) ≡ replicate items []
no_entries zero = refl
no_entries (suc items) = ap (λ lists. [] ∷ lists) (no_entries items)

no_grants : (from items : ℕ) → untold from (replicate items []) ≡ []
no_grants from zero = refl
no_grants from (suc items) = no_grants (suc from) items

pub shown_opening : (items : ℕ) → shown (replicate items []) ≡ rule.opening items
shown_opening items = same_table (no_entries items) (no_grants 0 items)

-- ---- lists of slots as lists of entries

any_of : (test : LockEntry → Bool) (slots : List Slot) → list_any test (entries_of slots) ≡ list_any (λ slot. test slot.entry) slots
any_of test [] = refl
any_of test (slot ∷ slots) = ap (λ b. test slot.entry || b) (any_of test slots)

filter_step : (slot : Slot) (kept : List Slot) (b : Bool) → cond b (slot.entry ∷ entries_of kept) (entries_of kept) ≡ entries_of (cond b (slot ∷ kept) kept)
filter_step slot kept true = refl
filter_step slot kept false = refl

filter_of : (test : LockEntry → Bool) (slots : List Slot) → filter test (entries_of slots) ≡ entries_of (filter (λ slot. test slot.entry) slots)
filter_of test [] = refl
filter_of test (slot ∷ slots) =
    ap (λ kept. cond (test slot.entry) (slot.entry ∷ kept) kept) (filter_of test slots)
    ∙ filter_step slot (filter (λ s. test s.entry) slots) (test slot.entry)

found_step : (slot : Slot) (rest : Option Slot) (b : Bool) → cond b (Some slot.entry) (option_map entry_of rest) ≡ option_map entry_of (cond b (Some slot) rest)
found_step slot rest true = refl
found_step slot rest false = refl

find_of : (test : LockEntry → Bool) (slots : List Slot) → find test (entries_of slots) ≡ option_map entry_of (find (λ slot. test slot.entry) slots)
find_of test [] = refl
find_of test (slot ∷ slots) =
    ap (λ rest. cond (test slot.entry) (Some slot.entry) rest) (find_of test slots)
    ∙ found_step slot (find (λ s. test s.entry) slots) (test slot.entry)

-- ---- a request

waits_or_dies_of : (elder : Option Slot) → rule.waits_or_dies (option_map entry_of elder) ≡ mirror.waits_or_dies elder
waits_or_dies_of None = refl
waits_or_dies_of (Some elder) = refl

answer_to_new_of : (owner : TxnId) (age : ℕ) (mode : Action) (slots : List Slot)
    → rule.answer_to_new owner age mode (entries_of slots) ≡ mirror.answer_to_new owner age mode slots
answer_to_new_of owner age mode slots =
    rw (any_of (rule.conflicts owner mode) slots, find_of (rule.is_elder owner age mode) slots)
    (ap (λ a. cond (mirror.has_conflict owner mode slots) a Granted) (waits_or_dies_of (mirror.elder_of owner age mode slots)))

pub answer_of : (owner : TxnId) (age : ℕ) (mode : Action) (slots : List Slot)
    → rule.answer owner age mode (entries_of slots) ≡ mirror.answer owner age mode slots
answer_of owner age mode slots =
    rw (any_of (rule.serves owner mode) slots) (ap (λ a. cond (mirror.is_served owner mode slots) Granted a) (answer_to_new_of owner age mode slots))

with_answer_of : (owner : TxnId) (age : ℕ) (mode : Action) (asked : Asked) (slots : List Slot)
    → rule.with_answer owner age mode asked (entries_of slots) ≡ entries_of (mirror.with_answer owner age mode asked slots)
with_answer_of owner age mode Granted slots = sym (map-append entry_of slots (mirror.slot_of owner age mode true ∷ []))
with_answer_of owner age mode Waits slots = sym (map-append entry_of slots (mirror.slot_of owner age mode false ∷ []))
with_answer_of owner age mode (Dies other) slots = refl

where_served : (slots grown : List Slot) (served : Bool) → cond served (entries_of slots) (entries_of grown) ≡ entries_of (cond served slots grown)
where_served slots grown true = refl
where_served slots grown false = refl

with_lock_of : (owner : TxnId) (age : ℕ) (mode : Action) (slots : List Slot)
    → rule.with_lock owner age mode (entries_of slots) ≡ entries_of (mirror.with_slot owner age mode slots)
with_lock_of owner age mode slots =
    rw (any_of (rule.serves owner mode) slots, answer_to_new_of owner age mode slots, with_answer_of owner age mode (mirror.answer_to_new owner age mode slots) slots)
    (where_served slots (mirror.with_answer owner age mode (mirror.answer_to_new owner age mode slots) slots) (mirror.is_served owner mode slots))

-- a slot that is told adds no grant
untold_push : (item : ℕ) (slots : List Slot) (slot : Slot) → slot.told ≡ true → untold_in item (slots ++ slot ∷ []) ≡ untold_in item slots
untold_push item [] slot told = rw told refl
untold_push item (first ∷ slots) slot told = untold_first item first (filter is_untold (slots ++ slot ∷ [])) (filter is_untold slots) first.told (untold_push item slots slot told)
  where
    untold_first : (item : ℕ) (first : Slot) (more kept : List Slot) (told : Bool) → map (grant_in item) more ≡ map (grant_in item) kept
        → map (grant_in item) (cond (not told) (first ∷ more) more) ≡ map (grant_in item) (cond (not told) (first ∷ kept) kept)
    untold_first item first more kept true e = e
    untold_first item first more kept false e = ap (λ grants. grant_in item first ∷ grants) e

untold_with_answer : (item : ℕ) (owner : TxnId) (age : ℕ) (mode : Action) (asked : Asked) (slots : List Slot)
    → untold_in item (mirror.with_answer owner age mode asked slots) ≡ untold_in item slots
untold_with_answer item owner age mode Granted slots = untold_push item slots (mirror.slot_of owner age mode true) refl
untold_with_answer item owner age mode Waits slots = untold_push item slots (mirror.slot_of owner age mode false) refl
untold_with_answer item owner age mode (Dies other) slots = refl

untold_with : (item : ℕ) (owner : TxnId) (age : ℕ) (mode : Action) (slots : List Slot) (served : Bool)
    → untold_in item (cond served slots (mirror.with_answer owner age mode (mirror.answer_to_new owner age mode slots) slots)) ≡ untold_in item slots
untold_with item owner age mode slots true = refl
untold_with item owner age mode slots false = untold_with_answer item owner age mode (mirror.answer_to_new owner age mode slots) slots

untold_after_request : (owner : TxnId) (age : ℕ) (mode : Action) (from item : ℕ) (lists : List (List Slot))
    → untold from (set lists item (mirror.with_slot owner age mode (get_or lists item []))) ≡ untold from lists
untold_after_request owner age mode from item [] = refl
untold_after_request owner age mode from zero (slots ∷ lists) = ap (λ grants. grants ++ untold (suc from) lists) (untold_with from owner age mode slots (mirror.is_served owner mode slots))
untold_after_request owner age mode from (suc item) (slots ∷ lists) = ap (λ grants. untold_in from slots ++ grants) (untold_after_request owner age mode (suc from) item lists)

pub entries_at_of : (item : ℕ) (lists : List (List Slot)) → get_or (map entries_of lists) item [] ≡ entries_of (get_or lists item [])
entries_at_of item [] = refl
entries_at_of zero (slots ∷ lists) = refl
entries_at_of (suc item) (slots ∷ lists) = entries_at_of item lists

-- what a request of an item leaves, and its answer
pub shown_after_request : (owner : TxnId) (age : ℕ) (item : ItemId) (mode : Action) (lists : List (List Slot))
    → shown (set lists item.0 (mirror.with_slot owner age mode (get_or lists item.0 []))) ≡ rule.after_request owner age item mode (shown lists)
shown_after_request owner age item mode lists =
    let slots = get_or lists item.0 [] in
    same_table
    (map-set entries_of lists item.0 (mirror.with_slot owner age mode slots)
    ∙ ap (set (map entries_of lists) item.0) (sym (with_lock_of owner age mode slots) ∙ ap (rule.with_lock owner age mode) (sym (entries_at_of item.0 lists))))
    (untold_after_request owner age mode 0 item.0 lists)

pub answer_at_of : (owner : TxnId) (age : ℕ) (item : ItemId) (mode : Action) (lists : List (List Slot))
    → rule.answer_at owner age item mode (shown lists) ≡ mirror.answer owner age mode (get_or lists item.0 [])
answer_at_of owner age item mode lists =
    ap (rule.answer owner age mode) (entries_at_of item.0 lists) ∙ answer_of owner age mode (get_or lists item.0 [])

-- the slots of an item
pub slots_there : (owner : TxnId) (age : ℕ) (item : ItemId) (mode : Action) (lists : List (List Slot)) (slots : List Slot) → slots ≡ get_or lists item.0 []
    → (mirror.answer owner age mode slots ≡ rule.answer_at owner age item mode (shown lists))
    × (shown (set lists item.0 (mirror.with_slot owner age mode slots)) ≡ rule.after_request owner age item mode (shown lists))
slots_there owner age item mode lists slots here = (
  ap (mirror.answer owner age mode) here ∙ sym (answer_at_of owner age item mode lists),
  ap (λ s. shown (set lists item.0 (mirror.with_slot owner age mode s))) here ∙ shown_after_request owner age item mode lists,
)

-- ---- a release

pub granted_of : (earlier : List Slot) (entry : LockEntry) → rule.is_granted (entries_of earlier) entry ≡ mirror.is_granted earlier entry
granted_of earlier entry = ap (λ b. not entry.held && not b) (any_of (rule.conflicts entry.owner entry.mode) earlier)

with_grant_of : (earlier : List Slot) (slot : Slot) → rule.with_grant (entries_of earlier) slot.entry ≡ entry_of (mirror.with_grant earlier slot)
with_grant_of earlier slot = ap (λ b. record slot.entry { held = slot.entry.held || b }) (granted_of earlier slot.entry)

-- the earlier entries of the next slot
earlier_of : (earlier : List Slot) (slot : Slot)
    → entries_of (earlier ++ mirror.with_grant earlier slot ∷ []) ≡ entries_of earlier ++ rule.with_grant (entries_of earlier) slot.entry ∷ []
earlier_of earlier slot =
    map-append entry_of earlier (mirror.with_grant earlier slot ∷ []) ∙ ap (λ entry. entries_of earlier ++ entry ∷ []) (sym (with_grant_of earlier slot))

with_grants_entries : (earlier slots : List Slot) → entries_of (mirror.with_grants_from earlier slots) ≡ rule.with_grants_from (entries_of earlier) (entries_of slots)
with_grants_entries earlier [] = refl
with_grants_entries earlier (slot ∷ slots) =
    ap (λ entry. entry ∷ entries_of (mirror.with_grants_from (earlier ++ mirror.with_grant earlier slot ∷ []) slots)) (sym (with_grant_of earlier slot))
    ∙ ap (λ entries. rule.with_grant (entries_of earlier) slot.entry ∷ entries)
    (with_grants_entries (earlier ++ mirror.with_grant earlier slot ∷ []) slots ∙ ap (λ before. rule.with_grants_from before (entries_of slots)) (earlier_of earlier slot))

granted_step : (item : ℕ) (slot : Slot) (kept : List Slot) (granted : Bool)
    → map (grant_in item) (cond (not (not granted)) (slot ∷ kept) kept) ≡ cond granted (grant_in item slot ∷ []) [] ++ map (grant_in item) kept
granted_step item slot kept true = refl
granted_step item slot kept false = refl

with_grants_grants : (item : ℕ) (earlier slots : List Slot) → untold_in item (mirror.with_grants_from earlier slots) ≡ rule.grants_from item (entries_of earlier) (entries_of slots)
with_grants_grants item earlier [] = refl
with_grants_grants item earlier (slot ∷ slots) =
    let next = mirror.with_grant earlier slot in
    let rest = mirror.with_grants_from (earlier ++ next ∷ []) slots in
    granted_step item next (filter is_untold rest) (mirror.is_granted earlier slot.entry)
    ∙ ap (λ b. cond b (rule.grant_of slot.entry.owner item ∷ []) [] ++ untold_in item rest) (sym (granted_of earlier slot.entry))
    ∙ ap (λ grants. cond (rule.is_granted (entries_of earlier) slot.entry) (rule.grant_of slot.entry.owner item ∷ []) [] ++ grants)
    (with_grants_grants item (earlier ++ next ∷ []) slots ∙ ap (λ before. rule.grants_from item before (entries_of slots)) (earlier_of earlier slot))

left_entries : (owner : TxnId) (lists : List (List Slot)) → map entries_of (map (mirror.left_by owner) lists) ≡ map (rule.left_by owner) (map entries_of lists)
left_entries owner [] = refl
left_entries owner (slots ∷ lists) =
    ap (λ entries. entries ∷ map entries_of (map (mirror.left_by owner) lists))
    (with_grants_entries [] (filter (mirror.is_of_other owner) slots) ∙ ap (rule.with_grants_from []) (sym (filter_of (rule.is_of_other owner) slots)))
    ∙ ap (λ others. rule.left_by owner (entries_of slots) ∷ others) (left_entries owner lists)

left_grants : (owner : TxnId) (item : ℕ) (lists : List (List Slot)) → untold item (map (mirror.left_by owner) lists) ≡ rule.grants_of owner item (map entries_of lists)
left_grants owner item [] = refl
left_grants owner item (slots ∷ lists) =
    ap (λ grants. grants ++ untold (suc item) (map (mirror.left_by owner) lists))
    (with_grants_grants item [] (filter (mirror.is_of_other owner) slots) ∙ ap (rule.grants_from item []) (sym (filter_of (rule.is_of_other owner) slots)))
    ∙ ap (λ grants. rule.grants_in owner item (entries_of slots) ++ grants) (left_grants owner (suc item) lists)

pub shown_after_release : (owner : TxnId) (lists : List (List Slot)) → shown (map (mirror.left_by owner) lists) ≡ rule.after_release owner (shown lists)
shown_after_release owner lists = same_table (left_entries owner lists) (left_grants owner 0 lists)
