-- The grant that is taken, and how far all are taken.
use Rattle.std.proofs.Common.{◌≡◌, ℕ, zero, suc, Bool, true, false, not, cond, List, [], ◌∷◌, ◌++◌, get_or, drop, set, map, filter, option_map, Some, None, refl, ap, sym, ◌∙◌, append-nil, add-one, arith, length, take, ◌<◌, ◌≤◌, ◌+◌, ◌⊎◌, inl, inr, slice_get, is_some}
use Rattle.std.proofs.lemmas.List.{drop_all, drop_more, set_split, take_all}
use Rattle.std.specs.List.{find, list_all}
use Rattle.std.proofs.lemmas.Bool.{and_parts, not-true}
use Rattle.tp_types.specs.declared.ids.TxnId.{TxnId}
use Rattle.tp_types.specs.declared.policy.Action.{Action}
use Rattle.tp_lock.specs.declared.entry.Asked.{Asked}
use Rattle.tp_lock.specs.declared.entry.Asked.TheVariants.{Granted, Waits, Dies}
use Rattle.tp_lock.specs.declared.slots.Slot.{Slot}
use Rattle.tp_lock.specs.Rule as rule
use Rattle.tp_lock.specs.mirrors.Slots as mirror
use Rattle.tp_lock.specs.mirrors.Slots.{are_told, entries_of, first_in, first_of, is_untold, shown, told_first, told_lists, untold, with_slot}
use Rattle.tp_lock.proofs.ShownLemmas.{same_table}

-- ---- a grant that is taken

-- the first slot that is not told, with what is not told after it
record HasUntold (slots : List Slot) : Type 0 where
  first : Slot
  others : List Slot
  found : find is_untold slots ≡ Some first
  kept : filter is_untold slots ≡ first ∷ others
  left : filter is_untold (told_first slots) ≡ others

-- all slots are told
record HasNoUntold (slots : List Slot) : Type 0 where
  found : find is_untold slots ≡ None
  kept : filter is_untold slots ≡ []
  left : told_first slots ≡ slots

told_on : (slot : Slot) (slots : List Slot) → slot.told ≡ true → told_first (slot ∷ slots) ≡ slot ∷ told_first slots
told_on slot slots told = ap (λ b. cond b (slot ∷ told_first slots) (record slot { told = true } ∷ slots)) told

untold_on : (slot : Slot) (slots : List Slot) → slot.told ≡ true → filter is_untold (slot ∷ slots) ≡ filter is_untold slots
untold_on slot slots told = rw told refl

untold_step : (slot : Slot) (slots : List Slot) (told : Bool) → slot.told ≡ told → HasUntold slots ⊎ HasNoUntold slots
    → HasUntold (slot ∷ slots) ⊎ HasNoUntold (slot ∷ slots)
untold_step slot slots true told (inl has) =
    inl (record {
      first = has.first;
      others = has.others;
      found = rw told has.found;
      kept = rw told has.kept;
      left = ap (filter is_untold) (told_on slot slots told) ∙ untold_on slot (told_first slots) told ∙ has.left;
    })
untold_step slot slots true told (inr none) =
    inr (record { found = rw told none.found; kept = rw told none.kept; left = told_on slot slots told ∙ ap (λ s. slot ∷ s) none.left })
untold_step slot slots false told either =
    inl (record { first = slot; others = filter is_untold slots; found = rw told refl; kept = rw told refl; left = rw told refl })

untold_cases : (slots : List Slot) → HasUntold slots ⊎ HasNoUntold slots
untold_cases [] = inr (record { found = refl; kept = refl; left = refl })
untold_cases (slot ∷ slots) = untold_step slot slots slot.told refl (untold_cases slots)

-- where nothing is found nothing is told
pub told_none : (slots : List Slot) → option_map mirror.owner_of (find is_untold slots) ≡ None → told_first slots ≡ slots
told_none slots nothing = elim (untold_cases slots) [
  | inl has ↦ let some : option_map mirror.owner_of (find is_untold slots) ≡ Some has.first.entry.owner = ap (option_map mirror.owner_of) has.found in cc
  | inr none ↦ none.left
]

first_shown : (item : ℕ) (lists : List (List Slot)) → slice_get (untold item lists) 0 ≡ first_of item lists
first_shown item [] = refl
first_shown item (slots ∷ lists) = elim (untold_cases slots) [
  | inl has ↦ rw (has.kept, has.found) refl
  | inr none ↦ rw (none.kept, none.found) (first_shown (suc item) lists)
]

told_grants : (item : ℕ) (lists : List (List Slot)) → untold item (told_lists lists) ≡ drop 1 (untold item lists)
told_grants item [] = refl
told_grants item (slots ∷ lists) = elim (untold_cases slots) [
  | inl has ↦ rw (has.found, has.kept, has.left) refl
  | inr none ↦ rw (none.found, none.kept) (told_grants (suc item) lists)
]

first_told : (slot : Slot) (slots : List Slot) (told : Bool) → entries_of (told_first slots) ≡ entries_of slots
    → entries_of (cond told (slot ∷ told_first slots) (record slot { told = true } ∷ slots)) ≡ entries_of (slot ∷ slots)
first_told slot slots true e = ap (λ entries. slot.entry ∷ entries) e
first_told slot slots false e = refl

told_first_entries : (slots : List Slot) → entries_of (told_first slots) ≡ entries_of slots
told_first_entries [] = refl
told_first_entries (slot ∷ slots) = first_told slot slots slot.told (told_first_entries slots)

told_step : (slots : List Slot) (lists : List (List Slot)) (found : Bool) → map entries_of (told_lists lists) ≡ map entries_of lists
    → map entries_of (cond found (told_first slots ∷ lists) (slots ∷ told_lists lists)) ≡ entries_of slots ∷ map entries_of lists
told_step slots lists true e = ap (λ entries. entries ∷ map entries_of lists) (told_first_entries slots)
told_step slots lists false e = ap (λ others. entries_of slots ∷ others) e

told_entries : (lists : List (List Slot)) → map entries_of (told_lists lists) ≡ map entries_of lists
told_entries [] = refl
told_entries (slots ∷ lists) = told_step slots lists (is_some (find is_untold slots)) (told_entries lists)

shown_told : (lists : List (List Slot)) → shown (told_lists lists) ≡ rule.without_grant (shown lists)
shown_told lists = same_table (told_entries lists) (told_grants 0 lists)

shown_first : (lists : List (List Slot)) → rule.first_grant (shown lists) ≡ first_of 0 lists
shown_first lists = first_shown 0 lists

-- what is found from a place on is all that is found
record ArePassed (lists : List (List Slot)) (at : ℕ) : Type 0 where
  first : first_of at (drop at lists) ≡ first_of 0 lists
  told : take at lists ++ told_lists (drop at lists) ≡ told_lists lists

first_after : (from at sum : ℕ) (lists : List (List Slot)) → from + at ≡ sum → list_all are_told (take at lists) ≡ true → first_of sum (drop at lists) ≡ first_of from lists
first_after from zero sum lists e told = let same : sum ≡ from = omega arith in ap (λ n. first_of n lists) same
first_after from (suc at) sum [] e told = refl
first_after from (suc at) sum (slots ∷ lists) e told =
    let parts = and_parts (are_told slots) (list_all are_told (take at lists)) told in
    let none : is_some (find is_untold slots) ≡ false = not-true (is_some (find is_untold slots)) parts.0 in
    first_after (suc from) at sum lists (omega arith) parts.1 ∙ sym (ap (λ b. cond b (first_in from slots) (first_of (suc from) lists)) none)

lists_after : (at : ℕ) (lists : List (List Slot)) → list_all are_told (take at lists) ≡ true → take at lists ++ told_lists (drop at lists) ≡ told_lists lists
lists_after zero lists told = refl
lists_after (suc at) [] told = refl
lists_after (suc at) (slots ∷ lists) told =
    let parts = and_parts (are_told slots) (list_all are_told (take at lists)) told in
    let none : is_some (find is_untold slots) ≡ false = not-true (is_some (find is_untold slots)) parts.0 in
    ap (λ s. slots ∷ s) (lists_after at lists parts.1) ∙ sym (ap (λ b. cond b (told_first slots ∷ lists) (slots ∷ told_lists lists)) none)

are_passed : (lists : List (List Slot)) (at : ℕ) → list_all are_told (take at lists) ≡ true → ArePassed lists at
are_passed lists at told = record { first = first_after 0 at at lists (omega arith) told; told = lists_after at lists told }

-- and all are told
pub none_found : (slots : List Slot) → option_map mirror.owner_of (find is_untold slots) ≡ None → are_told slots ≡ true
none_found slots nothing = elim (untold_cases slots) [
  | inl has ↦ let some : option_map mirror.owner_of (find is_untold slots) ≡ Some has.first.entry.owner = ap (option_map mirror.owner_of) has.found in cc
  | inr none ↦ ap (λ o. not (is_some o)) none.found
]

-- the list at this place has the first grant, which is taken
pub here_passed : (lists : List (List Slot)) (at : ℕ) (slots : List Slot) (owner : TxnId) → at < length lists → slots ≡ get_or lists at slots
    → option_map mirror.owner_of (find is_untold slots) ≡ Some owner → list_all are_told (take at lists) ≡ true
    → (Some (rule.grant_of owner at) ≡ rule.first_grant (shown lists)) × (shown (set lists at (told_first slots)) ≡ rule.without_grant (shown lists))
here_passed lists at slots owner lt here some before =
    let passed = are_passed lists at before in
    let rest : drop at lists ≡ slots ∷ drop (at + 1) lists = drop_more lists at slots lt ∙ ap (λ s. s ∷ drop (at + 1) lists) (sym here) in
    elim (untold_cases slots) [
      | inl has ↦
          let other : option_map mirror.owner_of (find is_untold slots) ≡ Some has.first.entry.owner = ap (option_map mirror.owner_of) has.found in
          let same : owner ≡ has.first.entry.owner = cc in
          let first : first_of at (slots ∷ drop (at + 1) lists) ≡ Some (rule.grant_of has.first.entry.owner at) = rw has.found refl in
          let told : told_lists (slots ∷ drop (at + 1) lists) ≡ told_first slots ∷ drop (at + 1) lists = rw has.found refl in
          let split : set lists at (told_first slots) ≡ take at lists ++ told_first slots ∷ drop (at + 1) lists = rw add-one (set_split lists at (told_first slots) lt) in (
            ap (λ o. Some (rule.grant_of o at)) same ∙ sym first ∙ ap (first_of at) (sym rest) ∙ passed.first ∙ sym (shown_first lists),
            ap shown (split ∙ ap (λ s. take at lists ++ s) (sym told ∙ ap told_lists (sym rest)) ∙ passed.told) ∙ shown_told lists,
          )
      | inr none ↦ let nothing : option_map mirror.owner_of (find is_untold slots) ≡ None = ap (option_map mirror.owner_of) none.found in cc
    ]

-- no list has a grant
pub all_passed : (lists : List (List Slot)) (at : ℕ) → length lists ≤ at → list_all are_told (take at lists) ≡ true
    → (None ≡ rule.first_grant (shown lists)) × (shown lists ≡ rule.without_grant (shown lists))
all_passed lists at over before =
    let passed = are_passed lists at before in
    let past : drop at lists ≡ [] = drop_all at lists over in
    let front : take at lists ≡ lists = take_all at lists over in
    let same : told_lists lists ≡ lists = sym passed.told ∙ rw (past, front) (append-nil lists) in
    (sym (ap (first_of at) past) ∙ passed.first ∙ sym (shown_first lists), ap shown (sym same) ∙ shown_told lists)

-- ---- a request

told_push : (slots : List Slot) (slot : Slot) → slot.told ≡ true → find is_untold (slots ++ slot ∷ []) ≡ find is_untold slots
told_push [] slot told = ap (λ b. cond (not b) (Some slot) None) told
told_push (first ∷ slots) slot told = ap (λ rest. cond (not first.told) (Some first) rest) (told_push slots slot told)

told_with_answer : (owner : TxnId) (age : ℕ) (mode : Action) (asked : Asked) (slots : List Slot) → are_told (mirror.with_answer owner age mode asked slots) ≡ are_told slots
told_with_answer owner age mode Granted slots = ap (λ o. not (is_some o)) (told_push slots (mirror.slot_of owner age mode true) refl)
told_with_answer owner age mode Waits slots = ap (λ o. not (is_some o)) (told_push slots (mirror.slot_of owner age mode false) refl)
told_with_answer owner age mode (Dies other) slots = refl

told_with : (owner : TxnId) (age : ℕ) (mode : Action) (asked : Asked) (slots : List Slot) (served : Bool)
    → are_told (cond served slots (mirror.with_answer owner age mode asked slots)) ≡ are_told slots
told_with owner age mode asked slots true = refl
told_with owner age mode asked slots false = told_with_answer owner age mode asked slots

-- a request adds no grant
pub told_with_slot : (owner : TxnId) (age : ℕ) (mode : Action) (slots : List Slot) → are_told (with_slot owner age mode slots) ≡ are_told slots
told_with_slot owner age mode slots = told_with owner age mode (mirror.answer_to_new owner age mode slots) slots (mirror.is_served owner mode slots)
