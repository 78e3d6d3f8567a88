-- Lists that are visited by their numbers: a change of those of some items is a change of all, where it leaves the others as they are.
use Rattle.std.proofs.Common.{◌≡◌, ◌≢◌, ◌==◌, ℕ, suc, Bool, true, false, not, ◌||◌, cond, List, [], ◌∷◌, ◌++◌, length, map, filter, Some, refl, ap, sym, ◌∙◌, arith, inl, inr, length-set, is_some}
use Rattle.std.proofs.Math.Bool.{or-false}
use Rattle.std.proofs.lemmas.Bool.{cases_Bool, cases_eq, cases_lt, eq-eqb, ne_eqb, or_parts}
use Rattle.std.proofs.lemmas.List.{ext_get_or, get_or-map, get_or-set_other, get_or-set_same, get_or_past, length-map, map-append, set_past}
use Rattle.std.specs.List.{find, list_any}
use Rattle.tp_types.specs.declared.ids.TxnId.{TxnId}
use Rattle.tp_lock.specs.declared.slots.Slot.{Slot}
use Rattle.tp_lock.specs.Order.{EachAfter, IsOrderly, IsRight}
use Rattle.tp_lock.specs.Rule as rule
use Rattle.tp_lock.specs.mirrors.Kept.{at_each, at_item, slots_at}
use Rattle.tp_lock.specs.mirrors.Owned.{IsRising, IsRisingFrom, is_among}
use Rattle.tp_lock.specs.mirrors.Slots as mirror
use Rattle.tp_lock.specs.mirrors.Slots.{all_told, are_told, entries_of, entry_of, is_untold, left_by}
use Rattle.tp_lock.proofs.OwnedLemmas.{none_below}
use Rattle.tp_lock.proofs.ReleaseLaws.{not_granted}
use Rattle.tp_lock.proofs.ShownLemmas.{granted_of}

-- ---- lists that are visited

-- a change that leaves an empty list empty
abbrev pub KeepsNone : (List Slot → List Slot) → Type 0
KeepsNone change = change [] ≡ []

pub item_here : (change : List Slot → List Slot) (item : ℕ) (lists : List (List Slot)) → KeepsNone change
    → slots_at item (at_item change item lists) ≡ change (slots_at item lists)
item_here change item lists none = elim (cases_lt item (length lists)) [
  | inl lt ↦ get_or-set_same lists item (change (slots_at item lists)) [] lt
  | inr past ↦
      let empty : slots_at item lists ≡ [] = get_or_past lists item [] past in
      let same : at_item change item lists ≡ lists = set_past lists item (change (slots_at item lists)) past in
      ap (slots_at item) same ∙ empty ∙ sym none ∙ ap change (sym empty)
]

pub item_elsewhere : (change : List Slot → List Slot) (item other : ℕ) (lists : List (List Slot)) → other ≢ item
    → slots_at other (at_item change item lists) ≡ slots_at other lists
item_elsewhere change item other lists apart = get_or-set_other lists item other (change (slots_at item lists)) [] apart

pub length_each : (change : List Slot → List Slot) (items : List ℕ) (lists : List (List Slot)) → length (at_each change items lists) ≡ length lists
length_each change [] lists = refl
length_each change (item ∷ items) lists = length_each change items (at_item change item lists) ∙ length-set lists item (change (slots_at item lists))

-- no list changes but those of the items
pub each_elsewhere : (change : List Slot → List Slot) (items : List ℕ) (other : ℕ) (lists : List (List Slot)) → is_among other items ≡ false
    → slots_at other (at_each change items lists) ≡ slots_at other lists
each_elsewhere change [] other lists none = refl
each_elsewhere change (item ∷ items) other lists none =
    let parts = or_parts (item == other) (is_among other items) none in
    let apart : other ≢ item = λ same. let equal = eq-eqb item other (sym same) in cc in
    each_elsewhere change items other (at_item change item lists) parts.1 ∙ item_elsewhere change item other lists apart

-- and of each of these it is done once
pub each_there : (change : List Slot → List Slot) (low : ℕ) (items : List ℕ) (other : ℕ) (lists : List (List Slot)) → KeepsNone change → IsRisingFrom low items
    → is_among other items ≡ true → slots_at other (at_each change items lists) ≡ change (slots_at other lists)
each_there change low [] other lists none rising some = absurd (cc)
each_there change low (item ∷ items) other lists none rising some = elim (cases_eq other item) [
  | inl same ↦
      let later : is_among other items ≡ false = rw same (none_below (suc item) item items (omega arith) rising.1) in
      each_elsewhere change items other (at_item change item lists) later ∙ rw same (item_here change item lists none)
  | inr apart ↦
      let not_it : (item == other) ≡ false = ne_eqb item other (λ same. apart (sym same)) in
      let later : is_among other items ≡ true = ap (λ b. b || is_among other items) (sym not_it) ∙ some in
      each_there change (suc item) items other (at_item change item lists) none rising.1 later ∙ ap change (item_elsewhere change item other lists apart)
]

pub mapped_at : (change : List Slot → List Slot) (item : ℕ) (lists : List (List Slot)) → KeepsNone change
    → slots_at item (map change lists) ≡ change (slots_at item lists)
mapped_at change item lists none = elim (cases_lt item (length lists)) [
  | inl lt ↦ get_or-map change lists item [] [] lt
  | inr past ↦
      let long : length (map change lists) ≡ length lists = length-map lists change in
      get_or_past (map change lists) item [] (omega (arith, long)) ∙ sym none ∙ ap change (sym (get_or_past lists item [] past))
]

-- so it is done of all, where it leaves the others as they are
pub each_is_all : (change : List Slot → List Slot) (items : List ℕ) (lists : List (List Slot)) → KeepsNone change → IsRising items
    → ((other : ℕ) → is_among other items ≡ false → change (slots_at other lists) ≡ slots_at other lists) → at_each change items lists ≡ map change lists
each_is_all change items lists none rising others =
    ext_get_or [] (at_each change items lists) (map change lists) (length_each change items lists ∙ sym (length-map lists change))
    (λ other lt. elim (cases_Bool (is_among other items)) [
      | inl some ↦ each_there change 0 items other lists none rising some ∙ sym (mapped_at change other lists none)
      | inr nowhere ↦ each_elsewhere change items other lists nowhere ∙ sym (others other nowhere) ∙ sym (mapped_at change other lists none)
    ])

-- ---- slots that are told

told_parts : (slot : Slot) (slots : List Slot) (told : Bool) → slot.told ≡ told → are_told (slot ∷ slots) ≡ true → (told ≡ true) × (are_told slots ≡ true)
told_parts slot slots true e all = (refl, ap (λ b. not (is_some (cond (not b) (Some slot) (find is_untold slots)))) (sym e) ∙ all)
told_parts slot slots false e all =
    let some : are_told (slot ∷ slots) ≡ false = ap (λ b. not (is_some (cond (not b) (Some slot) (find is_untold slots)))) e in
    (cc, cc)

pub told_both : (slot : Slot) (slots : List Slot) → are_told (slot ∷ slots) ≡ true → (slot.told ≡ true) × (are_told slots ≡ true)
told_both slot slots all = told_parts slot slots slot.told refl all

-- who are told stay
pub all_told_stay : (slots : List Slot) → are_told slots ≡ true → all_told slots ≡ slots
all_told_stay [] all = refl
all_told_stay (slot ∷ slots) all =
    let parts = told_both slot slots all in
    ap (λ t. let first : Slot = record slot { told = t } in first ∷ all_told slots) (sym parts.0) ∙ ap (λ rest. slot ∷ rest) (all_told_stay slots parts.1)

pub all_are_told : (slots : List Slot) → are_told (all_told slots) ≡ true
all_are_told [] = refl
all_are_told (slot ∷ slots) = all_are_told slots

pub all_told_entries : (slots : List Slot) → entries_of (all_told slots) ≡ entries_of slots
all_told_entries [] = refl
all_told_entries (slot ∷ slots) = ap (λ entries. slot.entry ∷ entries) (all_told_entries slots)

-- ---- a list without an entry of the owner

all_other : (owner : TxnId) (slots : List Slot) → list_any (rule.is_of owner) (entries_of slots) ≡ false → filter (mirror.is_of_other owner) slots ≡ slots
all_other owner [] none = refl
all_other owner (slot ∷ slots) none =
    let parts = or_parts (rule.is_of owner slot.entry) (list_any (rule.is_of owner) (entries_of slots)) none in
    ap (λ b. cond (not b) (slot ∷ filter (mirror.is_of_other owner) slots) (filter (mirror.is_of_other owner) slots)) parts.0
    ∙ ap (λ rest. slot ∷ rest) (all_other owner slots parts.1)

with_grant_right : (earlier : List Slot) (slot : Slot) → slot.told ≡ true → IsRight (entries_of earlier) slot.entry → mirror.with_grant earlier slot ≡ slot
with_grant_right earlier slot told right =
    let none : mirror.is_granted earlier slot.entry ≡ false =
    sym (granted_of earlier slot.entry) ∙ not_granted slot.entry.held (rule.is_clear (entries_of earlier) slot.entry) right in
    ap (λ g. let new : Slot = record { entry = record slot.entry { held = slot.entry.held || g }; told = not g } in new) none
    ∙ ap (λ b. let new : Slot = record { entry = record slot.entry { held = b }; told = true } in new) (or-false slot.entry.held)
    ∙ ap (λ t. let new : Slot = record slot { told = t } in new) (sym told)

with_grants_stay : (earlier slots : List Slot) → are_told slots ≡ true → EachAfter IsRight (entries_of earlier) (entries_of slots) → mirror.with_grants_from earlier slots ≡ slots
with_grants_stay earlier [] told right = refl
with_grants_stay earlier (slot ∷ slots) told right =
    let parts = told_both slot slots told in
    let same : mirror.with_grant earlier slot ≡ slot = with_grant_right earlier slot parts.0 right.0 in
    let before : entries_of (earlier ++ slot ∷ []) ≡ entries_of earlier ++ slot.entry ∷ [] = map-append entry_of earlier (slot ∷ []) in
    ap (λ s. s ∷ mirror.with_grants_from (earlier ++ s ∷ []) slots) same
    ∙ ap (λ rest. slot ∷ rest) (with_grants_stay (earlier ++ slot ∷ []) slots parts.1 (rw before right.1))

-- a release changes nothing there
pub left_as_it_was : (owner : TxnId) (slots : List Slot) → are_told slots ≡ true → IsOrderly (entries_of slots) → list_any (rule.is_of owner) (entries_of slots) ≡ false
    → left_by owner slots ≡ slots
left_as_it_was owner slots told order none =
    ap (mirror.with_grants_from []) (all_other owner slots none) ∙ with_grants_stay [] slots told order.right
