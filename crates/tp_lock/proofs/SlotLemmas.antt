-- Loops over the slots of an item and over the items, a place at a time.
use Rattle.std.proofs.Common.{◌≡◌, ◌<◌, ◌+◌, ℕ, Bool, true, false, cond, List, [], ◌∷◌, ◌++◌, length, get_or, take, drop, set, Option, Some, None, refl, ap, sym, ◌∙◌, append_assoc, add-one, arith, slice_get, inl, inr}
use Rattle.std.proofs.lemmas.List.{take_more, set_split}
use Rattle.std.proofs.lemmas.Option.{get_or_from_slice_get, slice_get_cases, slice_get_within}
use Rattle.std.specs.List.{find}
use Rattle.std.specs.Option.{option_and_then}
use Rattle.tp_types.proofs.ListLemmas.{rest_at}
use Rattle.tp_lock.specs.declared.slots.Slot.{Slot}
use Rattle.tp_lock.specs.mirrors.Slots.{is_untold, told_first, untold_of}

-- ---- the first slot that is not told

-- the loop for it has come to a place, and nothing before it was untold
pub record IsToldBefore (slots : List Slot) (at : ℕ) : Type 0 where
  pub found : find is_untold (drop at slots) ≡ find is_untold slots
  pub told : take at slots ++ told_first (drop at slots) ≡ told_first slots

untold_slot : (slot found : Slot) (told : Bool) → cond told None (Some slot) ≡ Some found → (slot ≡ found) × (told ≡ false)
untold_slot slot found true e = (cc, cc)
untold_slot slot found false e = (cc, refl)

told_slot : (slot : Slot) (told : Bool) → cond told None (Some slot) ≡ None → told ≡ true
told_slot slot true e = refl
told_slot slot false e = cc

-- a slot that is found untold is the member at its place
untold_at : (got : Option Slot) (found : Slot) → option_and_then untold_of got ≡ Some found → (got ≡ Some found) × (found.told ≡ false)
untold_at None found e = (cc, cc)
untold_at (Some slot) found e =
    let parts = untold_slot slot found slot.told e in
    (ap Some parts.0, ap (λ (s : Slot). s.told) (sym parts.0) ∙ parts.1)

told_at : (slot : Slot) (got : Option Slot) → got ≡ Some slot → option_and_then untold_of got ≡ None → slot.told ≡ true
told_at slot None e none = cc
told_at slot (Some other) e none =
    let same : other ≡ slot = cc in
    ap (λ (s : Slot). s.told) (sym same) ∙ told_slot other other.told none

told_next_at : (slots : List Slot) (at : ℕ) (slot : Slot) → slice_get slots at ≡ Some slot → option_and_then untold_of (slice_get slots at) ≡ None
    → IsToldBefore slots at → IsToldBefore slots (at + 1)
told_next_at slots at slot got none before =
    let lt : at < length slots = slice_get_within slots at slot got in
    let here : slot ≡ get_or slots at slot = sym (get_or_from_slice_get slots at slot slot got) in
    let told : slot.told ≡ true = told_at slot (slice_get slots at) got none in
    let rest : drop at slots ≡ slot ∷ drop (at + 1) slots = rest_at slots at slot lt here in
    let front : take (at + 1) slots ≡ take at slots ++ slot ∷ [] = take_more slots at slot lt ∙ ap (λ s. take at slots ++ s ∷ []) (sym here) in
    let passed : find is_untold (slot ∷ drop (at + 1) slots) ≡ find is_untold (drop (at + 1) slots) = rw told refl in
    let kept : told_first (slot ∷ drop (at + 1) slots) ≡ slot ∷ told_first (drop (at + 1) slots) = rw told refl in
    record {
      found = sym passed ∙ ap (find is_untold) (sym rest) ∙ before.found;
      told =
          ap (λ s. s ++ told_first (drop (at + 1) slots)) front
          ∙ append_assoc (take at slots) (slot ∷ []) (told_first (drop (at + 1) slots))
          ∙ ap (λ s. take at slots ++ s) (sym kept ∙ ap told_first (sym rest)) ∙ before.told;
    }

pub told_next : (slots : List Slot) (at : ℕ) → at < length slots → option_and_then untold_of (slice_get slots at) ≡ None
    → IsToldBefore slots at → IsToldBefore slots (at + 1)
told_next slots at lt none before =
    elim (slice_get_cases slots at).1 [
      | inl (slot, within, got, here) ↦ told_next_at slots at slot got none before
      | inr (past, missing) ↦ absurd (omega arith)
    ]

pub first_found : (slots : List Slot) (at : ℕ) (slot : Slot) → option_and_then untold_of (slice_get slots at) ≡ Some slot
    → IsToldBefore slots at → (find is_untold slots ≡ Some slot) × (set slots at (record slot { told = true }) ≡ told_first slots)
first_found slots at slot e before =
    let parts = untold_at (slice_get slots at) slot e in
    let lt : at < length slots = slice_get_within slots at slot parts.0 in
    let here : slot ≡ get_or slots at slot = sym (get_or_from_slice_get slots at slot slot parts.0) in
    let untold : slot.told ≡ false = parts.1 in
    let rest : drop at slots ≡ slot ∷ drop (at + 1) slots = rest_at slots at slot lt here in
    let met : find is_untold (slot ∷ drop (at + 1) slots) ≡ Some slot = rw untold refl in
    let next : Slot = record slot { told = true } in
    let marked : told_first (slot ∷ drop (at + 1) slots) ≡ next ∷ drop (at + 1) slots = rw untold refl in
    let split : set slots at next ≡ take at slots ++ next ∷ drop (at + 1) slots = rw add-one (set_split slots at next lt) in (
      sym before.found ∙ ap (find is_untold) rest ∙ met,
      split ∙ ap (λ s. take at slots ++ s) (sym marked ∙ ap told_first (sym rest)) ∙ before.told,
    )
