-- Ranges of items: deeds that leave each item which they write in its range leave a store in range, and what is in range is within 10^15.
use Rattle.std.proofs.Common.{List, None, Option, Some, [], ap, arith, is_some, length, refl, slice_get, subst, suc, sym, true, zero, ℕ, ℤ, ◌^◌, ◌∷◌, ◌≡◌}
use Rattle.std.proofs.lemmas.Bool.{and_from, and_parts}
use Rattle.std.proofs.lemmas.Option.{same_Some}
use Rattle.std.specs.List.{AllByRecursion}
use Rattle.tp_model.proofs.RunBounds.{IsWithin, between_within, value_within}
use Rattle.std.specs.Option.{option_or}
use Rattle.tp_model.specs.Limits.{is_between}
use Rattle.tp_model.specs.SerialRun.{are_in_range, with_deeds}
use Rattle.tp_model.specs.Words.{Deed, Item, Scenario}
use Rattle.tp_runs.proofs.ids.Valid.{IsValid, IsValidItem}
use Rattle.tp_runs.proofs.deeds.Stores.{last_write, stored_last}
use Rattle.tp_types.specs.Each.{Each}

-- what the deeds write last to each item is in the item's range
abbrev pub AreTested : Scenario → List Deed → Type 0
AreTested sc deeds = (n : ℕ) (item : Item) (v : ℤ) → slice_get sc.items n ≡ Some item → last_write n deeds ≡ Some v → is_between item.min item.max v ≡ true

-- ---- by places

-- the item has a value in its range
pub record IsHeld (item : Item) (found : Option ℤ) : Type 0 where
  pub value : ℤ
  pub found_is : found ≡ Some value
  pub within : is_between item.min item.max value ≡ true

pub range_at : (items : List Item) (store : List ℤ) (n : ℕ) (item : Item) → are_in_range items store ≡ true → slice_get items n ≡ Some item → IsHeld item (slice_get store n)
range_at [] store n item h e = absurd (cc)
range_at (first ∷ items) [] n item h e = absurd (cc)
range_at (first ∷ items) (value ∷ store) zero item h e =
    let same : first ≡ item = same_Some first item e in
    let parts = and_parts (is_between first.min first.max value) (are_in_range items store) h in
    record { value = value; found_is = refl; within = subst (λ (i : Item). is_between i.min i.max value ≡ true) same parts.0 }
range_at (first ∷ items) (value ∷ store) (suc n) item h e =
    range_at items store n item (and_parts (is_between first.min first.max value) (are_in_range items store) h).1 e

held_first : (item : Item) (value : ℤ) → IsHeld item (Some value) → is_between item.min item.max value ≡ true
held_first item value h = subst (λ (v : ℤ). is_between item.min item.max v ≡ true) (same_Some h.value value (sym h.found_is)) h.within

pub all_in_range : (items : List Item) (store : List ℤ) → ((n : ℕ) (item : Item) → slice_get items n ≡ Some item → IsHeld item (slice_get store n)) → are_in_range items store ≡ true
all_in_range [] store h = refl
all_in_range (item ∷ items) [] h = let none = (h 0 item refl).found_is in absurd (cc)
all_in_range (item ∷ items) (value ∷ store) h =
    and_from (is_between item.min item.max value) (are_in_range items store) (held_first item value (h 0 item refl)) (all_in_range items store (λ n other e. h (suc n) other e))

-- ---- deeds

held_after : (item : Item) (n : ℕ) (deeds : List Deed) (old : Option ℤ) (last : Option ℤ) → last_write n deeds ≡ last → ((v : ℤ) → last_write n deeds ≡ Some v → is_between item.min item.max v ≡ true) → IsHeld item old → IsHeld item (option_or last old)
held_after item n deeds old None e tested h = h
held_after item n deeds old (Some v) e tested h = record { value = v; found_is = refl; within = tested v e }

-- tested deeds leave the store in range
pub stored_in_range : (sc : Scenario) (store : List ℤ) (deeds : List Deed) → AreTested sc deeds → are_in_range sc.items store ≡ true → are_in_range sc.items (with_deeds store deeds) ≡ true
stored_in_range sc store deeds tested range =
    all_in_range sc.items (with_deeds store deeds)
    (λ n item e.
    let old : IsHeld item (slice_get store n) = range_at sc.items store n item range e in
    subst (IsHeld item) (sym (stored_last store deeds n (ap is_some old.found_is)))
    (held_after item n deeds (slice_get store n) (last_write n deeds) refl (λ v last. tested n item v e last) old))

-- ---- limits

items_within : (sc : Scenario) (items : List Item) (store : List ℤ) → Each (IsValidItem sc) items → length store ≡ length items → are_in_range items store ≡ true → AllByRecursion (IsWithin (10 ^ 15)) store
items_within sc [] [] valid e range = tt
items_within sc [] (value ∷ store) valid e range = absurd (omega (arith, e))
items_within sc (item ∷ items) [] valid e range = absurd (cc)
items_within sc (item ∷ items) (value ∷ store) valid e range =
    let parts = and_parts (is_between item.min item.max value) (are_in_range items store) range in (
      between_within (10 ^ 15) item.min item.max value (value_within item.min valid.0.min) (value_within item.max valid.0.max) parts.0,
      items_within sc items store valid.1 (omega (arith, e)) parts.1,
    )

-- each value of a store in range is within 10^15
pub store_within : (sc : Scenario) (store : List ℤ) → IsValid sc → length store ≡ length sc.items → are_in_range sc.items store ≡ true → AllByRecursion (IsWithin (10 ^ 15)) store
store_within sc store valid e range = items_within sc sc.items store valid.items e range
