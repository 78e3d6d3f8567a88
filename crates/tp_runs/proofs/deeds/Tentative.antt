-- A transaction's tentative writes at a server beside what it has done there: of each item the last write is kept, which is what
-- applying all of them leaves.
use Rattle.std.specs.List.{list_any}
use Rattle.std.specs.Option.{option_map_or, option_or}
use Rattle.std.proofs.Common.{Bool, List, MatchOption, None, Option, Some, [], ap, arith, false, find, if◌then◌else◌, map, option_map, pos, refl, slice_get, slice_set, subst, suc, sym, true, unwrap_or, zero, ℕ, ℤ, ◌++◌, ◌==◌, ◌∙◌, ◌∷◌, ◌≡◌, ◌≤◌}
use Rattle.std.proofs.lemmas.Bool.Decides.{nat_tests}
use Rattle.std.proofs.lemmas.Bool.{eqb-true, not-false, or_parts}
use Rattle.std.proofs.lemmas.List.Sums.{fold-append}
use Rattle.std.proofs.lemmas.Option.{same_Some}
use Rattle.tp_model.specs.Limits.{is_between}
use Rattle.tp_model.specs.SerialRun.{number_at, with_deed, with_deeds, with_deed_by}
use Rattle.tp_model.specs.Words.action
use Rattle.tp_model.specs.Words.{Action, Deed, Item, ItemId, Scenario, TxnId}
use Rattle.tp_types.proofs.EachLemmas.{found_passes}
use Rattle.tp_runs.proofs.basics.Logs.{map_first}
use Rattle.tp_recover.proofs.LogLemmas.{first_first, first_none}
use Rattle.tp_runs.proofs.deeds.Ranges.{AreTested}
use Rattle.tp_runs.proofs.deeds.Stores.{HasPlace, last_write, stored_none, stored_some, written, written_by}
use Rattle.tp_types.specs.Each.{Each}
use Rattle.tp_store.proofs.AppliedLemmas.{apart_with, set_after}
use Rattle.tp_store.proofs.LawLemmas.{last_is_found, other_is_found}
use Rattle.tp_store.proofs.OutsideLemmas.{first_is_least}
use Rattle.tp_store.specs.Contents.{Contents}
use Rattle.tp_store.specs.Laws.{IsLeastOutside, are_apart, is_last_of}
use Rattle.tp_server.specs.Booted.{write_of}
use Rattle.tp_store.specs.Rule.{bounds_of, first_outside_in, read_in, value_of, writes_of}
use Rattle.tp_store.specs.Writes.{is_on, is_outside, is_outside_of, values_after, with_write}
use Rattle.tp_store.specs.declared.writes.Bounds.{Bounds}
use Rattle.tp_store.specs.declared.writes.TentativeWrite.{TentativeWrite}

-- ---- the last write by deeds

abbrev pub kept_by_action : Action → ItemId → Deed → Option TentativeWrite
kept_by_action action.Read item deed = None
kept_by_action action.Write item deed = if deed.item.0 == item.0 then Some (write_of deed) else None

-- what a deed writes to an item
abbrev pub kept_one : ItemId → Deed → Option TentativeWrite
kept_one item deed = kept_by_action deed.action item deed

-- what deeds write last to an item
abbrev pub last_kept : ItemId → List Deed → Option TentativeWrite
last_kept item [] = None
last_kept item (deed ∷ deeds) = option_or (last_kept item deeds) (kept_one item deed)

written_value : (a : Action) (item : ItemId) (deed : Deed) → written_by a item.0 deed ≡ option_map value_of (kept_by_action a item deed)
written_value action.Read item deed = refl
written_value action.Write item deed = by_test (deed.item.0 == item.0)
  where
    by_test : (b : Bool) → (if b then Some deed.value else None) ≡ option_map value_of (if b then Some (write_of deed) else None)
    by_test true = refl
    by_test false = refl

-- its value
pub last_value : (item : ItemId) (deeds : List Deed) → last_write item.0 deeds ≡ option_map value_of (last_kept item deeds)
last_value item [] = refl
last_value item (deed ∷ deeds) =
    ap (λ (last : Option ℤ). option_or last (written item.0 deed)) (last_value item deeds)
    ∙ (ap (option_or (option_map value_of (last_kept item deeds))) (written_value deed.action item deed) ∙ map_first value_of (last_kept item deeds) (kept_one item deed))

-- one deed more
pub last_more : (item : ItemId) (deeds : List Deed) (deed : Deed) → last_kept item (deeds ++ deed ∷ []) ≡ option_or (kept_one item deed) (last_kept item deeds)
last_more item [] deed = sym (first_none (kept_one item deed))
last_more item (first ∷ deeds) deed =
    ap (λ (last : Option TentativeWrite). option_or last (kept_one item first)) (last_more item deeds deed) ∙ first_first (kept_one item deed) (last_kept item deeds) (kept_one item first)

-- the deeds are of queries up to this number
abbrev pub AreUpTo : ℕ → List Deed → Type 0
AreUpTo number deeds = Each (λ (deed : Deed). deed.query ≤ number) deeds

one_upto : (a : Action) (item : ItemId) (deed : Deed) (number : ℕ) (w : TentativeWrite) (b : Bool) → deed.query ≤ number → (if b then Some (write_of deed) else None) ≡ Some w → w.query ≤ number
one_upto a item deed number w true high e = let same : write_of deed ≡ w = same_Some (write_of deed) w e in omega (arith, high, ap (λ (x : TentativeWrite). x.query) same)
one_upto a item deed number w false high e = absurd (cc)

kept_upto : (a : Action) (item : ItemId) (deed : Deed) (number : ℕ) (w : TentativeWrite) → deed.query ≤ number → kept_by_action a item deed ≡ Some w → w.query ≤ number
kept_upto action.Read item deed number w high e = absurd (cc)
kept_upto action.Write item deed number w high e = one_upto action.Write item deed number w (deed.item.0 == item.0) high e

first_upto : (last one : Option TentativeWrite) (number : ℕ) (w : TentativeWrite) → ((x : TentativeWrite) → last ≡ Some x → x.query ≤ number) → ((x : TentativeWrite) → one ≡ Some x → x.query ≤ number) → option_or last one ≡ Some w → w.query ≤ number
first_upto None one number w later here e = here w e
first_upto (Some x) one number w later here e = later w e

-- and so is the last write
pub last_upto : (item : ItemId) (deeds : List Deed) (number : ℕ) (w : TentativeWrite) → AreUpTo number deeds → last_kept item deeds ≡ Some w → w.query ≤ number
last_upto item [] number w h e = absurd (cc)
last_upto item (deed ∷ deeds) number w h e =
    first_upto (last_kept item deeds) (kept_one item deed) number w (λ x f. last_upto item deeds number x h.1 f) (λ x f. kept_upto deed.action item deed number x h.0 f) e

-- ---- tentative writes

-- at most one write of each item is kept, the last by the deeds, and applying them is applying the deeds
pub record AreLast (writes : List TentativeWrite) (deeds : List Deed) : Type 0 where
  pub apart : are_apart writes ≡ true
  pub last : (item : ItemId) → find (is_on item) writes ≡ last_kept item deeds
  pub applied : (values : List ℤ) → values_after values writes ≡ with_deeds values deeds

pub none_last : AreLast [] []
none_last = record { apart = refl; last = λ item. refl; applied = λ values. refl }

-- a read changes nothing
pub read_last : (writes : List TentativeWrite) (deeds : List Deed) (deed : Deed) → deed.action ≡ action.Read → AreLast writes deeds → AreLast writes (deeds ++ deed ∷ [])
read_last writes deeds deed reads h =
    record {
      apart = h.apart;
      last = λ item. h.last item ∙ sym (last_more item deeds deed ∙ ap (λ (a : Action). option_or (kept_by_action a item deed) (last_kept item deeds)) reads);
      applied = λ values. h.applied values ∙ sym (fold-append with_deed values deeds (deed ∷ []) ∙ ap (λ (a : Action). with_deed_by a (with_deeds values deeds) deed) reads);
    }

upto_last : (found : Option TentativeWrite) (new : TentativeWrite) → ((w : TentativeWrite) → found ≡ Some w → w.query ≤ new.query) → is_last_of new found ≡ true
upto_last None new h = refl
upto_last (Some w) new h = let low = h w refl in grind (arith, nat_tests)

item_is : (one other : ItemId) → (one.0 == other.0) ≡ true → one ≡ other
item_is one other e = ap (λ (n : ℕ). record { 0 = n }) (eqb-true one.0 other.0 e)

found_more : (item : ItemId) (writes : List TentativeWrite) (new : TentativeWrite) (b : Bool) → is_on item new ≡ b → is_last_of new (find (is_on new.item) writes) ≡ true
    → find (is_on item) (with_write writes new) ≡ option_or (if b then Some new else None) (find (is_on item) writes)
found_more item writes new true e last =
    subst (λ (x : ItemId). find (is_on x) (with_write writes new) ≡ Some new) (item_is new.item item e) (last_is_found writes new last)
found_more item writes new false e last = other_is_found item writes new e

-- a write of a later query is kept
pub write_last : (writes : List TentativeWrite) (deeds : List Deed) (deed : Deed) → deed.action ≡ action.Write → AreUpTo deed.query deeds → AreLast writes deeds → AreLast (with_write writes (write_of deed)) (deeds ++ deed ∷ [])
write_last writes deeds deed writes_it upto h =
    let new = write_of deed in
    let is_last : is_last_of new (find (is_on new.item) writes) ≡ true = upto_last (find (is_on new.item) writes) new (λ w f. last_upto new.item deeds deed.query w upto (sym (h.last new.item) ∙ f)) in
    record {
      apart = apart_with writes new h.apart;
      last = λ item.
          found_more item writes new (is_on item new) refl is_last
          ∙ (ap (option_or (if is_on item new then Some new else None)) (h.last item)
          ∙ sym (last_more item deeds deed ∙ ap (λ (a : Action). option_or (kept_by_action a item deed) (last_kept item deeds)) writes_it));
      applied = λ values.
          set_after values writes new h.apart is_last
          ∙ (ap (λ (xs : List ℤ). slice_set xs deed.item.0 deed.value) (h.applied values)
          ∙ sym (fold-append with_deed values deeds (deed ∷ []) ∙ ap (λ (a : Action). with_deed_by a (with_deeds values deeds) deed) writes_it));
    }

-- ---- what is read

read_by : (values : List ℤ) (deeds : List Deed) (item : ItemId) (found : Option TentativeWrite) → HasPlace values item.0 → last_kept item deeds ≡ found
    → option_map_or value_of found (number_at values item.0) ≡ number_at (with_deeds values deeds) item.0
read_by values deeds item None has e =
    let none : last_write item.0 deeds ≡ None = last_value item deeds ∙ ap (option_map value_of) e in
    sym (ap (λ (x : Option ℤ). unwrap_or x (pos 0)) (stored_none values deeds item.0 has none))
read_by values deeds item (Some w) has e =
    let some : last_write item.0 deeds ≡ Some w.value = last_value item deeds ∙ ap (option_map value_of) e in
    sym (ap (λ (x : Option ℤ). unwrap_or x (pos 0)) (stored_some values deeds item.0 w.value has some))

-- a transaction reads what the values are after its own deeds
pub own_read : (store : Contents) (txn : TxnId) (item : ItemId) (deeds : List Deed) → HasPlace store.values item.0 → AreLast (writes_of store txn) deeds → read_in store txn item ≡ number_at (with_deeds store.values deeds) item.0
own_read store txn item deeds has h =
    ap (λ (found : Option TentativeWrite). option_map_or value_of found (number_at store.values item.0)) (h.last item) ∙ read_by store.values deeds item (last_kept item deeds) has refl

-- ---- ranges

none_here : (bounds : List Bounds) (item : ItemId) (first : TentativeWrite) (writes : List TentativeWrite) (w : TentativeWrite) (b : Bool) → is_outside bounds first ≡ false
    → (find (is_on item) writes ≡ Some w → is_outside bounds w ≡ false) → (if b then Some first else find (is_on item) writes) ≡ Some w → is_outside bounds w ≡ false
none_here bounds item first writes w true inside later e = ap (is_outside bounds) (sym (same_Some first w e)) ∙ inside
none_here bounds item first writes w false inside later e = later e

none_outside : (bounds : List Bounds) (item : ItemId) (writes : List TentativeWrite) (w : TentativeWrite) → list_any (is_outside bounds) writes ≡ false → find (is_on item) writes ≡ Some w → is_outside bounds w ≡ false
none_outside bounds item [] w none e = absurd (cc)
none_outside bounds item (first ∷ writes) w none e =
    let parts = or_parts (is_outside bounds first) (list_any (is_outside bounds) writes) none in
    none_here bounds item first writes w (is_on item first) parts.0 (λ f. none_outside bounds item writes w parts.1 f) e

no_first : (store : Contents) (txn : TxnId) (first : Option (ℕ × ℤ)) → first_outside_in store txn ≡ first → first ≡ None
    → MatchOption first (list_any (is_outside store.bounds) (writes_of store txn) ≡ false) (IsLeastOutside store txn) → list_any (is_outside store.bounds) (writes_of store txn) ≡ false
no_first store txn None e none h = h
no_first store txn (Some first) e none h = absurd (cc)

bounds_at : (items : List Item) (n : ℕ) (item : Item) → slice_get items n ≡ Some item → slice_get (map bounds_of items) n ≡ Some (bounds_of item)
bounds_at [] n item e = absurd (cc)
bounds_at (first ∷ items) zero item e = ap (λ (i : Item). Some (bounds_of i)) (same_Some first item e)
bounds_at (first ∷ items) (suc n) item e = bounds_at items n item e

mapped_is : (found : Option TentativeWrite) (v : ℤ) → option_map value_of found ≡ Some v → (w : TentativeWrite) × ((found ≡ Some w) × (w.value ≡ v))
mapped_is None v e = absurd (cc)
mapped_is (Some w) v e = (w, (refl, same_Some w.value v e))

-- where no write is outside its range, the deeds leave each item in its range
pub inside_tested : (sc : Scenario) (store : Contents) (txn : TxnId) (deeds : List Deed) → store.bounds ≡ map bounds_of sc.items → AreLast (writes_of store txn) deeds → first_outside_in store txn ≡ None → AreTested sc deeds
inside_tested sc store txn deeds bounds h inside = λ n item v there last.
    let id : ItemId = record { 0 = n } in
    let none : list_any (is_outside store.bounds) (writes_of store txn) ≡ false = no_first store txn (first_outside_in store txn) refl inside (first_is_least store txn) in
    let kept = mapped_is (last_kept id deeds) v (sym (last_value id deeds) ∙ last) in
    let w = kept.0 in
    let found : find (is_on id) (writes_of store txn) ≡ Some w = h.last id ∙ kept.1.0 in
    let within : is_outside store.bounds w ≡ false = none_outside store.bounds id (writes_of store txn) w none found in
    let same : w.item.0 ≡ n = eqb-true w.item.0 n (found_passes (is_on id) (writes_of store txn) w found) in
    let range : slice_get store.bounds w.item.0 ≡ Some (bounds_of item) = ap (slice_get store.bounds) same ∙ (ap (λ (xs : List Bounds). slice_get xs n) bounds ∙ bounds_at sc.items n item there) in
    let between : is_between item.min item.max w.value ≡ true = not-false (is_between item.min item.max w.value) (sym (ap (λ (b : Option Bounds). is_outside_of b w.value) range) ∙ within) in
    subst (λ (x : ℤ). is_between item.min item.max x ≡ true) kept.1.1 between
