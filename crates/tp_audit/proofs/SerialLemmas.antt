-- A serial run, one query at a time.
use Rattle.std.proofs.Common.{◌≡◌, ◌≢◌, ℕ, zero, suc, ◌+◌, ◌<◌, Bool, true, false, ◌&&◌, ◌==◌, List, [], ◌∷◌, length, drop, get_or, ℤ, slice_get, slice_set, refl, ap, sym, ◌∙◌, add-one, eqb-true}
use Rattle.std.proofs.Math.Seq.{drop-cons}
use Rattle.std.proofs.lemmas.Bool.{and_parts}
use Rattle.std.proofs.lemmas.Bool.Decides.{Decides-int_eq}
use Rattle.std.proofs.lemmas.List.{get_or_default}
use Rattle.std.specs.Cmp.Lexicographic.{pointwise}
use Rattle.std.specs.List.{fold}
use Rattle.std.specs.Option.{option_map_or}
use Rattle.std.specs.Ordering.{int_eq}
use Rattle.std.proofs.Math.Bool.{and-false}
use Rattle.tp_types.proofs.ListLemmas.{rest_at}
use Rattle.tp_model.specs.Words.{Action, Deed, Item, Query, Transaction}
use Rattle.tp_model.specs.Words.action
use Rattle.tp_types.specs.declared.scenario.Query.TheVariants.{Read, Write}
use Rattle.tp_audit.specs.mirrors.Programs.{deed_of, registers_after, store_after}
use Rattle.tp_model.specs.Ids.{same_item}
use Rattle.tp_model.specs.Limits.{is_between}
use Rattle.tp_model.specs.Policies.{same_action}
use Rattle.tp_model.specs.SerialRun.{are_in_range, cleared_registers, deeds_from, same_deed, serial_run, with_deed, with_deeds, with_deed_by}

-- a first test that fails settles the whole, and one that passes leaves it to the others
pub stops : (first others whole : Bool) → first ≡ false → (first && others) ≡ whole → false ≡ whole
stops true others whole e h = absurd (cc)
stops false others whole e h = h

pub goes_on : (first others whole : Bool) → first ≡ true → (first && others) ≡ whole → others ≡ whole
goes_on true others whole e h = h
goes_on false others whole e h = absurd (cc)

-- ---- one deed

-- a deed that is the same has the value
pub written_value : (deed other : Deed) → same_deed deed other ≡ true → deed.value ≡ other.value
written_value deed other h =
    let parts = and_parts ((deed.query == other.query) && same_item deed.item other.item) (same_action deed.action other.action && int_eq deed.value other.value) h in
    (Decides-int_eq deed.value other.value).0 (and_parts (same_action deed.action other.action) (int_eq deed.value other.value) parts.1).1

written_item : (deed other : Deed) → same_deed deed other ≡ true → deed.item.0 ≡ other.item.0
written_item deed other h =
    let parts = and_parts ((deed.query == other.query) && same_item deed.item other.item) (same_action deed.action other.action && int_eq deed.value other.value) h in
    eqb-true deed.item.0 other.item.0 (and_parts (deed.query == other.query) (same_item deed.item other.item) parts.0).1

done_action : (deed other : Deed) → same_deed deed other ≡ true → same_action deed.action other.action ≡ true
done_action deed other h =
    let parts = and_parts ((deed.query == other.query) && same_item deed.item other.item) (same_action deed.action other.action && int_eq deed.value other.value) h in
    (and_parts (same_action deed.action other.action) (int_eq deed.value other.value) parts.1).0

stored_read : (did : Action) (store : List ℤ) (deed : Deed) → same_action did action.Read ≡ true → with_deed_by did store deed ≡ store
stored_read action.Read store deed h = refl
stored_read action.Write store deed h = absurd (cc)

stored_write : (did : Action) (store : List ℤ) (deed : Deed) → same_action did action.Write ≡ true → with_deed_by did store deed ≡ slice_set store deed.item.0 deed.value
stored_write action.Read store deed h = absurd (cc)
stored_write action.Write store deed h = refl

-- a deed that is the query's leaves the store that the query leaves
pub stored_same : (deed : Deed) (number : ℕ) (query : Query) (registers store : List ℤ)
    → same_deed deed (deed_of number query registers store) ≡ true → with_deed store deed ≡ store_after query registers store
stored_same deed number (Read item into) registers store h =
    stored_read deed.action store deed (done_action deed (deed_of number (Read item into) registers store) h)
stored_same deed number (Write item expr) registers store h =
    let other = deed_of number (Write item expr) registers store in
    stored_write deed.action store deed (done_action deed other h)
    ∙ ap (λ place. slice_set store place deed.value) (written_item deed other h) ∙ ap (slice_set store item.0) (written_value deed other h)

-- ---- the loops

-- from a query on, the deeds are those that the transaction does
abbrev pub runs_from : ℕ → List Deed → List Query → List ℤ → List ℤ → Bool
runs_from at deeds queries registers store = pointwise same_deed (drop at deeds) (deeds_from (at + 1) (drop at queries) registers store)

deeds_next : (number : ℕ) (query : Query) (queries : List Query) (registers store : List ℤ)
    → deeds_from number (query ∷ queries) registers store
    ≡ deed_of number query registers store ∷ deeds_from (number + 1) queries (registers_after query registers store) (store_after query registers store)
deeds_next number (Read item into) queries registers store = refl
deeds_next number (Write item expr) queries registers store = refl

-- one turn of a serial run
pub runs_next : (at : ℕ) (deeds : List Deed) (queries : List Query) (registers store : List ℤ) (deed : Deed) (query : Query)
    → at < length deeds → at < length queries → deed ≡ get_or deeds at deed → query ≡ get_or queries at query
    → runs_from at deeds queries registers store
    ≡ (same_deed deed (deed_of (at + 1) query registers store) && runs_from (at + 1) deeds queries (registers_after query registers store) (store_after query registers store))
runs_next at deeds queries registers store deed query d q de qe =
    ap (λ ds. pointwise same_deed ds (deeds_from (at + 1) (drop at queries) registers store)) (rest_at deeds at deed d de)
    ∙ ap (λ qs. pointwise same_deed (deed ∷ drop (at + 1) deeds) (deeds_from (at + 1) qs registers store)) (rest_at queries at query q qe)
    ∙ ap (pointwise same_deed (deed ∷ drop (at + 1) deeds)) (deeds_next (at + 1) query (drop (at + 1) queries) registers store)

no_run : (number : ℕ) (deeds : List Deed) (queries : List Query) (registers store : List ℤ) → length deeds ≢ length queries
    → pointwise same_deed deeds (deeds_from number queries registers store) ≡ false
no_run number [] [] registers store h = absurd (h refl)
no_run number [] (query ∷ queries) registers store h = rw (deeds_next number query queries registers store) refl
no_run number (deed ∷ deeds) [] registers store h = refl
no_run number (deed ∷ deeds) (query ∷ queries) registers store h =
    let rest = no_run (number + 1) deeds queries (registers_after query registers store) (store_after query registers store) (λ e. h (ap suc e)) in
    rw (deeds_next number query queries registers store, rest) (and-false (same_deed deed (deed_of number query registers store)))

-- more or fewer deeds than queries are no serial run
pub no_serial_run : (deeds : List Deed) (txn : Transaction) (store : List ℤ) → length deeds ≢ length txn.queries
    → pointwise same_deed deeds (serial_run txn store) ≡ false
no_serial_run deeds txn store h = no_run 1 deeds txn.queries cleared_registers store h

in_range_at : (item : Item) (items : List Item) (store : List ℤ) (at : ℕ)
    → are_in_range (item ∷ items) (drop at store) ≡ (option_map_or (is_between item.min item.max) (slice_get store at) false && are_in_range items (drop (suc at) store))
in_range_at item items [] zero = refl
in_range_at item items [] (suc at) = refl
in_range_at item items (value ∷ store) zero = refl
in_range_at item items (value ∷ store) (suc at) = in_range_at item items store at

-- one turn of the test of ranges
pub in_range_next : (at : ℕ) (items : List Item) (store : List ℤ) (item : Item) → at < length items → item ≡ get_or items at item
    → are_in_range (drop at items) (drop at store)
    ≡ (option_map_or (is_between item.min item.max) (slice_get store at) false && are_in_range (drop (at + 1) items) (drop (at + 1) store))
in_range_next at items store item h e =
    ap (λ is. are_in_range is (drop at store)) (rest_at items at item h e) ∙ rw add-one (in_range_at item (drop (suc at) items) store at)

-- one turn of a fold
pub fold_turn : {A B : Type 0} (f : B → A → B) (start next whole : B) (xs : List A) (at : ℕ) (d : A) → at < length xs → next ≡ f start (get_or xs at d)
    → fold f start (drop at xs) ≡ whole → fold f next (drop (at + 1) xs) ≡ whole
fold_turn f start next whole xs at d h e kept = rw (e, add-one) (sym (ap (fold f start) (drop-cons xs at d h)) ∙ kept)

-- a turn of a serial run whose deed is the query's
pub runs_on : (at : ℕ) (deeds : List Deed) (queries : List Query) (registers store next_registers next_store : List ℤ) (query : Query) (d : Deed) (whole : Bool)
    → at < length deeds → at < length queries → query ≡ get_or queries at query
    → same_deed (get_or deeds at d) (deed_of (at + 1) query registers store) ≡ true
    → next_registers ≡ registers_after query registers store → next_store ≡ store_after query registers store
    → runs_from at deeds queries registers store ≡ whole → runs_from (at + 1) deeds queries next_registers next_store ≡ whole
runs_on at deeds queries registers store next_registers next_store query d whole here there q same r s h =
    let deed = get_or deeds at d in
    let next = runs_next at deeds queries registers store deed query here there (get_or_default deeds at d deed here) q in
    rw (r, s) (goes_on _ _ _ same (sym next ∙ h))

-- the deed leaves the store that the query leaves
pub stores_on : (at : ℕ) (deeds : List Deed) (registers store next_store whole : List ℤ) (query : Query) (d : Deed)
    → at < length deeds → same_deed (get_or deeds at d) (deed_of (at + 1) query registers store) ≡ true → next_store ≡ store_after query registers store
    → with_deeds store (drop at deeds) ≡ whole → with_deeds next_store (drop (at + 1) deeds) ≡ whole
stores_on at deeds registers store next_store whole query d here same s h =
    fold_turn with_deed store next_store whole deeds at d here (s ∙ sym (stored_same (get_or deeds at d) (at + 1) query registers store same)) h
