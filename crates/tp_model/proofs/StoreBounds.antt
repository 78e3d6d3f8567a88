-- The stores of a serial history: where every commit leaves each item in its range, so does the store at each place.
use Rattle.std.proofs.Common.{◌≡◌, ◌⊎◌, ℕ, zero, suc, ◌^◌, Bool, true, false, ◌&&◌, cond, List, [], ◌∷◌, length, map, fold, slice_get, slice_set, ℤ, Option, Some, None, refl, ap, sym, ◌∙◌, inl, inr}
use Rattle.std.proofs.lemmas.Bool.{and_parts}
use Rattle.std.specs.Cmp.Lexicographic.{pointwise}
use Rattle.std.specs.List.{AllByRecursion, AllZip, list_all}
use Rattle.std.specs.Option.{option_map_or}
use Rattle.tp_types.proofs.ListLemmas.{three_parts}
use Rattle.tp_model.specs.Words.{Action, CommitRecord, Deed, Fact, Item, Scenario, Transaction, TxnId, What}
use Rattle.tp_model.specs.Words.action
use Rattle.tp_model.specs.Words.decision
use Rattle.tp_model.specs.Words.what
use Rattle.tp_model.specs.Facts.{before, is_earlier}
use Rattle.tp_model.specs.Limits.{has_count, is_between, is_value}
use Rattle.tp_model.specs.SerialRun.{are_in_range, is_serial, is_serial_commit, keeps_serial, keeps_serial_what, opening_store, opening_value, same_deed, serial_run, store_at, with_deed, with_deeds, with_deed_by, with_fact, with_what}
use Rattle.tp_model.specs.Valid.{IsValid, are_by_server, are_distinct, has_valid_bounds, has_valid_range, is_admin, is_server, is_valid_item, is_valid_txn, same_item_name, same_txn_name}
use Rattle.tp_model.proofs.RunBounds.{IsWithin, between_within, bound_after, run_within_most, value_within}

-- ---- ranges

-- the value is in the item's range
abbrev pub IsInRange : Item → ℤ → Type 0
IsInRange item value = is_between item.min item.max value ≡ true

-- the store has one value for each item, in its range
abbrev pub FitsItems : List Item → List ℤ → Type 0
FitsItems items store = AllZip IsInRange items store

-- of two stores with a value for each item, the second has the value of the first, or one in the item's range
abbrev Mixes : List Item → List ℤ → List ℤ → Type 0
Mixes [] [] [] = Unit {0}
Mixes (item ∷ items) (value ∷ store) (other ∷ others) = ((other ≡ value) ⊎ IsInRange item other) × Mixes items store others
Mixes _ _ _ = ⊥

mixes_fitting : (items : List Item) (store others : List ℤ) → length store ≡ length items → FitsItems items others → Mixes items store others
mixes_fitting [] [] [] e h = tt
mixes_fitting (item ∷ items) (value ∷ store) (other ∷ others) e h = (inr h.0, mixes_fitting items store others (cc) h.1)
mixes_fitting [] [] (other ∷ others) e h = absurd h
mixes_fitting [] (value ∷ store) others e h = absurd (cc)
mixes_fitting (item ∷ items) [] others e h = absurd (cc)
mixes_fitting (item ∷ items) (value ∷ store) [] e h = absurd h

mixes_set : (items : List Item) (store others : List ℤ) (place : ℕ) (z : ℤ) → Mixes items store others → Mixes items (slice_set store place z) (slice_set others place z)
mixes_set [] [] [] zero z h = tt
mixes_set [] [] [] (suc place) z h = tt
mixes_set (item ∷ items) (value ∷ store) (other ∷ others) zero z h = (inl refl, h.1)
mixes_set (item ∷ items) (value ∷ store) (other ∷ others) (suc place) z h = (h.0, mixes_set items store others place z h.1)
mixes_set [] [] (other ∷ others) place z h = absurd h
mixes_set [] (value ∷ store) others place z h = absurd h
mixes_set (item ∷ items) [] others place z h = absurd h
mixes_set (item ∷ items) (value ∷ store) [] place z h = absurd h

mixes_deed : (items : List Item) (store others : List ℤ) (deed : Deed) (kind : Action) → Mixes items store others → Mixes items (with_deed_by kind store deed) (with_deed_by kind others deed)
mixes_deed items store others deed action.Read h = h
mixes_deed items store others deed action.Write h = mixes_set items store others deed.item.0 deed.value h

mixes_deeds : (items : List Item) (deeds : List Deed) (store others : List ℤ) → Mixes items store others → Mixes items (with_deeds store deeds) (with_deeds others deeds)
mixes_deeds items [] store others h = h
mixes_deeds items (deed ∷ deeds) store others h = mixes_deeds items deeds (with_deed store deed) (with_deed others deed) (mixes_deed items store others deed deed.action h)

one_fits : (item : Item) (value other : ℤ) → IsInRange item value → (other ≡ value) ⊎ IsInRange item other → IsInRange item other
one_fits item value other h (inl e) = ap (is_between item.min item.max) e ∙ h
one_fits item value other h (inr k) = k

mixes_end : (items : List Item) (store others : List ℤ) → Mixes items store others → are_in_range items store ≡ true → FitsItems items others
mixes_end [] [] [] h e = tt
mixes_end (item ∷ items) (value ∷ store) (other ∷ others) h e =
    let parts = and_parts (is_between item.min item.max value) (are_in_range items store) e in
    (one_fits item value other parts.0 h.0, mixes_end items store others h.1 parts.1)
mixes_end [] [] (other ∷ others) h e = absurd h
mixes_end [] (value ∷ store) others h e = absurd h
mixes_end (item ∷ items) [] others h e = absurd h
mixes_end (item ∷ items) (value ∷ store) [] h e = absurd h

-- deeds that leave a first store in range leave every store in range that was so before
deeds_fit : (items : List Item) (deeds : List Deed) (store others : List ℤ) → length store ≡ length items → are_in_range items (with_deeds store deeds) ≡ true → FitsItems items others
    → FitsItems items (with_deeds others deeds)
deeds_fit items deeds store others e ends h =
    mixes_end items (with_deeds store deeds) (with_deeds others deeds) (mixes_deeds items deeds store others (mixes_fitting items store others e h)) ends

-- ---- lengths

length_set : (store : List ℤ) (place : ℕ) (z : ℤ) → length (slice_set store place z) ≡ length store
length_set [] zero z = refl
length_set [] (suc place) z = refl
length_set (value ∷ store) zero z = refl
length_set (value ∷ store) (suc place) z = ap suc (length_set store place z)

length_deed : (store : List ℤ) (deed : Deed) (kind : Action) → length (with_deed_by kind store deed) ≡ length store
length_deed store deed action.Read = refl
length_deed store deed action.Write = length_set store deed.item.0 deed.value

length_deeds : (deeds : List Deed) (store : List ℤ) → length (with_deeds store deeds) ≡ length store
length_deeds [] store = refl
length_deeds (deed ∷ deeds) store = length_deeds deeds (with_deed store deed) ∙ length_deed store deed deed.action

length_what : (store : List ℤ) (w : What) → length (with_what store w) ≡ length store
length_what store (what.Decided txn (decision.Commit committed)) = length_deeds committed.deeds store
length_what store (what.Decided txn (decision.Abort why)) = refl
length_what store _ = refl

length_facts : (facts : List Fact) (store : List ℤ) → length (fold with_fact store facts) ≡ length store
length_facts [] store = refl
length_facts (fact ∷ facts) store = length_facts facts (with_fact store fact) ∙ length_what store fact.what

length_opening : (items : List Item) → length (map opening_value items) ≡ length items
length_opening [] = refl
length_opening (item ∷ items) = ap suc (length_opening items)

-- a store has one value for each item
pub length_store : (sc : Scenario) (place : ℕ) (facts : List Fact) → length (store_at sc place facts) ≡ length sc.items
length_store sc place facts = length_facts (before place facts) (opening_store sc) ∙ length_opening sc.items

-- ---- histories

valid_items : (sc : Scenario) → IsValid sc → list_all (is_valid_item sc) sc.items ≡ true
valid_items sc valid = (three_parts (list_all (is_valid_item sc) sc.items) (are_by_server 0 sc.items) (are_distinct same_item_name sc.items) valid.items).0

opening_fits : (sc : Scenario) (items : List Item) → list_all (is_valid_item sc) items ≡ true → FitsItems items (map opening_value items)
opening_fits sc [] e = tt
opening_fits sc (item ∷ items) e =
    let parts = and_parts (is_valid_item sc item) (list_all (is_valid_item sc) items) e in
    let range = (and_parts (is_server sc item.server && is_admin sc item.admin) (has_valid_range item) parts.0).1 in
    ((and_parts (has_valid_bounds item) (is_between item.min item.max item.value) range).1, opening_fits sc items parts.1)

commit_in_range : (sc : Scenario) (store : List ℤ) (committed : CommitRecord) (found : Option Transaction) → option_map_or (is_serial_commit sc store committed) found false ≡ true
    → are_in_range sc.items (with_deeds store committed.deeds) ≡ true
commit_in_range sc store committed None e = absurd (cc)
commit_in_range sc store committed (Some txn) e = (and_parts (pointwise same_deed committed.deeds (serial_run txn store)) (are_in_range sc.items (with_deeds store committed.deeds)) e).1

what_fits : (sc : Scenario) (facts : List Fact) (place : ℕ) (store : List ℤ) (w : What) → keeps_serial_what sc facts place w ≡ true → FitsItems sc.items store → FitsItems sc.items (with_what store w)
what_fits sc facts place store (what.Decided txn (decision.Commit committed)) e h =
    let first = store_at sc place facts in
    deeds_fit sc.items committed.deeds first store (length_store sc place facts) (commit_in_range sc first committed (slice_get sc.txns txn.0) e) h
what_fits sc facts place store (what.Decided txn (decision.Abort why)) e h = h
what_fits sc facts place store _ e h = h

one_more : (items : List Item) (fact : Fact) (rest : List Fact) (store : List ℤ) (here : Bool) → FitsItems items (fold with_fact (with_fact store fact) rest)
    → FitsItems items (fold with_fact store rest) → FitsItems items (fold with_fact store (cond here (fact ∷ rest) rest))
one_more items fact rest store true h k = h
one_more items fact rest store false h k = k

facts_fit : (sc : Scenario) (facts some : List Fact) (place : ℕ) (store : List ℤ) → list_all (keeps_serial sc facts) some ≡ true → FitsItems sc.items store
    → FitsItems sc.items (fold with_fact store (before place some))
facts_fit sc facts [] place store e h = h
facts_fit sc facts (fact ∷ some) place store e h =
    let parts = and_parts (keeps_serial sc facts fact) (list_all (keeps_serial sc facts) some) e in
    let with = facts_fit sc facts some place (with_fact store fact) parts.1 (what_fits sc facts fact.place store fact.what parts.0 h) in
    one_more sc.items fact (before place some) store (is_earlier place fact) with (facts_fit sc facts some place store parts.1 h)

-- in a serial history the store at each place has each item in its range
pub store_fits : (sc : Scenario) (place : ℕ) (facts : List Fact) → IsValid sc → is_serial sc facts ≡ true → FitsItems sc.items (store_at sc place facts)
store_fits sc place facts valid serial =
    facts_fit sc facts facts place (opening_store sc) serial (opening_fits sc sc.items (valid_items sc valid))

-- ---- bounds

fitting_within : (sc : Scenario) (items : List Item) (store : List ℤ) → list_all (is_valid_item sc) items ≡ true → FitsItems items store → AllByRecursion (IsWithin (10 ^ 15)) store
fitting_within sc [] [] e h = tt
fitting_within sc [] (value ∷ store) e h = absurd h
fitting_within sc (item ∷ items) [] e h = absurd h
fitting_within sc (item ∷ items) (value ∷ store) e h =
    let parts = and_parts (is_valid_item sc item) (list_all (is_valid_item sc) items) e in
    let range = (and_parts (is_server sc item.server && is_admin sc item.admin) (has_valid_range item) parts.0).1 in
    let bounds = and_parts (is_value item.min) (is_value item.max) (and_parts (has_valid_bounds item) (is_between item.min item.max item.value) range).0 in
    (between_within (10 ^ 15) item.min item.max value (value_within item.min bounds.0) (value_within item.max bounds.1) h.0, fitting_within sc items store parts.1 h.1)

-- and each value of it is within 10^15
pub store_within : (sc : Scenario) (place : ℕ) (facts : List Fact) → IsValid sc → is_serial sc facts ≡ true → AllByRecursion (IsWithin (10 ^ 15)) (store_at sc place facts)
store_within sc place facts valid serial = fitting_within sc sc.items (store_at sc place facts) (valid_items sc valid) (store_fits sc place facts valid serial)

valid_at : (sc : Scenario) (txns : List Transaction) (number : ℕ) (declared : Transaction) → list_all (is_valid_txn sc) txns ≡ true → slice_get txns number ≡ Some declared → is_valid_txn sc declared ≡ true
valid_at sc [] zero declared e found = absurd (cc)
valid_at sc [] (suc number) declared e found = absurd (cc)
valid_at sc (txn ∷ txns) zero declared e found =
    let same : txn ≡ declared = cc in
    ap (is_valid_txn sc) (sym same) ∙ (and_parts (is_valid_txn sc txn) (list_all (is_valid_txn sc) txns) e).0
valid_at sc (txn ∷ txns) (suc number) declared e found = valid_at sc txns number declared (and_parts (is_valid_txn sc txn) (list_all (is_valid_txn sc) txns) e).1 found

-- where a transaction runs by itself on the store at a place of a serial history, each value is within the bound of 16 queries
pub values_within : (sc : Scenario) (place : ℕ) (facts : List Fact) (txn : TxnId) (declared : Transaction) → IsValid sc → is_serial sc facts ≡ true → slice_get sc.txns txn.0 ≡ Some declared
    → AllByRecursion (λ (deed : Deed). IsWithin (bound_after 16) deed.value) (serial_run declared (store_at sc place facts))
values_within sc place facts txn declared valid serial found =
    let all = (three_parts (has_count 0 128 sc.txns) (list_all (is_valid_txn sc) sc.txns) (are_distinct same_txn_name sc.txns) valid.txns).1 in
    run_within_most sc declared (store_at sc place facts) (valid_at sc sc.txns txn.0 declared all found) (store_within sc place facts valid serial)
