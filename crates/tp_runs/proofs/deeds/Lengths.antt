-- What settled commits leave has a value for each item.
use Rattle.std.proofs.Common.{List, None, Option, Some, [], arith, fold, is_some, length, refl, slice_get, true, ℕ, ℤ, ◌∙◌, ◌∷◌, ◌≡◌}
use Rattle.std.proofs.lemmas.List.{length-map, length-set}
use Rattle.std.proofs.lemmas.Option.{slice_get_within}
use Rattle.tp_model.specs.Facts.{commit_of}
use Rattle.tp_model.specs.SerialRun.{opening_store, opening_value, overlay, overlay_at, overlay_deeds, overlay_fact, overlay_what, store_of, with_deed, with_deeds, with_deed_by, with_fact, with_what}
use Rattle.tp_model.specs.Words.action
use Rattle.tp_model.specs.Words.decision
use Rattle.tp_model.specs.Words.outcome
use Rattle.tp_model.specs.Words.what
use Rattle.tp_model.specs.Words.{Action, CommitRecord, Deed, Fact, Item, Scenario, ServerId, What}
use Rattle.tp_types.proofs.EachLemmas.{by_cond, each_of_all, missing}
use Rattle.tp_runs.proofs.deeds.Joined.{is_at}
use Rattle.tp_runs.proofs.basics.Folds.{fold_keeps}
use Rattle.tp_runs.proofs.deeds.Stores.{HasPlace}

deed_length : (count : ℕ) (deed : Deed) (kind : Action) (store : List ℤ) → length store ≡ count → length (with_deed_by kind store deed) ≡ count
deed_length count deed action.Read store e = e
deed_length count deed action.Write store e = length-set store deed.item.0 deed.value ∙ e

overlaid_at_length : (sc : Scenario) (at : ServerId) (count : ℕ) (deed : Deed) (store : List ℤ) → length store ≡ count → length (overlay_at sc at store deed) ≡ count
overlaid_at_length sc at count deed store e =
    by_cond (λ (xs : List ℤ). length xs ≡ count) (is_at sc at.0 deed) (λ here. deed_length count deed deed.action store e) (λ elsewhere. e)

deeds_length : (sc : Scenario) (at : ServerId) (count : ℕ) (committed : Option CommitRecord) (store : List ℤ) → length store ≡ count → length (overlay_deeds sc at store committed) ≡ count
deeds_length sc at count None store e = e
deeds_length sc at count (Some committed) store e =
    fold_keeps (λ (xs : List ℤ). length xs ≡ count) (overlay_at sc at) committed.deeds
    (each_of_all (λ (deed : Deed). (b : List ℤ) → length b ≡ count → length (overlay_at sc at b deed) ≡ count) (λ deed b k. overlaid_at_length sc at count deed b k) committed.deeds) store e

what_length : (sc : Scenario) (facts : List Fact) (count : ℕ) (w : What) (store : List ℤ) → length store ≡ count → length (overlay_what sc facts store w) ≡ count
what_length sc facts count (what.Settled at txn outcome.Commit) store e = deeds_length sc at count (commit_of txn facts) store e
what_length sc facts count _ store e = e

-- what settled commits leave has a value for each item
pub overlaid_length : (sc : Scenario) (facts : List Fact) → length (overlay sc facts) ≡ length sc.items
overlaid_length sc facts =
    fold_keeps (λ (xs : List ℤ). length xs ≡ length sc.items) (overlay_fact sc facts) facts
    (each_of_all (λ (fact : Fact). (b : List ℤ) → length b ≡ length sc.items → length (overlay_fact sc facts b fact) ≡ length sc.items)
    (λ fact b e. what_length sc facts (length sc.items) fact.what b e) facts) (opening_store sc) (length-map sc.items opening_value)

some_found_in_deeds : {A : Type 0} (found : Option A) → (found ≡ None → ⊥) → is_some found ≡ true
some_found_in_deeds None there = absurd (there refl)
some_found_in_deeds (Some x) there = refl

-- so each item has one
pub has_value : (sc : Scenario) (facts : List Fact) (n : ℕ) (item : Item) → slice_get sc.items n ≡ Some item → HasPlace (overlay sc facts) n
has_value sc facts n item found =
    some_found_in_deeds (slice_get (overlay sc facts) n) (missing (overlay sc facts) n (omega (arith, slice_get_within sc.items n item found, overlaid_length sc facts)))

pub all_length : (count : ℕ) (deeds : List Deed) (store : List ℤ) → length store ≡ count → length (with_deeds store deeds) ≡ count
all_length count [] store e = e
all_length count (deed ∷ deeds) store e = all_length count deeds (with_deed store deed) (deed_length count deed deed.action store e)

stored_length : (count : ℕ) (w : What) (store : List ℤ) → length store ≡ count → length (with_what store w) ≡ count
stored_length count (what.Decided txn (decision.Commit committed)) store e = all_length count committed.deeds store e
stored_length count _ store e = e

facts_length : (count : ℕ) (facts : List Fact) (store : List ℤ) → length store ≡ count → length (fold with_fact store facts) ≡ count
facts_length count [] store e = e
facts_length count (fact ∷ facts) store e = facts_length count facts (with_fact store fact) (stored_length count fact.what store e)

-- and so has the store
pub store_length : (sc : Scenario) (facts : List Fact) → length (store_of sc facts) ≡ length sc.items
store_length sc facts = facts_length (length sc.items) facts (opening_store sc) (length-map sc.items opening_value)
