-- A commit is serial where its reads at each server are those of the server's values, and it is clear of what is not settled there.
use Rattle.std.proofs.Common.{◌≡◌, ℕ, ◌==◌, ◌^◌, List, [], ◌∷◌, length, slice_get, Bool, true, false, cond, Option, Some, None, if◌then◌else◌, ℤ, refl, sym, ap, subst, ◌∙◌}
use Rattle.std.proofs.lemmas.Bool.{eqb-true, eq-eqb}
use Rattle.std.proofs.lemmas.Option.{same_Some}
use Rattle.std.specs.List.{AllByRecursion}
use Rattle.tp_model.specs.Words.{Action, Deed, Item, Scenario, Transaction}
use Rattle.tp_model.specs.Words.action
use Rattle.std.specs.Option.{option_or}
use Rattle.tp_model.proofs.RunBounds.{IsWithin}
use Rattle.tp_model.specs.SerialRun.{serial_run, with_deeds}
use Rattle.tp_model.specs.Valid.{is_valid_txn}
use Rattle.tp_types.specs.Each.{Each}
use Rattle.tp_recover.proofs.LogLemmas.{first_none}
use Rattle.tp_types.proofs.EachLemmas.{each_as}
use Rattle.tp_runs.proofs.deeds.Joined.{AgreesAt, at_home, is_at, joined, share_at}
use Rattle.tp_runs.proofs.deeds.Reads.{AreReads, IsClear, ReadsFrom, run_is}
use Rattle.tp_runs.proofs.deeds.Runs.{RunsSoFar}
use Rattle.tp_runs.proofs.deeds.Stores.{Adds, Drops, HasPlace, StoreFits, last_write, store_decides, store_elsewhere, store_settles, written, written_by}

-- ---- items of a server

-- the item is the server's
pub record IsItemAt (sc : Scenario) (at item : ℕ) : Type 0 where
  pub declared : Item
  pub declared_is : slice_get sc.items item ≡ Some declared
  pub at_is : declared.server.0 ≡ at

written_elsewhere : (a : Action) (deed : Deed) (item : ℕ) (b : Bool) → (deed.item.0 == item) ≡ b → (deed.item.0 ≡ item → ⊥) → written_by a item deed ≡ None
written_elsewhere action.Read deed item b e apart = refl
written_elsewhere action.Write deed item true e apart = absurd (apart (eqb-true deed.item.0 item e))
written_elsewhere action.Write deed item false e apart = ap (λ (c : Bool). if c then Some deed.value else None) e

share_written : (item : ℕ) (deed : Deed) (deeds share : List Deed) (b : Bool) → last_write item share ≡ last_write item deeds → (b ≡ false → written item deed ≡ None)
    → last_write item (cond b (deed ∷ share) share) ≡ option_or (last_write item deeds) (written item deed)
share_written item deed deeds share true same none = ap (λ (last : Option ℤ). option_or last (written item deed)) same
share_written item deed deeds share false same none = same ∙ (sym (first_none (last_write item deeds)) ∙ ap (option_or (last_write item deeds)) (sym (none refl)))

own_at : (sc : Scenario) (at item : ℕ) (deed : Deed) → IsItemAt sc at item → deed.item.0 ≡ item → is_at sc at deed ≡ true
own_at sc at item deed own same = at_home sc deed own.declared at (ap (slice_get sc.items) same ∙ own.declared_is) ∙ eq-eqb own.declared.server.0 at own.at_is

-- the server's share of deeds writes its items as all deeds do
pub last_write_share : (sc : Scenario) (at item : ℕ) (deeds : List Deed) → IsItemAt sc at item → last_write item (share_at sc at deeds) ≡ last_write item deeds
last_write_share sc at item [] own = refl
last_write_share sc at item (deed ∷ deeds) own =
    share_written item deed deeds (share_at sc at deeds) (is_at sc at deed) (last_write_share sc at item deeds own)
    (λ e. written_elsewhere deed.action deed item (deed.item.0 == item) refl (λ same. let here = own_at sc at item deed own same in cc))

-- ---- clear of what is not settled

-- the deed's item exists, and the deed is clear of each commit that is not settled at the item's server; P says which these are
pub record IsClearAtHome (sc : Scenario) (P : ℕ → List Deed → Type 0) (deed : Deed) : Type 0 where
  pub item : Item
  pub item_is : slice_get sc.items deed.item.0 ≡ Some item
  pub clear : (others : List Deed) → P item.server.0 others → Each (IsClear deed) others

clear_written : (a : Action) (deed other : Deed) → (deed.item.0 ≡ other.item.0 → AreReads deed.action a) → written_by a deed.item.0 other ≡ None
clear_written action.Read deed other clear = refl
clear_written action.Write deed other clear =
    written_elsewhere action.Write other deed.item.0 (other.item.0 == deed.item.0) refl (λ same. let reads : action.Write ≡ action.Read = (clear (sym same)).1 in cc)

-- what is clear of a deed does not write its item
pub clear_last : (deed : Deed) (others : List Deed) → Each (IsClear deed) others → last_write deed.item.0 others ≡ None
clear_last deed [] clear = refl
clear_last deed (other ∷ others) clear =
    ap (λ (last : Option ℤ). option_or last (written deed.item.0 other)) (clear_last deed others clear.1) ∙ clear_written other.action deed other clear.0

clear_agrees : (sc : Scenario) (P : ℕ → List Deed → Type 0) (values : ℕ → List ℤ) (store : List ℤ) (deed : Deed) → ((at : ℕ) → StoreFits (IsItemAt sc at) (P at) (values at) store) → IsClearAtHome sc P deed → AgreesAt sc values store deed
clear_agrees sc P values store deed fits h =
    let at = h.item.server.0 in
    record {
      item = h.item;
      item_is = h.item_is;
      same = sym ((fits at).bare deed.item.0 (record { declared = h.item; declared_is = h.item_is; at_is = refl }) (λ others p. clear_last deed others (h.clear others p)));
    }

-- ---- a commit

-- the deeds of a commit are those of its transaction run by itself on the store
pub commit_serial : (sc : Scenario) (txn : Transaction) (P : ℕ → List Deed → Type 0) (values : ℕ → List ℤ) (store : List ℤ) (deeds : List Deed) → is_valid_txn sc txn ≡ true → AllByRecursion (IsWithin (10 ^ 15)) store
    → RunsSoFar txn deeds → length deeds ≡ length txn.queries → ((at : ℕ) → ReadsFrom (values at) (share_at sc at deeds)) → ((at : ℕ) → StoreFits (IsItemAt sc at) (P at) (values at) store) → Each (IsClearAtHome sc P) deeds
    → deeds ≡ serial_run txn store
commit_serial sc txn P values store deeds valid within runs all reads fits clear =
    run_is sc txn store deeds valid within runs all
    (joined sc values store deeds (each_as (IsClearAtHome sc P) (AgreesAt sc values store) (λ deed h. clear_agrees sc P values store deed fits h) deeds clear) reads)

clear_unwritten : (sc : Scenario) (P : ℕ → List Deed → Type 0) (at item : ℕ) (others : List Deed) (v : ℤ) (deed : Deed) → IsItemAt sc at item → P at others → last_write item others ≡ Some v → IsClearAtHome sc P deed → written item deed ≡ None
clear_unwritten sc P at item others v deed own p e h =
    written_elsewhere deed.action deed item (deed.item.0 == item) refl
    (λ same.
    let same_item : Some h.item ≡ Some own.declared = sym h.item_is ∙ (ap (slice_get sc.items) same ∙ own.declared_is) in
    let home : at ≡ h.item.server.0 = sym own.at_is ∙ sym (ap (λ (i : Item). i.server.0) (same_Some h.item own.declared same_item)) in
    let none : last_write deed.item.0 others ≡ None = clear_last deed others (h.clear others (subst (λ (n : ℕ). P n others) home p)) in
    let last : last_write deed.item.0 others ≡ Some v = ap (λ (n : ℕ). last_write n others) same ∙ e in
    cc)

-- no two of them write the same item
pub clear_apart : (sc : Scenario) (P : ℕ → List Deed → Type 0) (at item : ℕ) (others : List Deed) (v : ℤ) (deeds : List Deed) → IsItemAt sc at item → P at others → last_write item others ≡ Some v → Each (IsClearAtHome sc P) deeds
    → last_write item deeds ≡ None
clear_apart sc P at item others v [] own p e h = refl
clear_apart sc P at item others v (deed ∷ deeds) own p e h =
    ap (λ (last : Option ℤ). option_or last (written item deed)) (clear_apart sc P at item others v deeds own p e h.1) ∙ clear_unwritten sc P at item others v deed own p e h.0

-- the store after the commit fits each server's values; Q says which commits are not settled after it
pub commit_store : (sc : Scenario) (P Q : ℕ → List Deed → Type 0) (values : ℕ → List ℤ) (store : List ℤ) (deeds : List Deed) (at : ℕ) → ((item : ℕ) → IsItemAt sc at item → HasPlace store item) → Adds (P at) deeds (Q at) → Each (IsClearAtHome sc P) deeds
    → StoreFits (IsItemAt sc at) (P at) (values at) store → StoreFits (IsItemAt sc at) (Q at) (values at) (with_deeds store deeds)
commit_store sc P Q values store deeds at has adds clear fits =
    store_decides (IsItemAt sc at) (P at) (Q at) deeds (values at) store has adds (λ item others v own p e. clear_apart sc P at item others v deeds own p e clear) fits

-- nor does it change what fits at a server without a share of it
pub commit_elsewhere : (sc : Scenario) (P : List Deed → Type 0) (values store : List ℤ) (deeds : List Deed) (at : ℕ) → ((item : ℕ) → IsItemAt sc at item → HasPlace store item) → share_at sc at deeds ≡ []
    → StoreFits (IsItemAt sc at) P values store → StoreFits (IsItemAt sc at) P values (with_deeds store deeds)
commit_elsewhere sc P values store deeds at has none fits =
    store_elsewhere (IsItemAt sc at) P deeds values store has (λ item own. sym (last_write_share sc at item deeds own) ∙ ap (last_write item) none) fits

-- the values of a server that settles a commit, and applies its share, fit the store as before; Q says which commits are not settled after it
pub settle_store : (sc : Scenario) (P Q : List Deed → Type 0) (values store : List ℤ) (deeds : List Deed) (at : ℕ) → ((item : ℕ) → IsItemAt sc at item → HasPlace values item) → Drops P deeds Q
    → StoreFits (IsItemAt sc at) P values store → StoreFits (IsItemAt sc at) Q (with_deeds values (share_at sc at deeds)) store
settle_store sc P Q values store deeds at has drops fits =
    store_settles (IsItemAt sc at) P Q deeds (share_at sc at deeds) values store has drops (λ item own. last_write_share sc at item deeds own) fits
