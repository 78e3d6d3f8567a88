-- A store beside a server's values: they differ in what was committed and is not settled at the server yet.
use Rattle.std.proofs.Common.{◌≡◌, ◌⊎◌, ⊎_elim, ℕ, ◌==◌, List, [], ◌∷◌, slice_get, slice_set, Bool, true, false, Option, Some, None, is_some, if◌then◌else◌, ℤ, refl, sym, ap, ◌∙◌}
use Rattle.std.proofs.lemmas.Bool.{eqb-true}
use Rattle.tp_model.specs.Words.{Action, Deed}
use Rattle.tp_model.specs.Words.action
use Rattle.std.specs.Option.{option_or}
use Rattle.tp_model.specs.SerialRun.{with_deed, with_deeds, with_deed_by}
use Rattle.tp_types.proofs.EachLemmas.{some_value}
use Rattle.tp_runs.proofs.basics.Logs.{get_set, later_some}
use Rattle.tp_recover.proofs.LogLemmas.{first_first}
use Rattle.tp_runs.proofs.basics.Folds.{set_elsewhere}

-- ---- the last write

abbrev pub written_by : Action → ℕ → Deed → Option ℤ
written_by action.Read item deed = None
written_by action.Write item deed = if deed.item.0 == item then Some deed.value else None

-- what a deed writes to an item
abbrev pub written : ℕ → Deed → Option ℤ
written item deed = written_by deed.action item deed

-- what deeds write last to an item
abbrev pub last_write : ℕ → List Deed → Option ℤ
last_write item [] = None
last_write item (deed ∷ deeds) = option_or (last_write item deeds) (written item deed)

-- the store has the item
abbrev pub HasPlace : List ℤ → ℕ → Type 0
HasPlace store item = is_some (slice_get store item) ≡ true

set_here : (store : List ℤ) (at item : ℕ) (v : ℤ) (b : Bool) → (at == item) ≡ b → HasPlace store item → slice_get (slice_set store at v) item ≡ option_or (if b then Some v else None) (slice_get store item)
set_here store at item v true e has =
    let same : at ≡ item = eqb-true at item e in
    let old = some_value (slice_get store item) has in
    let here : slice_get store at ≡ Some old.0 = ap (slice_get store) same ∙ old.1 in
    get_set store at item old.0 v here ∙ ap (λ (c : Bool). if c then Some v else slice_get store item) e
set_here store at item v false e has = set_elsewhere store at item v e

stored_here : (a : Action) (store : List ℤ) (deed : Deed) (item : ℕ) → HasPlace store item → slice_get (with_deed_by a store deed) item ≡ option_or (written_by a item deed) (slice_get store item)
stored_here action.Read store deed item has = refl
stored_here action.Write store deed item has = set_here store deed.item.0 item deed.value (deed.item.0 == item) refl has

-- an item has the last value that was written to it, or else its old one
pub stored_last : (store : List ℤ) (deeds : List Deed) (item : ℕ) → HasPlace store item → slice_get (with_deeds store deeds) item ≡ option_or (last_write item deeds) (slice_get store item)
stored_last store [] item has = refl
stored_last store (deed ∷ deeds) item has =
    let one : slice_get (with_deed store deed) item ≡ option_or (written item deed) (slice_get store item) = stored_here deed.action store deed item has in
    let still : HasPlace (with_deed store deed) item = ap is_some one ∙ later_some (written item deed) (slice_get store item) has in
    stored_last (with_deed store deed) deeds item still
    ∙ (ap (option_or (last_write item deeds)) one ∙ sym (first_first (last_write item deeds) (written item deed) (slice_get store item)))

-- an item that is not written keeps its value
pub stored_none : (store : List ℤ) (deeds : List Deed) (item : ℕ) → HasPlace store item → last_write item deeds ≡ None → slice_get (with_deeds store deeds) item ≡ slice_get store item
stored_none store deeds item has none = stored_last store deeds item has ∙ ap (λ (new : Option ℤ). option_or new (slice_get store item)) none

-- an item that is written has the last value
pub stored_some : (store : List ℤ) (deeds : List Deed) (item : ℕ) (v : ℤ) → HasPlace store item → last_write item deeds ≡ Some v → slice_get (with_deeds store deeds) item ≡ Some v
stored_some store deeds item v has e = stored_last store deeds item has ∙ ap (λ (new : Option ℤ). option_or new (slice_get store item)) e

-- ---- the store and a server's values

-- P are the deeds of each commit that is decided and not settled at the server, and Own are the server's items: an item that such
-- a commit writes has that value in the store, and any other what the server has
pub record StoreFits (Own : ℕ → Type 0) (P : List Deed → Type 0) (values store : List ℤ) : Type 0 where
  pub covered : (item : ℕ) (deeds : List Deed) (v : ℤ) → Own item → P deeds → last_write item deeds ≡ Some v → slice_get store item ≡ Some v
  pub bare : (item : ℕ) → Own item → ((deeds : List Deed) → P deeds → last_write item deeds ≡ None) → slice_get store item ≡ slice_get values item

-- P and Q are the same commits
pub store_as : (Own : ℕ → Type 0) (P Q : List Deed → Type 0) (values store : List ℤ) → ((deeds : List Deed) → P deeds → Q deeds) → ((deeds : List Deed) → Q deeds → P deeds) → StoreFits Own P values store → StoreFits Own Q values store
store_as Own P Q values store more fewer h =
    record { covered = λ item deeds v own q e. h.covered item deeds v own (fewer deeds q) e; bare = λ item own none. h.bare item own (λ deeds p. none deeds (more deeds p)) }

-- nor where other values are the same at the server's items
pub values_as : (Own : ℕ → Type 0) (P : List Deed → Type 0) (values other store : List ℤ) → ((item : ℕ) → Own item → slice_get values item ≡ slice_get other item) → StoreFits Own P values store → StoreFits Own P other store
values_as Own P values other store same h = record { covered = h.covered; bare = λ item own none. h.bare item own none ∙ same item own }

-- Q are the deeds of P, and these
pub record Adds (P : List Deed → Type 0) (deeds : List Deed) (Q : List Deed → Type 0) : Type 0 where
  pub kept : (other : List Deed) → P other → Q other
  pub new : Q deeds
  pub among : (other : List Deed) → Q other → P other ⊎ (other ≡ deeds)

-- Q are the deeds of P without these
pub record Drops (P : List Deed → Type 0) (deeds : List Deed) (Q : List Deed → Type 0) : Type 0 where
  pub was : P deeds
  pub fewer : (other : List Deed) → Q other → P other
  pub among : (other : List Deed) → P other → Q other ⊎ (other ≡ deeds)

-- a commit is decided that writes no item which another writes that is not settled here
pub store_decides : (Own : ℕ → Type 0) (P Q : List Deed → Type 0) (deeds : List Deed) (values store : List ℤ) → ((item : ℕ) → Own item → HasPlace store item) → Adds P deeds Q
    → ((item : ℕ) (other : List Deed) (v : ℤ) → Own item → P other → last_write item other ≡ Some v → last_write item deeds ≡ None) → StoreFits Own P values store → StoreFits Own Q values (with_deeds store deeds)
store_decides Own P Q deeds values store has adds apart h =
    record {
      covered = λ item other v own q e.
          ⊎_elim (λ (old : P other). stored_none store deeds item (has item own) (apart item other v own old e) ∙ h.covered item other v own old e)
          (λ (same : other ≡ deeds). stored_some store deeds item v (has item own) (sym (ap (last_write item) same) ∙ e))
          (adds.among other q);
      bare = λ item own none. stored_none store deeds item (has item own) (none deeds adds.new) ∙ h.bare item own (λ other old. none other (adds.kept other old));
    }

-- a commit is decided that writes no item of the server
pub store_elsewhere : (Own : ℕ → Type 0) (P : List Deed → Type 0) (deeds : List Deed) (values store : List ℤ) → ((item : ℕ) → Own item → HasPlace store item) → ((item : ℕ) → Own item → last_write item deeds ≡ None)
    → StoreFits Own P values store → StoreFits Own P values (with_deeds store deeds)
store_elsewhere Own P deeds values store has none h =
    record {
      covered = λ item other v own p e. stored_none store deeds item (has item own) (none item own) ∙ h.covered item other v own p e;
      bare = λ item own bare. stored_none store deeds item (has item own) (none item own) ∙ h.bare item own bare;
    }

settled_value : (Own : ℕ → Type 0) (P Q : List Deed → Type 0) (deeds share : List Deed) (values store : List ℤ) (item : ℕ) (last : Option ℤ) → Own item → HasPlace values item → Drops P deeds Q → last_write item share ≡ last_write item deeds
    → StoreFits Own P values store → ((other : List Deed) → Q other → last_write item other ≡ None) → last_write item deeds ≡ last → slice_get store item ≡ slice_get (with_deeds values share) item
settled_value Own P Q deeds share values store item None own has drops same h none e =
    let all : (other : List Deed) → P other → last_write item other ≡ None = λ other old.
    ⊎_elim (λ (q : Q other). none other q) (λ (is : other ≡ deeds). ap (last_write item) is ∙ e) (drops.among other old) in
    h.bare item own all ∙ sym (stored_none values share item has (same ∙ e))
settled_value Own P Q deeds share values store item (Some v) own has drops same h none e =
    h.covered item deeds v own drops.was e ∙ sym (stored_some values share item v has (same ∙ e))

-- a commit is settled at the server, which applies its share of the deeds
pub store_settles : (Own : ℕ → Type 0) (P Q : List Deed → Type 0) (deeds share : List Deed) (values store : List ℤ) → ((item : ℕ) → Own item → HasPlace values item) → Drops P deeds Q
    → ((item : ℕ) → Own item → last_write item share ≡ last_write item deeds) → StoreFits Own P values store → StoreFits Own Q (with_deeds values share) store
store_settles Own P Q deeds share values store has drops same h =
    record {
      covered = λ item other v own q e. h.covered item other v own (drops.fewer other q) e;
      bare = λ item own none. settled_value Own P Q deeds share values store item (last_write item deeds) own (has item own) drops (same item own) h none refl;
    }
