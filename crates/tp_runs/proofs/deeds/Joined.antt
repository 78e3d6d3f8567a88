-- Deeds whose reads at each server are those of the server's values read from one store.
use Rattle.std.proofs.Common.{◌≡◌, ℕ, ◌==◌, List, [], ◌∷◌, filter, slice_get, Bool, true, false, cond, Option, Some, if◌then◌else◌, ℤ, refl, sym, ap, subst, ◌∙◌}
use Rattle.std.specs.Option.{option_map_or}
use Rattle.std.proofs.lemmas.Bool.{eq-eqb, eqb-false, eqb-true, ne_eqb}
use Rattle.std.proofs.lemmas.Option.{same_Some}
use Rattle.tp_model.specs.Words.{Action, Deed, Item, Scenario}
use Rattle.tp_model.specs.Words.action
use Rattle.tp_model.specs.SerialRun.{with_deed, with_deed_by}
use Rattle.tp_types.specs.Each.{Each}
use Rattle.tp_runs.proofs.basics.Folds.{same_set, set_elsewhere}
use Rattle.tp_types.proofs.EachLemmas.{each_as}
use Rattle.tp_runs.proofs.deeds.Reads.{ReadsFrom, read_as}

-- the deed is on an item of this server
abbrev pub is_at : Scenario → ℕ → Deed → Bool
is_at sc at deed = option_map_or (λ (item : Item). item.server.0 == at) (slice_get sc.items deed.item.0) false

-- the server's share of deeds
abbrev pub share_at : Scenario → ℕ → List Deed → List Deed
share_at sc at deeds = filter (is_at sc at) deeds

-- the deed's item exists, and the values of its server have there what the store has
pub record AgreesAt (sc : Scenario) (values : ℕ → List ℤ) (store : List ℤ) (deed : Deed) : Type 0 where
  pub item : Item
  pub item_is : slice_get sc.items deed.item.0 ≡ Some item
  pub same : slice_get (values item.server.0) deed.item.0 ≡ slice_get store deed.item.0

-- the values of all servers, of which one has others now
abbrev pub with_values : (ℕ → List ℤ) → ℕ → List ℤ → ℕ → List ℤ
with_values values home new at = if home == at then new else values at

-- a deed is on an item of its item's server alone
pub at_home : (sc : Scenario) (deed : Deed) (item : Item) (at : ℕ) → slice_get sc.items deed.item.0 ≡ Some item → is_at sc at deed ≡ (item.server.0 == at)
at_home sc deed item at e = ap (λ (found : Option Item). option_map_or (λ (item : Item). item.server.0 == at) found false) e

-- ---- after a deed

pub same_stored : (a : Action) (xs ys : List ℤ) (deed : Deed) (n : ℕ) → slice_get xs n ≡ slice_get ys n → slice_get (with_deed_by a xs deed) n ≡ slice_get (with_deed_by a ys deed) n
same_stored action.Read xs ys deed n e = e
same_stored action.Write xs ys deed n e = same_set xs ys deed.item.0 n deed.value e

pub other_stored : (a : Action) (xs : List ℤ) (deed : Deed) (n : ℕ) → (deed.item.0 ≡ n → ⊥) → slice_get (with_deed_by a xs deed) n ≡ slice_get xs n
other_stored action.Read xs deed n apart = refl
other_stored action.Write xs deed n apart = set_elsewhere xs deed.item.0 n deed.value (ne_eqb deed.item.0 n apart)

agrees_by : (values : ℕ → List ℤ) (store : List ℤ) (deed : Deed) (home at n : ℕ) (b : Bool) → (home == at) ≡ b → (home ≡ at → slice_get (values home) n ≡ slice_get store n) → ((home ≡ at → ⊥) → deed.item.0 ≡ n → ⊥)
    → slice_get (values at) n ≡ slice_get store n → slice_get (if b then with_deed (values home) deed else values at) n ≡ slice_get (with_deed store deed) n
agrees_by values store deed home at n true test same apart e = same_stored deed.action (values home) store deed n (same (eqb-true home at test))
agrees_by values store deed home at n false test same apart e = e ∙ sym (other_stored deed.action store deed n (apart (eqb-false home at test)))

-- what agrees with the store does so after a deed at its home
agrees_after : (sc : Scenario) (values : ℕ → List ℤ) (store : List ℤ) (deed other : Deed) (item : Item) → slice_get sc.items deed.item.0 ≡ Some item → AgreesAt sc values store other
    → AgreesAt sc (with_values values item.server.0 (with_deed (values item.server.0) deed)) (with_deed store deed) other
agrees_after sc values store deed other item is h =
    record {
      item = h.item;
      item_is = h.item_is;
      same = agrees_by values store deed item.server.0 h.item.server.0 other.item.0 (item.server.0 == h.item.server.0) refl
          (λ home. ap (λ (at : ℕ). slice_get (values at) other.item.0) home ∙ h.same)
          (λ apart one_item.
          let same_item : Some item ≡ Some h.item = sym is ∙ (ap (slice_get sc.items) one_item ∙ h.item_is) in
          apart (ap (λ (i : Item). i.server.0) (same_Some item h.item same_item)))
          h.same;
    }

at_server : (values : List ℤ) (deed : Deed) (deeds : List Deed) (b : Bool) → b ≡ true → ReadsFrom values (cond b (deed ∷ deeds) deeds) → ReadsFrom values (deed ∷ deeds)
at_server values deed deeds true e h = h
at_server values deed deeds false e h = absurd (cc)

reads_after : (values : ℕ → List ℤ) (deed : Deed) (deeds : List Deed) (home at : ℕ) (b : Bool) → (home == at) ≡ b → ReadsFrom (values at) (cond b (deed ∷ deeds) deeds)
    → ReadsFrom (if b then with_deed (values home) deed else values at) deeds
reads_after values deed deeds home at true e h = subst (λ (n : ℕ). ReadsFrom (with_deed (values n) deed) deeds) (sym (eqb-true home at e)) h.1
reads_after values deed deeds home at false e h = h

-- ---- all servers

-- reads at each server are reads of the store, where the server's values have at the deeds' items what the store has
pub joined : (sc : Scenario) (values : ℕ → List ℤ) (store : List ℤ) (deeds : List Deed) → Each (AgreesAt sc values store) deeds → ((at : ℕ) → ReadsFrom (values at) (share_at sc at deeds)) → ReadsFrom store deeds
joined sc values store [] agree reads = tt
joined sc values store (deed ∷ deeds) agree reads =
    let a = agree.0 in
    let home = a.item.server.0 in
    let new = with_values values home (with_deed (values home) deed) in
    let is_home : is_at sc home deed ≡ true = at_home sc deed a.item home a.item_is ∙ eq-eqb home home refl in
    let here : ReadsFrom (values home) (deed ∷ share_at sc home deeds) = at_server (values home) deed (share_at sc home deeds) (is_at sc home deed) is_home (reads home) in (
      read_as deed.action (values home) store deed a.same here.0,
      joined sc new (with_deed store deed) deeds
          (each_as (AgreesAt sc values store) (AgreesAt sc new (with_deed store deed)) (λ other h. agrees_after sc values store deed other a.item a.item_is h) deeds agree.1)
          (λ at. reads_after values deed (share_at sc at deeds) home at (home == at) refl
          (subst (λ (b : Bool). ReadsFrom (values at) (cond b (deed ∷ share_at sc at deeds) (share_at sc at deeds))) (at_home sc deed a.item at a.item_is) (reads at))),
    )
