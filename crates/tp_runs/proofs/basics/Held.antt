-- What an owner holds, as locks are asked for and released, and which grants a release makes.
use Rattle.std.specs.List.{All, Contains, list_any}
use Rattle.std.proofs.Common.{Bool, List, Some, [], ap, arith, false, filter, length, map, refl, slice_get, slice_index_or, slice_set, subst, suc, sym, true, zero, not, ℕ, ◌&&◌, ◌+◌, ◌<◌, ◌==◌, ◌||◌, ◌∙◌, ◌∷◌, ◌≡◌}
use Rattle.std.proofs.lemmas.List.Elements.{All-head, All-tail}
use Rattle.tp_types.proofs.ListLemmas.{number_itself}
use Rattle.tp_model.specs.Words.{Action, ItemId, TxnId}
use Rattle.tp_model.specs.Words.action
use Rattle.tp_lock.proofs.HoldsLemmas.{granted_is_held, grants_are_held, kept_by_release, kept_by_request}
use Rattle.tp_lock.specs.Laws.{Holds, IsGrantFor}
use Rattle.tp_lock.specs.Rule.{after_release, after_request, answer_at, entries_at, grants_in, grants_of, is_of_other, is_write, left_by, serves, with_lock}
use Rattle.tp_lock.specs.Table.{Table}
use Rattle.tp_lock.specs.declared.entry.Asked.TheVariants as asked
use Rattle.tp_lock.specs.declared.entry.Grant.{Grant}
use Rattle.tp_lock.specs.declared.entry.LockEntry.{LockEntry}
use Rattle.tp_types.proofs.EachLemmas.{each_append, each_as}
use Rattle.tp_types.specs.Each.{Each}

-- ---- the list of an item

set_there_in_basics : (lists : List (List LockEntry)) (place : ℕ) (new : List LockEntry) → place < length lists → slice_index_or (slice_set lists place new) place [] ≡ new
set_there_in_basics [] place new within = absurd (omega (arith, within))
set_there_in_basics (entries ∷ lists) zero new within = refl
set_there_in_basics (entries ∷ lists) (suc place) new within = set_there_in_basics lists place new (omega (arith, within))

mapped_index : (f : List LockEntry → List LockEntry) → f [] ≡ [] → (lists : List (List LockEntry)) (item : ℕ) → slice_index_or (map f lists) item [] ≡ f (slice_index_or lists item [])
mapped_index f none [] item = sym none
mapped_index f none (entries ∷ lists) zero = refl
mapped_index f none (entries ∷ lists) (suc item) = mapped_index f none lists item

left_at : (owner : TxnId) (item : ItemId) (locks : Table) → entries_at item (after_release owner locks) ≡ left_by owner (entries_at item locks)
left_at owner item locks = mapped_index (left_by owner) refl locks.lists item.0

-- ---- what is held stays held

holds_set : (holder : TxnId) (held : Action) (place item : ℕ) (lists : List (List LockEntry)) (new : List LockEntry) → (Holds holder held (slice_index_or lists place []) → Holds holder held new) → Holds holder held (slice_index_or lists item [])
    → Holds holder held (slice_index_or (slice_set lists place new) item [])
holds_set holder held place item [] new step h = h
holds_set holder held zero zero (entries ∷ lists) new step h = step h
holds_set holder held zero (suc item) (entries ∷ lists) new step h = h
holds_set holder held (suc place) zero (entries ∷ lists) new step h = h
holds_set holder held (suc place) (suc item) (entries ∷ lists) new step h = holds_set holder held place item lists new step h

pub holds_requested : (holder : TxnId) (held : Action) (at : ItemId) (owner : TxnId) (age : ℕ) (item : ItemId) (mode : Action) (locks : Table) → Holds holder held (entries_at at locks)
    → Holds holder held (entries_at at (after_request owner age item mode locks))
holds_requested holder held at owner age item mode locks h =
    holds_set holder held item.0 at.0 locks.lists (with_lock owner age mode (entries_at item locks)) (kept_by_request holder held owner age mode (entries_at item locks)) h

pub holds_granted : (owner : TxnId) (age : ℕ) (item : ItemId) (mode : Action) (locks : Table) → answer_at owner age item mode locks ≡ asked.Granted → item.0 < length locks.lists
    → Holds owner mode (entries_at item (after_request owner age item mode locks))
holds_granted owner age item mode locks e within =
    subst (Holds owner mode) (sym (set_there_in_basics locks.lists item.0 (with_lock owner age mode (entries_at item locks)) within)) (granted_is_held owner age mode (entries_at item locks) e)

pub holds_released : (holder : TxnId) (held : Action) (at : ItemId) (owner : TxnId) (locks : Table) → (holder.0 ≡ owner.0 → ⊥) → Holds holder held (entries_at at locks) → Holds holder held (entries_at at (after_release owner locks))
holds_released holder held at owner locks apart h = subst (Holds holder held) (sym (left_at owner at locks)) (kept_by_release holder held owner (entries_at at locks) apart h)

-- ---- the grants of a release

-- P holds of each element of which All tells it
each_of_all : {A : Type 0} (P : A → Type 0) (xs : List A) → All P xs → Each P xs
each_of_all P [] h = tt
each_of_all P (x ∷ xs) h = (All-head P x xs h, each_of_all P xs (All-tail P x xs h))

-- one that passes stands in the list
any_there : {A : Type 0} (test : A → Bool) (xs : List A) (k : ℕ) (x : A) → k < length xs → slice_index_or xs k x ≡ x → test x ≡ true → list_any test xs ≡ true
any_there test [] k x within is passes = absurd (omega (arith, within))
any_there test (y ∷ xs) zero x within is passes = here (ap test is ∙ passes)
  where
    here : test y ≡ true → list_any test (y ∷ xs) ≡ true
    here e = ap (λ (b : Bool). b || list_any test xs) e
any_there test (y ∷ xs) (suc k) x within is passes = or_later (test y) (any_there test xs k x (omega (arith, within)) is passes)
  where
    or_later : (b : Bool) → list_any test xs ≡ true → (b || list_any test xs) ≡ true
    or_later true e = refl
    or_later false e = e

granted_each_in_held : (P : Grant → Type 0) (owner : TxnId) (item : ℕ) (lists : List (List LockEntry)) → ((n : ℕ) (entries : List LockEntry) → slice_get lists n ≡ Some entries → Each P (grants_in owner (item + n) entries)) → Each P (grants_of owner item lists)
granted_each_in_held P owner item [] step = tt
granted_each_in_held P owner item (entries ∷ lists) step =
    let first : item + 0 ≡ item = omega arith in
    each_append P (grants_in owner item entries) (grants_of owner (suc item) lists)
    (subst (λ (m : ℕ). Each P (grants_in owner m entries)) first (step 0 entries refl))
    (granted_each_in_held P owner (suc item) lists (λ n es e. let next : item + suc n ≡ suc item + n = omega arith in subst (λ (m : ℕ). Each P (grants_in owner m es)) next (step (suc n) es e)))

-- a lock that waited at an item before the release of an owner, and that is held by its own owner after it
pub record IsGrantOf (owner : TxnId) (locks : Table) (grant : Grant) (lock : LockEntry) : Type 0 where
  pub entries : List LockEntry
  pub list_is : slice_get locks.lists grant.item.0 ≡ Some entries
  pub stood : Contains (filter (is_of_other owner) entries) lock
  pub waited : lock.held ≡ false
  pub owner_is : grant.owner ≡ lock.owner
  pub held : Holds lock.owner lock.mode (entries_at grant.item (after_release owner locks))

own_serves : (lock : LockEntry) → serves lock.owner lock.mode (record lock { held = true }) ≡ true
own_serves lock = ap2 lock.mode (number_itself lock.owner.0)
  where
    ap2 : (mode : Action) → (lock.owner.0 == lock.owner.0) ≡ true → ((lock.owner.0 == lock.owner.0) && (is_write mode || not (is_write mode))) ≡ true
    ap2 action.Read e = ap (λ (b : Bool). b && true) e
    ap2 action.Write e = ap (λ (b : Bool). b && true) e

found_index : (lists : List (List LockEntry)) (n : ℕ) (entries : List LockEntry) → slice_get lists n ≡ Some entries → slice_index_or lists n [] ≡ entries
found_index [] n entries e = absurd (cc)
found_index (first ∷ lists) zero entries e = grind arith
found_index (first ∷ lists) (suc n) entries e = found_index lists n entries e

grant_there : (owner : TxnId) (locks : Table) (n : ℕ) (entries : List LockEntry) (grant : Grant) → slice_get locks.lists n ≡ Some entries → IsGrantFor n (filter (is_of_other owner) entries) (left_by owner entries) grant
    → (lock : LockEntry) × IsGrantOf owner locks grant lock
grant_there owner locks n entries grant found h =
    let item : grant.item ≡ record { 0 = n } = ap (λ (g : Grant). g.item) h.names in
    let there : slice_index_or locks.lists n [] ≡ entries = found_index locks.lists n entries found in
    let new : entries_at (record { 0 = n }) (after_release owner locks) ≡ left_by owner entries = left_at owner (record { 0 = n }) locks ∙ ap (left_by owner) there in
    let holds : Holds h.entry.owner h.entry.mode (left_by owner entries) = any_there (serves h.entry.owner h.entry.mode) (left_by owner entries) h.stands.0 (record h.entry { held = true }) h.stands.1 h.stands.2 (own_serves h.entry) in (
      h.entry,
      record {
        entries = entries;
        list_is = subst (λ (i : ItemId). slice_get locks.lists i.0 ≡ Some entries) (sym item) found;
        stood = h.stood;
        waited = h.waited;
        owner_is = ap (λ (g : Grant). g.owner) h.names;
        held = subst (λ (i : ItemId). Holds h.entry.owner h.entry.mode (entries_at i (after_release owner locks))) (sym item) (subst (Holds h.entry.owner h.entry.mode) (sym new) holds);
      },
    )

-- each grant of a release is of a lock that waited and is held
pub released_grants : (P : Grant → Type 0) (owner : TxnId) (locks : Table) → ((grant : Grant) (lock : LockEntry) → IsGrantOf owner locks grant lock → P grant) → Each P (after_release owner locks).grants
released_grants P owner locks step =
    granted_each_in_held P owner 0 locks.lists
    (λ n entries found. let same : 0 + n ≡ n = omega arith in subst (λ (m : ℕ). Each P (grants_in owner m entries)) (sym same) (each_as (IsGrantFor n (filter (is_of_other owner) entries) (left_by owner entries)) P (λ grant h. let there = grant_there owner locks n entries grant found h in step grant there.0 there.1) (grants_in owner n entries)
    (each_of_all (IsGrantFor n (filter (is_of_other owner) entries) (left_by owner entries)) (grants_in owner n entries) (grants_are_held owner n entries))))
