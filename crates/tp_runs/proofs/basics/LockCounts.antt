-- How many locks an owner waits for, and how many of its grants nobody has taken.
use Rattle.std.specs.List.{list_any}
use Rattle.std.proofs.Common.{Bool, List, Some, [], ap, arith, drop, false, filter, if◌then◌else◌, length, map, not, refl, slice_get, slice_index_or, slice_set, subst, suc, sym, true, zero, ℕ, ◌&&◌, ◌+◌, ◌++◌, ◌<◌, ◌==◌, ◌||◌, ◌∙◌, ◌∷◌, ◌≡◌, ◌≤◌}
use Rattle.std.proofs.lemmas.Bool.{and_parts, eqb-true, ne_eqb, not-false, not-true}
use Rattle.tp_types.proofs.ListLemmas.{number_itself}
use Rattle.tp_model.specs.Words.{Action, TxnId}
use Rattle.tp_lock.specs.Rule.{answer, answer_to_new, grant_of, grants_from, grants_in, grants_of, is_clear, is_granted, is_of_other, left_by, lock_of, serves, with_answer, with_grant, with_grants_from, with_lock}
use Rattle.tp_lock.specs.declared.entry.Asked.TheVariants as asked
use Rattle.tp_lock.specs.declared.entry.Asked.{Asked}
use Rattle.tp_lock.specs.declared.entry.Grant.{Grant}
use Rattle.tp_lock.specs.declared.entry.LockEntry.{LockEntry}
use Rattle.tp_types.proofs.EachLemmas.{by_cond}
use Rattle.tp_types.specs.Each.{Each, EachAt}

-- ---- counts

abbrev pub one_if : Bool → ℕ
one_if true = 1
one_if false = 0

abbrev pub is_waiting : ℕ → LockEntry → Bool
is_waiting n lock = (lock.owner.0 == n) && not lock.held

-- how many locks of this owner wait in a list
abbrev pub waiting_in : ℕ → List LockEntry → ℕ
waiting_in n [] = 0
waiting_in n (lock ∷ entries) = one_if (is_waiting n lock) + waiting_in n entries

-- and in all lists
abbrev pub waiting_on : ℕ → List (List LockEntry) → ℕ
waiting_on n [] = 0
waiting_on n (entries ∷ lists) = waiting_in n entries + waiting_on n lists

-- how many grants are the owner's
abbrev pub granted_to : ℕ → List Grant → ℕ
granted_to n [] = 0
granted_to n (grant ∷ grants) = one_if (grant.owner.0 == n) + granted_to n grants

granted_append : (n : ℕ) (xs ys : List Grant) → granted_to n (xs ++ ys) ≡ granted_to n xs + granted_to n ys
granted_append n [] ys = omega arith
granted_append n (grant ∷ xs) ys =
    let now : granted_to n (grant ∷ xs ++ ys) ≡ one_if (grant.owner.0 == n) + granted_to n (xs ++ ys) = refl in
    omega (arith, now, granted_append n xs ys)

-- ---- a release

held_more : (own held : Bool) → held ≡ false → one_if (own && not (held || true)) + (one_if own + 0) ≡ one_if (own && not held)
held_more true false e = refl
held_more false false e = refl
held_more own true e = absurd (cc)

held_same : (own held : Bool) → one_if (own && not (held || false)) + 0 ≡ one_if (own && not held)
held_same true true = refl
held_same true false = refl
held_same false held = refl

-- a lock that becomes held is a grant
head_count : (n item : ℕ) (lock : LockEntry) (b : Bool) → (b ≡ true → lock.held ≡ false) → one_if (is_waiting n (record lock { held = lock.held || b })) + granted_to n (if b then grant_of lock.owner item ∷ [] else []) ≡ one_if (is_waiting n lock)
head_count n item lock true h = held_more (lock.owner.0 == n) lock.held (h refl)
head_count n item lock false h = held_same (lock.owner.0 == n) lock.held

granted_count : (n item : ℕ) (earlier entries : List LockEntry) → waiting_in n (with_grants_from earlier entries) + granted_to n (grants_from item earlier entries) ≡ waiting_in n entries
granted_count n item earlier [] = refl
granted_count n item earlier (entry ∷ entries) =
    let later = granted_count n item (earlier ++ with_grant earlier entry ∷ []) entries in
    let b = is_granted earlier entry in
    let first = if b then grant_of entry.owner item ∷ [] else [] in
    let rest = grants_from item (earlier ++ with_grant earlier entry ∷ []) entries in
    let here = head_count n item entry b (λ e. not-true entry.held (and_parts (not entry.held) (is_clear earlier entry) e).0) in
    let both : granted_to n (first ++ rest) ≡ granted_to n first + granted_to n rest = granted_append n first rest in
    let waits : waiting_in n (with_grants_from earlier (entry ∷ entries)) ≡ one_if (is_waiting n (with_grant earlier entry)) + waiting_in n (with_grants_from (earlier ++ with_grant earlier entry ∷ []) entries) = refl in
    omega (arith, later, here, both, waits)

filter_count : (n : ℕ) (test : LockEntry → Bool) (entries : List LockEntry) → waiting_in n (filter test entries) ≤ waiting_in n entries
filter_count n test [] = omega arith
filter_count n test (entry ∷ entries) =
    let later = filter_count n test entries in
    by_cond (λ (es : List LockEntry). waiting_in n es ≤ waiting_in n (entry ∷ entries)) (test entry)
    (λ kept. omega (arith, later)) (λ dropped. omega (arith, later))

left_count : (n item : ℕ) (owner : TxnId) (entries : List LockEntry) → waiting_in n (left_by owner entries) + granted_to n (grants_in owner item entries) ≤ waiting_in n entries
left_count n item owner entries = omega (arith, granted_count n item [] (filter (is_of_other owner) entries), filter_count n (is_of_other owner) entries)

-- what waits moves to the grants, and no more
pub release_count : (n item : ℕ) (owner : TxnId) (lists : List (List LockEntry)) → waiting_on n (map (left_by owner) lists) + granted_to n (grants_of owner item lists) ≤ waiting_on n lists
release_count n item owner [] = omega arith
release_count n item owner (entries ∷ lists) =
    let here = left_count n item owner entries in
    let later = release_count n (suc item) owner lists in
    let both : granted_to n (grants_in owner item entries ++ grants_of owner (suc item) lists) ≡ granted_to n (grants_in owner item entries) + granted_to n (grants_of owner (suc item) lists) =
    granted_append n (grants_in owner item entries) (grants_of owner (suc item) lists) in
    omega (arith, here, later, both)

-- ---- a request

waiting_append : (n : ℕ) (entries : List LockEntry) (lock : LockEntry) → waiting_in n (entries ++ lock ∷ []) ≡ waiting_in n entries + one_if (is_waiting n lock)
waiting_append n [] lock = omega arith
waiting_append n (entry ∷ entries) lock = omega (arith, waiting_append n entries lock)

held_none : (own : Bool) → one_if (own && not true) ≡ 0
held_none true = refl
held_none false = refl

waits_one : (own : Bool) → one_if (own && not false) ≡ one_if own
waits_one true = refl
waits_one false = refl

-- how many locks of this owner wait more after an answer
abbrev pub more_waiting : ℕ → TxnId → Asked → ℕ
more_waiting n owner asked.Waits = one_if (owner.0 == n)
more_waiting n owner _ = 0

added_count : (n : ℕ) (owner : TxnId) (age : ℕ) (mode : Action) (entries : List LockEntry) (given : Asked) → waiting_in n (with_answer owner age mode given entries) ≡ waiting_in n entries + more_waiting n owner given
added_count n owner age mode entries asked.Granted = omega (arith, waiting_append n entries (lock_of owner age mode true), held_none (owner.0 == n))
added_count n owner age mode entries asked.Waits = omega (arith, waiting_append n entries (lock_of owner age mode false), waits_one (owner.0 == n))
added_count n owner age mode entries (asked.Dies other) = omega arith

requested_by : (n : ℕ) (owner : TxnId) (age : ℕ) (mode : Action) (entries : List LockEntry) (given new : Asked) (served : Bool) → (if served then asked.Granted else new) ≡ given
    → waiting_in n (if served then entries else with_answer owner age mode new entries) ≤ waiting_in n entries + more_waiting n owner given
requested_by n owner age mode entries given new true e = omega arith
requested_by n owner age mode entries given new false e = subst (λ (a : Asked). waiting_in n (with_answer owner age mode new entries) ≤ waiting_in n entries + more_waiting n owner a) e (omega (arith, added_count n owner age mode entries new))

requested_count : (n : ℕ) (owner : TxnId) (age : ℕ) (mode : Action) (entries : List LockEntry) (given : Asked) → answer owner age mode entries ≡ given → waiting_in n (with_lock owner age mode entries) ≤ waiting_in n entries + more_waiting n owner given
requested_count n owner age mode entries given e = requested_by n owner age mode entries given (answer_to_new owner age mode entries) (list_any (serves owner mode) entries) e

set_count : (n place : ℕ) (lists : List (List LockEntry)) (new : List LockEntry) → waiting_on n (slice_set lists place new) + waiting_in n (slice_index_or lists place []) ≤ waiting_on n lists + waiting_in n new
set_count n place [] new = omega arith
set_count n zero (entries ∷ lists) new =
    let now : waiting_on n (slice_set (entries ∷ lists) zero new) ≡ waiting_in n new + waiting_on n lists = refl in
    let was : waiting_in n (slice_index_or (entries ∷ lists) zero []) ≡ waiting_in n entries = refl in
    omega (arith, now, was)
set_count n (suc place) (entries ∷ lists) new =
    let now : waiting_on n (slice_set (entries ∷ lists) (suc place) new) ≡ waiting_in n entries + waiting_on n (slice_set lists place new) = refl in
    let was : waiting_in n (slice_index_or (entries ∷ lists) (suc place) []) ≡ waiting_in n (slice_index_or lists place []) = refl in
    omega (arith, now, was, set_count n place lists new)

pub request_count : (n : ℕ) (owner : TxnId) (age place : ℕ) (mode : Action) (lists : List (List LockEntry)) (given : Asked) → answer owner age mode (slice_index_or lists place []) ≡ given
    → waiting_on n (slice_set lists place (with_lock owner age mode (slice_index_or lists place []))) ≤ waiting_on n lists + more_waiting n owner given
request_count n owner age place mode lists given e =
    omega (arith, set_count n place lists (with_lock owner age mode (slice_index_or lists place [])), requested_count n owner age mode (slice_index_or lists place []) given e)

-- ---- counts that stay exactly

other_none : (own held : Bool) → own ≡ false → one_if (own && not held) ≡ 0
other_none true held e = absurd (cc)
other_none false held e = refl

-- the locks of others wait as before
others_count : (n : ℕ) (owner : TxnId) (entries : List LockEntry) → (owner.0 ≡ n → ⊥) → waiting_in n (filter (is_of_other owner) entries) ≡ waiting_in n entries
others_count n owner [] apart = refl
others_count n owner (entry ∷ entries) apart =
    let later = others_count n owner entries apart in
    by_cond (λ (es : List LockEntry). waiting_in n es ≡ waiting_in n (entry ∷ entries)) (is_of_other owner entry)
    (λ kept. omega (arith, later)) (λ dropped. omega (arith, later, gone dropped))
  where
    gone : is_of_other owner entry ≡ false → one_if (is_waiting n entry) ≡ 0
    gone dropped =
        let its : entry.owner.0 ≡ owner.0 = eqb-true entry.owner.0 owner.0 (not-false (entry.owner.0 == owner.0) dropped) in
        other_none (entry.owner.0 == n) entry.held (ne_eqb entry.owner.0 n (λ same. apart (sym its ∙ same)))

left_exact : (n item : ℕ) (owner : TxnId) (entries : List LockEntry) → (owner.0 ≡ n → ⊥) → waiting_in n (left_by owner entries) + granted_to n (grants_in owner item entries) ≡ waiting_in n entries
left_exact n item owner entries apart = omega (arith, granted_count n item [] (filter (is_of_other owner) entries), others_count n owner entries apart)

-- what waits of others waits still, or moves to the grants
pub release_exact : (n item : ℕ) (owner : TxnId) (lists : List (List LockEntry)) → (owner.0 ≡ n → ⊥) → waiting_on n (map (left_by owner) lists) + granted_to n (grants_of owner item lists) ≡ waiting_on n lists
release_exact n item owner [] apart = refl
release_exact n item owner (entries ∷ lists) apart =
    let here = left_exact n item owner entries apart in
    let later = release_exact n (suc item) owner lists apart in
    let both : granted_to n (grants_in owner item entries ++ grants_of owner (suc item) lists) ≡ granted_to n (grants_in owner item entries) + granted_to n (grants_of owner (suc item) lists) =
    granted_append n (grants_in owner item entries) (grants_of owner (suc item) lists) in
    omega (arith, here, later, both)

asked_exact : (n : ℕ) (owner : TxnId) (age : ℕ) (mode : Action) (entries : List LockEntry) (given new : Asked) (served : Bool) → (if served then asked.Granted else new) ≡ given
    → waiting_in n (if served then entries else with_answer owner age mode new entries) ≡ waiting_in n entries + more_waiting n owner given
asked_exact n owner age mode entries given new true e = subst (λ (a : Asked). waiting_in n entries ≡ waiting_in n entries + more_waiting n owner a) e (omega arith)
asked_exact n owner age mode entries given new false e = subst (λ (a : Asked). waiting_in n (with_answer owner age mode new entries) ≡ waiting_in n entries + more_waiting n owner a) e (added_count n owner age mode entries new)

set_exact : (n place : ℕ) (lists : List (List LockEntry)) (new : List LockEntry) → place < length lists → waiting_on n (slice_set lists place new) + waiting_in n (slice_index_or lists place []) ≡ waiting_on n lists + waiting_in n new
set_exact n place [] new within = absurd (omega (arith, within))
set_exact n zero (entries ∷ lists) new within =
    let now : waiting_on n (slice_set (entries ∷ lists) zero new) ≡ waiting_in n new + waiting_on n lists = refl in
    let was : waiting_in n (slice_index_or (entries ∷ lists) zero []) ≡ waiting_in n entries = refl in
    omega (arith, now, was)
set_exact n (suc place) (entries ∷ lists) new within =
    let now : waiting_on n (slice_set (entries ∷ lists) (suc place) new) ≡ waiting_in n entries + waiting_on n (slice_set lists place new) = refl in
    let was : waiting_in n (slice_index_or (entries ∷ lists) (suc place) []) ≡ waiting_in n (slice_index_or lists place []) = refl in
    omega (arith, now, was, set_exact n place lists new (omega (arith, within)))

-- a request adds a lock that waits just where it is to wait
pub request_exact : (n : ℕ) (owner : TxnId) (age place : ℕ) (mode : Action) (lists : List (List LockEntry)) (given : Asked) → place < length lists → answer owner age mode (slice_index_or lists place []) ≡ given
    → waiting_on n (slice_set lists place (with_lock owner age mode (slice_index_or lists place []))) ≡ waiting_on n lists + more_waiting n owner given
request_exact n owner age place mode lists given within e =
    let entries = slice_index_or lists place [] in
    omega (arith, set_exact n place lists (with_lock owner age mode entries) within, asked_exact n owner age mode entries given (answer_to_new owner age mode entries) (list_any (serves owner mode) entries) e)

-- ---- none waits

-- each lock of the owner is held
abbrev pub IsHeldOf : ℕ → LockEntry → Type 0
IsHeldOf n lock = lock.owner.0 ≡ n → lock.held ≡ true

none_by : (own held : Bool) → (own ≡ true → held ≡ true) → one_if (own && not held) ≡ 0
none_by true true h = refl
none_by true false h = let e = h refl in absurd (cc)
none_by false held h = refl

none_in : (n : ℕ) (entries : List LockEntry) → Each (IsHeldOf n) entries → waiting_in n entries ≡ 0
none_in n [] h = refl
none_in n (lock ∷ entries) h = omega (arith, none_by (lock.owner.0 == n) lock.held (λ own. h.0 (eqb-true lock.owner.0 n own)), none_in n entries h.1)

pub none_on : (n : ℕ) (lists : List (List LockEntry)) → EachAt (λ (item : ℕ) (entries : List LockEntry). Each (IsHeldOf n) entries) lists → waiting_on n lists ≡ 0
none_on n [] h = refl
none_on n (entries ∷ lists) h = omega (arith, none_in n entries (h 0 entries refl), none_on n lists (λ item es found. h (suc item) es found))

held_by : (own held : Bool) → one_if (own && not held) ≡ 0 → own ≡ true → held ≡ true
held_by true true e f = refl
held_by true false e f = absurd (cc)
held_by false held e f = absurd (cc)

own_lock : (n : ℕ) (lock : LockEntry) → lock.owner.0 ≡ n → (lock.owner.0 == n) ≡ true
own_lock n lock e = ap (λ (m : ℕ). m == n) e ∙ number_itself n

held_in : (n : ℕ) (entries : List LockEntry) → waiting_in n entries ≡ 0 → Each (IsHeldOf n) entries
held_in n [] e = tt
held_in n (lock ∷ entries) e = (λ own. held_by (lock.owner.0 == n) lock.held (omega (arith, e)) (own_lock n lock own), held_in n entries (omega (arith, e)))

pub held_on : (n : ℕ) (lists : List (List LockEntry)) → waiting_on n lists ≡ 0 → EachAt (λ (item : ℕ) (entries : List LockEntry). Each (IsHeldOf n) entries) lists
held_on n [] e item entries found = absurd (cc)
held_on n (first ∷ lists) e zero entries found = let same : first ≡ entries = grind arith in subst (Each (IsHeldOf n)) same (held_in n first (omega (arith, e)))
held_on n (first ∷ lists) e (suc item) entries found = held_on n lists (omega (arith, e)) item entries found

-- no grant is the owner's
pub not_granted : (n : ℕ) (grants : List Grant) → granted_to n grants ≡ 0 → Each (λ (grant : Grant). grant.owner.0 ≡ n → ⊥) grants
not_granted n [] e = tt
not_granted n (grant ∷ grants) e = (λ own. let mine : (grant.owner.0 == n) ≡ true = ap (λ (m : ℕ). m == n) own ∙ number_itself n in one_is_not (grant.owner.0 == n) mine (omega (arith, e)), not_granted n grants (omega (arith, e)))
  where
    one_is_not : (own : Bool) → own ≡ true → one_if own ≡ 0 → ⊥
    one_is_not true f g = cc
    one_is_not false f g = cc

pub none_granted : (n : ℕ) (grants : List Grant) → Each (λ (grant : Grant). grant.owner.0 ≡ n → ⊥) grants → granted_to n grants ≡ 0
none_granted n [] h = refl
none_granted n (grant ∷ grants) h = omega (arith, not_one (grant.owner.0 == n) refl, none_granted n grants h.1)
  where
    not_one : (own : Bool) → (grant.owner.0 == n) ≡ own → one_if own ≡ 0
    not_one true e = absurd (h.0 (eqb-true grant.owner.0 n e))
    not_one false e = refl

pub dropped_count : (n : ℕ) (grants : List Grant) → granted_to n (drop 1 grants) ≤ granted_to n grants
dropped_count n [] = omega arith
dropped_count n (grant ∷ grants) =
    let now : granted_to n (grant ∷ grants) ≡ one_if (grant.owner.0 == n) + granted_to n grants = refl in
    omega (arith, now)

-- where the first grant is another's
pub first_of_other : (n : ℕ) (grants : List Grant) (grant : Grant) → slice_get grants 0 ≡ Some grant → (grant.owner.0 ≡ n → ⊥) → granted_to n grants ≡ granted_to n (drop 1 grants)
first_of_other n [] grant e apart = absurd (cc)
first_of_other n (first ∷ grants) grant e apart =
    let same : first ≡ grant = grind arith in
    let other : (first.owner.0 == n) ≡ false = ap (λ (g : Grant). g.owner.0 == n) same ∙ ne_eqb grant.owner.0 n apart in
    let counted : one_if (first.owner.0 == n) ≡ 0 = ap one_if other in
    let now : granted_to n (first ∷ grants) ≡ one_if (first.owner.0 == n) + granted_to n grants = refl in
    omega (arith, now, counted)

-- where the first grant is the owner's
pub first_count : (n : ℕ) (grants : List Grant) (grant : Grant) → slice_get grants 0 ≡ Some grant → grant.owner.0 ≡ n → granted_to n grants ≡ 1 + granted_to n (drop 1 grants)
first_count n [] grant e own = absurd (cc)
first_count n (first ∷ grants) grant e own =
    let same : first ≡ grant = grind arith in
    let mine : (first.owner.0 == n) ≡ true = ap (λ (g : Grant). g.owner.0 == n) same ∙ ap (λ (m : ℕ). m == n) own ∙ number_itself n in
    let counted : one_if (first.owner.0 == n) ≡ 1 = ap one_if mine in
    let now : granted_to n (first ∷ grants) ≡ one_if (first.owner.0 == n) + granted_to n grants = refl in
    omega (arith, now, counted)
