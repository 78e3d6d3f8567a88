-- Who is granted a lock holds one that serves, and keeps it until its own release.
use Rattle.std.proofs.Common.{◌≡◌, ℕ, Bool, true, false, not, ◌&&◌, ◌||◌, cond, List, [], ◌∷◌, ◌++◌, filter, refl, ap, sym, ◌∙◌, arith}
use Rattle.std.proofs.lemmas.Bool.{and_parts, eq-eqb, eqb-true, or_left, or_right}
use Rattle.std.proofs.lemmas.List.Folds.{list_any-append}
use Rattle.std.proofs.lemmas.List.Elements.{All-append, All-cons, All-nil, All-weaker, Contains-append_right}
use Rattle.std.proofs.lemmas.Map.Views.{any-filter_same}
use Rattle.std.specs.List.{All, Contains, list_any}
use Rattle.tp_types.specs.declared.ids.TxnId.{TxnId}
use Rattle.tp_types.specs.declared.policy.Action.{Action}
use Rattle.tp_types.specs.declared.policy.Action.TheVariants.{Read, Write}
use Rattle.tp_lock.specs.declared.entry.Asked.{Asked}
use Rattle.tp_lock.specs.declared.entry.Asked.TheVariants.{Granted, Waits, Dies}
use Rattle.tp_lock.specs.declared.entry.Grant.{Grant}
use Rattle.tp_lock.specs.declared.entry.LockEntry.{LockEntry}
use Rattle.tp_lock.specs.Laws.{IsGrantFor}
use Rattle.tp_lock.specs.Rule.{answer, answer_to_new, grant_of, grants_from, grants_in, is_clear, is_granted, is_of, is_of_other, is_write, left_by, lock_of, serves, with_answer, with_grant, with_grants_from, with_lock}

-- ---- tests

either : (b c d e : Bool) → (b ≡ true → d ≡ true) → (c ≡ true → e ≡ true) → (b || c) ≡ true → (d || e) ≡ true
either true c d e left right h = or_left d e (left refl)
either false c d e left right h = or_right d e (right h)

held_more : (held granted serving : Bool) → (held && serving) ≡ true → ((held || granted) && serving) ≡ true
held_more true granted serving e = e
held_more false granted serving e = cc

-- ---- a request

mode_serves : (mode : Action) → (is_write mode || not (is_write mode)) ≡ true
mode_serves Read = refl
mode_serves Write = refl

-- a lock that is held serves its own owner in its own mode
lock_serves : (owner : TxnId) (age : ℕ) (mode : Action) → serves owner mode (lock_of owner age mode true) ≡ true
lock_serves owner age mode =
    let same : is_of owner (lock_of owner age mode true) ≡ true = eq-eqb owner.0 owner.0 refl in
    ap (λ b. b && (is_write mode || not (is_write mode))) same ∙ mode_serves mode

pushed_serves : (owner : TxnId) (mode : Action) (entries : List LockEntry) (entry : LockEntry) → serves owner mode entry ≡ true
    → list_any (serves owner mode) (entries ++ entry ∷ []) ≡ true
pushed_serves owner mode entries entry e =
    list_any-append (serves owner mode) entries (entry ∷ [])
    ∙ or_right (list_any (serves owner mode) entries) (serves owner mode entry || false) (or_left (serves owner mode entry) false e)

granted_where : (owner : TxnId) (age : ℕ) (mode : Action) (entries : List LockEntry) (served : Bool) (asked : Asked) → list_any (serves owner mode) entries ≡ served
    → cond served Granted asked ≡ Granted → list_any (serves owner mode) (cond served entries (with_answer owner age mode asked entries)) ≡ true
granted_where owner age mode entries true asked e granted = e
granted_where owner age mode entries false Granted e granted = pushed_serves owner mode entries (lock_of owner age mode true) (lock_serves owner age mode)
granted_where owner age mode entries false Waits e granted = cc
granted_where owner age mode entries false (Dies other) e granted = cc

-- who is granted a lock holds one that serves
pub granted_is_held : (owner : TxnId) (age : ℕ) (mode : Action) (entries : List LockEntry) → answer owner age mode entries ≡ Granted
    → list_any (serves owner mode) (with_lock owner age mode entries) ≡ true
granted_is_held owner age mode entries =
    granted_where owner age mode entries (list_any (serves owner mode) entries) (answer_to_new owner age mode entries) refl

kept_push : (holder : TxnId) (held : Action) (entries : List LockEntry) (entry : LockEntry) → list_any (serves holder held) entries ≡ true
    → list_any (serves holder held) (entries ++ entry ∷ []) ≡ true
kept_push holder held entries entry e =
    list_any-append (serves holder held) entries (entry ∷ []) ∙ or_left (list_any (serves holder held) entries) (list_any (serves holder held) (entry ∷ [])) e

kept_with_answer : (holder : TxnId) (held : Action) (owner : TxnId) (age : ℕ) (mode : Action) (asked : Asked) (entries : List LockEntry)
    → list_any (serves holder held) entries ≡ true → list_any (serves holder held) (with_answer owner age mode asked entries) ≡ true
kept_with_answer holder held owner age mode Granted entries e = kept_push holder held entries (lock_of owner age mode true) e
kept_with_answer holder held owner age mode Waits entries e = kept_push holder held entries (lock_of owner age mode false) e
kept_with_answer holder held owner age mode (Dies other) entries e = e

kept_where : (holder : TxnId) (held : Action) (owner : TxnId) (age : ℕ) (mode : Action) (asked : Asked) (entries : List LockEntry) (served : Bool)
    → list_any (serves holder held) entries ≡ true → list_any (serves holder held) (cond served entries (with_answer owner age mode asked entries)) ≡ true
kept_where holder held owner age mode asked entries true e = e
kept_where holder held owner age mode asked entries false e = kept_with_answer holder held owner age mode asked entries e

-- and keeps it through every request
pub kept_by_request : (holder : TxnId) (held : Action) (owner : TxnId) (age : ℕ) (mode : Action) (entries : List LockEntry)
    → list_any (serves holder held) entries ≡ true → list_any (serves holder held) (with_lock owner age mode entries) ≡ true
kept_by_request holder held owner age mode entries =
    kept_where holder held owner age mode (answer_to_new owner age mode entries) entries (list_any (serves owner mode) entries)

-- ---- a release

kept_with_grant : (holder : TxnId) (held : Action) (earlier entries : List LockEntry) → list_any (serves holder held) entries ≡ true
    → list_any (serves holder held) (with_grants_from earlier entries) ≡ true
kept_with_grant holder held earlier [] e = e
kept_with_grant holder held earlier (entry ∷ entries) e =
    either (serves holder held entry) (list_any (serves holder held) entries) (serves holder held (with_grant earlier entry))
    (list_any (serves holder held) (with_grants_from (earlier ++ with_grant earlier entry ∷ []) entries))
    (held_more entry.held (is_granted earlier entry) (is_of holder entry && (is_write entry.mode || not (is_write held))))
    (kept_with_grant holder held (earlier ++ with_grant earlier entry ∷ []) entries) e

other_where : (holder owner : TxnId) (entry : LockEntry) (own : Bool) → is_of owner entry ≡ own → (holder.0 ≡ owner.0 → ⊥) → is_of holder entry ≡ true → not own ≡ true
other_where holder owner entry true own apart of = absurd (apart (sym (eqb-true entry.owner.0 holder.0 of) ∙ eqb-true entry.owner.0 owner.0 own))
other_where holder owner entry false own apart of = refl

-- and through the releases of others
pub kept_by_release : (holder : TxnId) (held : Action) (owner : TxnId) (entries : List LockEntry) → (holder.0 ≡ owner.0 → ⊥)
    → list_any (serves holder held) entries ≡ true → list_any (serves holder held) (left_by owner entries) ≡ true
kept_by_release holder held owner entries apart e =
    kept_with_grant holder held [] (filter (is_of_other owner) entries)
    (any-filter_same (serves holder held) (is_of_other owner) true
    (λ entry serving. other_where holder owner entry (is_of owner entry) refl apart
    (and_parts (is_of holder entry) (is_write entry.mode || not (is_write held)) (and_parts entry.held (is_of holder entry && (is_write entry.mode || not (is_write held))) serving).1).0)
    entries ∙ e)

-- ---- a grant

contains_next : (entries : List LockEntry) (first entry : LockEntry) → Contains entries entry → Contains (first ∷ entries) entry
contains_next entries first entry has = Contains-append_right (first ∷ []) entries entry has

grant_next : (item : ℕ) (old new : List LockEntry) (first grown : LockEntry) (grant : Grant) → IsGrantFor item old new grant → IsGrantFor item (first ∷ old) (grown ∷ new) grant
grant_next item old new first grown grant is = record {
  entry = is.entry;
  waited = is.waited;
  stood = contains_next old first is.entry is.stood;
  stands = contains_next new grown (record is.entry { held = true }) is.stands;
  names = is.names;
}

waits_where : (held clear : Bool) → (not held && clear) ≡ true → held ≡ false
waits_where true clear e = cc
waits_where false clear e = refl

grant_here : (item : ℕ) (earlier entries : List LockEntry) (entry : LockEntry) (granted : Bool) → is_granted earlier entry ≡ granted
    → All (IsGrantFor item (entry ∷ entries) (with_grants_from earlier (entry ∷ entries))) (cond granted (grant_of entry.owner item ∷ []) [])
grant_here item earlier entries entry true e =
    let P : Grant → Type 0 = IsGrantFor item (entry ∷ entries) (with_grants_from earlier (entry ∷ entries)) in
    let grown : with_grant earlier entry ≡ record entry { held = true } = ap (λ b. let new : LockEntry = record entry { held = b } in new) (or_right entry.held (is_granted earlier entry) e) in
    let is : P (grant_of entry.owner item) = record {
      entry = entry;
      waited = waits_where entry.held (is_clear earlier entry) e;
      stood = (0, omega arith, refl);
      stands = (0, omega arith, grown);
      names = refl;
    } in
    All-cons P (grant_of entry.owner item) [] is (All-nil P)
grant_here item earlier entries entry false e = All-nil (IsGrantFor item (entry ∷ entries) (with_grants_from earlier (entry ∷ entries)))

grants_stand : (item : ℕ) (earlier entries : List LockEntry) → All (IsGrantFor item entries (with_grants_from earlier entries)) (grants_from item earlier entries)
grants_stand item earlier [] = All-nil (IsGrantFor item [] [])
grants_stand item earlier (entry ∷ entries) =
    let before : List LockEntry = earlier ++ with_grant earlier entry ∷ [] in
    let P : Grant → Type 0 = IsGrantFor item (entry ∷ entries) (with_grants_from earlier (entry ∷ entries)) in
    let Q : Grant → Type 0 = IsGrantFor item entries (with_grants_from before entries) in
    All-append P (cond (is_granted earlier entry) (grant_of entry.owner item ∷ []) []) (grants_from item before entries)
    (grant_here item earlier entries entry (is_granted earlier entry) refl)
    (All-weaker Q P (grant_next item entries (with_grants_from before entries) entry (with_grant earlier entry)) (grants_from item before entries) (grants_stand item before entries))

-- each grant is for an entry that waited and is held now
pub grants_are_held : (owner : TxnId) (item : ℕ) (entries : List LockEntry)
    → All (IsGrantFor item (filter (is_of_other owner) entries) (left_by owner entries)) (grants_in owner item entries)
grants_are_held owner item entries = grants_stand item [] (filter (is_of_other owner) entries)
