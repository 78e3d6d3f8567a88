-- What a release leaves of a list, what it grants, and that it keeps the lists orderly.
use Rattle.std.proofs.Common.{◌≡◌, ℕ, suc, Bool, true, false, not, ◌&&◌, ◌||◌, cond, List, [], ◌∷◌, ◌++◌, Some, None, filter, refl, ap, sym, ◌∙◌, add-one}
use Rattle.std.proofs.lemmas.List.Elements.{All-map, All-weaker}
use Rattle.std.proofs.lemmas.List.Folds.{list_all-append, list_any-append}
use Rattle.std.specs.List.{cons_option, enumerate_from, filter_map, flat_map, list_any, zip}
use Rattle.std.proofs.lemmas.Bool.{and_parts, or_left, or_parts}
use Rattle.std.proofs.Math.Bool.{or-false}
use Rattle.tp_types.specs.declared.ids.TxnId.{TxnId}
use Rattle.tp_types.specs.declared.policy.Action.{Action}
use Rattle.tp_lock.specs.declared.entry.Grant.{Grant}
use Rattle.tp_lock.specs.declared.entry.LockEntry.{LockEntry}
use Rattle.tp_lock.specs.Laws.{AreGrown, IsUntouched, grant_between}
use Rattle.tp_lock.specs.Order.{AreOrderly, EachAfter, IsOrderly, IsRight, WaitsForYounger, all_let_wait, lets_wait}
use Rattle.tp_lock.specs.Rule.{after_release, conflicts, grant_of, grants_from, grants_in, grants_of, is_clear, is_granted, is_of, is_of_other, left_by, with_grant, with_grants_from, without_grant}
use Rattle.tp_lock.specs.Table.{Table}

-- ---- the owner

pub any_with_grant : (owner : TxnId) (earlier entries : List LockEntry) → list_any (is_of owner) (with_grants_from earlier entries) ≡ list_any (is_of owner) entries
any_with_grant owner earlier [] = refl
any_with_grant owner earlier (entry ∷ entries) = ap (λ b. is_of owner entry || b) (any_with_grant owner (earlier ++ with_grant earlier entry ∷ []) entries)

other_step : (owner : TxnId) (entry : LockEntry) (kept : List LockEntry) (own : Bool) → is_of owner entry ≡ own → list_any (is_of owner) kept ≡ false
    → list_any (is_of owner) (cond (not own) (entry ∷ kept) kept) ≡ false
other_step owner entry kept true e none = none
other_step owner entry kept false e none = ap (λ b. b || list_any (is_of owner) kept) e ∙ none

none_other : (owner : TxnId) (entries : List LockEntry) → list_any (is_of owner) (filter (is_of_other owner) entries) ≡ false
none_other owner [] = refl
none_other owner (entry ∷ entries) = other_step owner entry (filter (is_of_other owner) entries) (is_of owner entry) refl (none_other owner entries)

-- the owner has no entry left
pub owner_is_gone : (owner : TxnId) (entries : List LockEntry) → list_any (is_of owner) (left_by owner entries) ≡ false
owner_is_gone owner entries = any_with_grant owner [] (filter (is_of_other owner) entries) ∙ none_other owner entries

-- ---- others

grown : (earlier entries : List LockEntry) → AreGrown entries (with_grants_from earlier entries)
grown earlier [] = tt
grown earlier (entry ∷ entries) =
    (record { same = refl; stays = or_left entry.held (is_granted earlier entry) }, grown (earlier ++ with_grant earlier entry ∷ []) entries)

-- the entries of other owners stay, but that some are held now
pub others_stay : (owner : TxnId) (entries : List LockEntry) → AreGrown (filter (is_of_other owner) entries) (left_by owner entries)
others_stay owner entries = grown [] (filter (is_of_other owner) entries)

clear_step : (held clear : Bool) → clear ≡ true → (held || (not held && clear)) ≡ true
clear_step true clear e = refl
clear_step false clear e = e

clear_held : (earlier entries : List LockEntry) → EachAfter (λ before entry. is_clear before entry ≡ true → entry.held ≡ true) earlier (with_grants_from earlier entries)
clear_held earlier [] = tt
clear_held earlier (entry ∷ entries) = (clear_step entry.held (is_clear earlier entry), clear_held (earlier ++ with_grant earlier entry ∷ []) entries)

-- what is clear is held
pub clear_is_held : (owner : TxnId) (entries : List LockEntry) → EachAfter (λ earlier entry. is_clear earlier entry ≡ true → entry.held ≡ true) [] (left_by owner entries)
clear_is_held owner entries = clear_held [] (filter (is_of_other owner) entries)

-- ---- grants

newly : (held clear : Bool) → (not held && (held || (not held && clear))) ≡ (not held && clear)
newly true clear = refl
newly false clear = refl

one_grant : (grant : Grant) (rest : List Grant) (granted : Bool) → cond granted (grant ∷ []) [] ++ rest ≡ cons_option (cond granted (Some grant) None) rest
one_grant grant rest true = refl
one_grant grant rest false = refl

grants_between : (item : ℕ) (earlier entries : List LockEntry) → grants_from item earlier entries ≡ filter_map (grant_between item) (zip entries (with_grants_from earlier entries))
grants_between item earlier [] = refl
grants_between item earlier (entry ∷ entries) =
    let rest = filter_map (grant_between item) (zip entries (with_grants_from (earlier ++ with_grant earlier entry ∷ []) entries)) in
    ap (λ grants. cond (is_granted earlier entry) (grant_of entry.owner item ∷ []) [] ++ grants) (grants_between item (earlier ++ with_grant earlier entry ∷ []) entries)
    ∙ one_grant (grant_of entry.owner item) rest (is_granted earlier entry)
    ∙ ap (λ b. cons_option (cond b (Some (grant_of entry.owner item)) None) rest) (sym (newly entry.held (is_clear earlier entry)))

-- the grants are for the entries that waited before and are held now
pub grants_are_those : (owner : TxnId) (item : ℕ) (entries : List LockEntry)
    → grants_in owner item entries ≡ filter_map (grant_between item) (zip (filter (is_of_other owner) entries) (left_by owner entries))
grants_are_those owner item entries = grants_between item [] (filter (is_of_other owner) entries)

by_item_from : (owner : TxnId) (item : ℕ) (lists : List (List LockEntry))
    → grants_of owner item lists ≡ flat_map (λ numbered. grants_in owner numbered.0 numbered.1) (enumerate_from item lists)
by_item_from owner item [] = refl
by_item_from owner item (entries ∷ lists) = rw add-one (ap (λ grants. grants_in owner item entries ++ grants) (by_item_from owner (suc item) lists))

pub grants_go_by_item : (owner : TxnId) (table : Table)
    → (after_release owner table).grants ≡ flat_map (λ numbered. grants_in owner numbered.0 numbered.1) (enumerate_from 0 table.lists)
grants_go_by_item owner table = by_item_from owner 0 table.lists

-- ---- a list without an entry of the owner

all_other : (owner : TxnId) (entries : List LockEntry) → list_any (is_of owner) entries ≡ false → filter (is_of_other owner) entries ≡ entries
all_other owner [] none = refl
all_other owner (entry ∷ entries) none =
    let parts = or_parts (is_of owner entry) (list_any (is_of owner) entries) none in
    ap (λ b. cond (not b) (entry ∷ filter (is_of_other owner) entries) (filter (is_of_other owner) entries)) parts.0
    ∙ ap (λ rest. entry ∷ rest) (all_other owner entries parts.1)

pub not_granted : (held clear : Bool) → held ≡ clear → (not held && clear) ≡ false
not_granted true clear e = refl
not_granted false clear e = sym e

with_grant_right : (earlier : List LockEntry) (entry : LockEntry) → IsRight earlier entry → with_grant earlier entry ≡ entry
with_grant_right earlier entry right =
    ap (λ g. let new : LockEntry = record entry { held = entry.held || g } in new) (not_granted entry.held (is_clear earlier entry) right)
    ∙ ap (λ b. let new : LockEntry = record entry { held = b } in new) (or-false entry.held)

with_grant_same : (earlier entries : List LockEntry) → EachAfter IsRight earlier entries → with_grants_from earlier entries ≡ entries
with_grant_same earlier [] right = refl
with_grant_same earlier (entry ∷ entries) right =
    ap (λ e. e ∷ with_grants_from (earlier ++ e ∷ []) entries) (with_grant_right earlier entry right.0)
    ∙ ap (λ rest. entry ∷ rest) (with_grant_same (earlier ++ entry ∷ []) entries right.1)

no_grants : (item : ℕ) (earlier entries : List LockEntry) → EachAfter IsRight earlier entries → grants_from item earlier entries ≡ []
no_grants item earlier [] right = refl
no_grants item earlier (entry ∷ entries) right =
    ap (λ b. cond b (grant_of entry.owner item ∷ []) [] ++ grants_from item (earlier ++ with_grant earlier entry ∷ []) entries) (not_granted entry.held (is_clear earlier entry) right.0)
    ∙ ap (λ e. grants_from item (earlier ++ e ∷ []) entries) (with_grant_right earlier entry right.0) ∙ no_grants item (earlier ++ entry ∷ []) entries right.1

-- nothing changes there
pub untouched : (owner : TxnId) (item : ℕ) (entries : List LockEntry) → IsOrderly entries → list_any (is_of owner) entries ≡ false → IsUntouched owner item entries
untouched owner item entries order none =
    let whole : filter (is_of_other owner) entries ≡ entries = all_other owner entries none in
    record {
      stays = ap (with_grants_from []) whole ∙ with_grant_same [] entries order.right;
      no_grants = ap (grants_from item []) whole ∙ no_grants item [] entries order.right;
    }

-- ---- order

-- of what stood before an entry, this is left: where the former were clear, or let wait, so are the latter
record Stands (before left : List LockEntry) : Type 0 where
  clear : (owner : TxnId) (mode : Action) → list_any (conflicts owner mode) before ≡ false → list_any (conflicts owner mode) left ≡ false
  younger : (owner : TxnId) (age : ℕ) (mode : Action) → all_let_wait owner age mode before ≡ true → all_let_wait owner age mode left ≡ true

stands_gone : (before left : List LockEntry) (entry : LockEntry) → Stands before left → Stands (before ++ entry ∷ []) left
stands_gone before left entry stands = record {
  clear = λ owner mode none. stands.clear owner mode (or_parts (list_any (conflicts owner mode) before) (list_any (conflicts owner mode) (entry ∷ [])) (rw list_any-append at none)).0;
  younger = λ owner age mode all. stands.younger owner age mode (and_parts (all_let_wait owner age mode before) (all_let_wait owner age mode (entry ∷ [])) (rw list_all-append at all)).0;
}

stands_kept : (before left : List LockEntry) (entry : LockEntry) → Stands before left → Stands (before ++ entry ∷ []) (left ++ with_grant left entry ∷ [])
stands_kept before left entry stands = record {
  clear = λ owner mode none.
      let parts = or_parts (list_any (conflicts owner mode) before) (list_any (conflicts owner mode) (entry ∷ [])) (rw list_any-append at none) in
      list_any-append (conflicts owner mode) left (with_grant left entry ∷ [])
      ∙ ap (λ b. b || list_any (conflicts owner mode) (entry ∷ [])) (stands.clear owner mode parts.0) ∙ parts.1;
  younger = λ owner age mode all.
      let parts = and_parts (all_let_wait owner age mode before) (all_let_wait owner age mode (entry ∷ [])) (rw list_all-append at all) in
      list_all-append (lets_wait owner age mode) left (with_grant left entry ∷ [])
      ∙ ap (λ b. b && all_let_wait owner age mode (entry ∷ [])) (stands.younger owner age mode parts.0) ∙ parts.1;
}

right_where : (held before left : Bool) → held ≡ not before → (before ≡ false → left ≡ false) → (held || (not held && not left)) ≡ not left
right_where true true left e stands = cc
right_where true false left e stands = ap not (sym (stands refl))
right_where false before left e stands = refl

right_step : (before left : List LockEntry) (entry : LockEntry) → Stands before left → IsRight before entry → IsRight left (with_grant left entry)
right_step before left entry stands right =
    right_where entry.held (list_any (conflicts entry.owner entry.mode) before) (list_any (conflicts entry.owner entry.mode) left) right (stands.clear entry.owner entry.mode)

younger_step : (before left : List LockEntry) (entry : LockEntry) → Stands before left → WaitsForYounger before entry → WaitsForYounger left (with_grant left entry)
younger_step before left entry stands younger waiting =
    stands.younger entry.owner entry.age entry.mode (younger (or_parts entry.held (is_granted left entry) waiting).0)

either_way : (Told : List LockEntry → LockEntry → Type 0) (left rest : List LockEntry) (entry : LockEntry) (other : Bool)
    → Told left (with_grant left entry) × EachAfter Told (left ++ with_grant left entry ∷ []) (with_grants_from (left ++ with_grant left entry ∷ []) rest) → EachAfter Told left (with_grants_from left rest)
    → EachAfter Told left (with_grants_from left (cond other (entry ∷ rest) rest))
either_way Told left rest entry true kept gone = kept
either_way Told left rest entry false kept gone = gone

each_left : (Told : List LockEntry → LockEntry → Type 0)
    → ((before left : List LockEntry) (entry : LockEntry) → Stands before left → Told before entry → Told left (with_grant left entry))
    → (owner : TxnId) (before left entries : List LockEntry) → Stands before left → EachAfter Told before entries
    → EachAfter Told left (with_grants_from left (filter (is_of_other owner) entries))
each_left Told step owner before left [] stands each = tt
each_left Told step owner before left (entry ∷ entries) stands each =
    either_way Told left (filter (is_of_other owner) entries) entry (is_of_other owner entry) (
      step before left entry stands each.0,
      each_left Told step owner (before ++ entry ∷ []) (left ++ with_grant left entry ∷ []) entries (stands_kept before left entry stands) each.1,
    )
    (each_left Told step owner (before ++ entry ∷ []) left entries (stands_gone before left entry stands) each.1)

nothing_before : Stands [] []
nothing_before = record { clear = λ owner mode none. none; younger = λ owner age mode all. all }

-- a release keeps each list orderly
pub left_by_orderly : (owner : TxnId) (entries : List LockEntry) → IsOrderly entries → IsOrderly (left_by owner entries)
left_by_orderly owner entries order = record {
  right = each_left IsRight right_step owner [] [] entries nothing_before order.right;
  younger = each_left WaitsForYounger younger_step owner [] [] entries nothing_before order.younger;
}

-- and so the whole table
pub after_release_orderly : (owner : TxnId) (table : Table) → AreOrderly table → AreOrderly (after_release owner table)
after_release_orderly owner table order =
    All-map IsOrderly (left_by owner) table.lists (All-weaker IsOrderly (λ entries. IsOrderly (left_by owner entries)) (left_by_orderly owner) table.lists order)

-- and so is a table of which a grant is taken
pub taken_orderly : (table : Table) → AreOrderly table → AreOrderly (without_grant table)
taken_orderly table order = order
