-- What is told of each entry and of those before it, at a place and at an entry that is added; and that held locks never conflict.
use Rattle.std.proofs.Common.{◌≡◌, ◌<◌, ℕ, zero, suc, Bool, true, false, not, List, [], ◌∷◌, ◌++◌, append-nil, append_assoc, get_or, length, take, refl, ap, sym, ◌∙◌, arith}
use Rattle.std.proofs.lemmas.List.{get_or-take, length-take-le}
use Rattle.std.proofs.lemmas.List.Folds.{list_any_at}
use Rattle.std.specs.List.{list_any}
use Rattle.tp_lock.specs.declared.entry.LockEntry.{LockEntry}
use Rattle.tp_lock.specs.Order.{EachAfter, HeldDoNotConflict, IsOrderly, IsRight}
use Rattle.tp_lock.specs.Rule.{conflicts}

-- ---- tests

pub not_false : (b c : Bool) → b ≡ not c → b ≡ true → c ≡ false
not_false b true e t = cc
not_false b false e t = refl

-- ---- one more entry, and the entry at a place

pub each_push : (Told : List LockEntry → LockEntry → Type 0) (earlier entries : List LockEntry) (entry : LockEntry)
    → EachAfter Told earlier entries → Told (earlier ++ entries) entry → EachAfter Told earlier (entries ++ entry ∷ [])
each_push Told earlier [] entry each told = (rw append-nil at told, tt)
each_push Told earlier (first ∷ entries) entry each told =
    (each.0, each_push Told (earlier ++ first ∷ []) entries entry each.1 (rw append_assoc told))

pub each_at : (Told : List LockEntry → LockEntry → Type 0) (earlier entries : List LockEntry) (place : ℕ) (d : LockEntry)
    → place < length entries → EachAfter Told earlier entries → Told (earlier ++ take place entries) (get_or entries place d)
each_at Told earlier [] place d lt each = absurd (omega arith)
each_at Told earlier (first ∷ entries) zero d lt each = rw append-nil each.0
each_at Told earlier (first ∷ entries) (suc place) d lt each =
    rw (← append_assoc earlier (first ∷ []) (take place entries)) (each_at Told (earlier ++ first ∷ []) entries place d (omega arith) each.1)

-- ---- held locks

where_none : (p : LockEntry → Bool) (entries : List LockEntry) (place : ℕ) (d : LockEntry) (passes : Bool) → place < length entries
    → list_any p entries ≡ false → p (get_or entries place d) ≡ passes → passes ≡ false
where_none p entries place d true lt none at = let some = list_any_at p entries place d lt at in cc
where_none p entries place d false lt none at = refl

pub held_apart : (entries : List LockEntry) → IsOrderly entries → HeldDoNotConflict entries
held_apart entries order i j d lt within one other =
    let later : LockEntry = get_or entries j d in
    let right : IsRight (take j entries) later = each_at IsRight [] entries j d within order.right in
    let clear : list_any (conflicts later.owner later.mode) (take j entries) ≡ false = not_false later.held (list_any (conflicts later.owner later.mode) (take j entries)) right other in
    let long : length (take j entries) ≡ j = length-take-le j entries (omega arith) in
    let under : i < length (take j entries) = rw long lt in
    let here : get_or (take j entries) i d ≡ get_or entries i d = get_or-take j entries i d lt in
    ap (conflicts later.owner later.mode) (sym here)
    ∙ where_none (conflicts later.owner later.mode) (take j entries) i d (conflicts later.owner later.mode (get_or (take j entries) i d)) under clear refl
