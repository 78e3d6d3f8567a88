-- What is read after a write, and which write is the first outside.
use Rattle.std.proofs.Common.{◌≡◌, ◌≢◌, ◌<◌, Bool, true, false, cond, leb, eqb, List, [], ◌∷◌, find, length, Option, Some, set, refl, ap, sym, ◌∙◌, ℤ}
use Rattle.std.proofs.lemmas.Bool.{eq-eqb, eqb-true}
use Rattle.std.proofs.lemmas.List.{get_or-set_other, get_or-set_same}
use Rattle.std.proofs.lemmas.Option.{unwrap_or-slice_get}
use Rattle.std.specs.Option.{option_map_or}
use Rattle.tp_model.specs.Words.{ItemId, TxnId}
use Rattle.tp_model.specs.Ids.{same_item}
use Rattle.tp_store.specs.declared.writes.TentativeWrite.{TentativeWrite}
use Rattle.tp_store.specs.Contents.{Contents}
use Rattle.tp_store.specs.Laws.{is_last}
use Rattle.tp_store.specs.Rule.{after_write, kept_write, read_in, value_in, value_of, writes_of}
use Rattle.tp_store.specs.Writes.{is_on, later, with_write}

-- ---- one list of writes

on_itself : (write : TentativeWrite) → is_on write.item write ≡ true
on_itself write = eq-eqb write.item.0 write.item.0 refl

found_here : (new : TentativeWrite) (writes : List TentativeWrite) → find (is_on new.item) (new ∷ writes) ≡ Some new
found_here new writes = rw (on_itself new) refl

pub later_is : (kept new : TentativeWrite) → leb kept.query new.query ≡ true → later kept new ≡ new
later_is kept new is = rw is refl

last_first : (kept new : TentativeWrite) (writes : List TentativeWrite) (here : Bool) → is_on new.item kept ≡ here
    → option_map_or (λ (other : TentativeWrite). leb other.query new.query) (cond here (Some kept) (find (is_on new.item) writes)) true ≡ true
    → (option_map_or (λ (other : TentativeWrite). leb other.query new.query) (find (is_on new.item) writes) true ≡ true
    → find (is_on new.item) (with_write writes new) ≡ Some new)
    → find (is_on new.item) (cond here (later kept new ∷ writes) (kept ∷ with_write writes new)) ≡ Some new
last_first kept new writes true e is rest = rw (later_is kept new is) (found_here new writes)
last_first kept new writes false e is rest = rw e (rest is)

-- the last write of an item is the one that is found
pub last_is_found : (writes : List TentativeWrite) (new : TentativeWrite)
    → option_map_or (λ (other : TentativeWrite). leb other.query new.query) (find (is_on new.item) writes) true ≡ true
    → find (is_on new.item) (with_write writes new) ≡ Some new
last_is_found [] new is = found_here new []
last_is_found (kept ∷ writes) new is = last_first kept new writes (is_on new.item kept) refl is (last_is_found writes new)

-- ---- another item

other_later : (item : ItemId) (kept new : TentativeWrite) (b : Bool) → is_on item kept ≡ false → is_on item new ≡ false → is_on item (cond b new kept) ≡ false
other_later item kept new true one other = other
other_later item kept new false one other = one

not_on_either : (item : ItemId) (kept new : TentativeWrite) → is_on new.item kept ≡ true → is_on item new ≡ false → is_on item kept ≡ false
not_on_either item kept new same apart =
    let e : kept.item.0 ≡ new.item.0 = eqb-true kept.item.0 new.item.0 same in
    ap (λ n. eqb n item.0) e ∙ apart

other_first : (item : ItemId) (kept new : TentativeWrite) (writes : List TentativeWrite) (here : Bool) → is_on new.item kept ≡ here → is_on item new ≡ false
    → find (is_on item) (with_write writes new) ≡ find (is_on item) writes
    → find (is_on item) (cond here (later kept new ∷ writes) (kept ∷ with_write writes new)) ≡ find (is_on item) (kept ∷ writes)
other_first item kept new writes true e apart rest =
    let was : is_on item kept ≡ false = not_on_either item kept new e apart in
    let next : is_on item (later kept new) ≡ false = other_later item kept new (leb kept.query new.query) was apart in
    rw (next, was) refl
other_first item kept new writes false e apart rest = ap (λ found. cond (is_on item kept) (Some kept) found) rest

pub other_is_found : (item : ItemId) (writes : List TentativeWrite) (new : TentativeWrite) → is_on item new ≡ false
    → find (is_on item) (with_write writes new) ≡ find (is_on item) writes
other_is_found item [] new apart = rw apart refl
other_is_found item (kept ∷ writes) new apart = other_first item kept new writes (is_on new.item kept) refl apart (other_is_found item writes new apart)

-- ---- the store

pub writes_after : (store : Contents) (txn : TxnId) (write : TentativeWrite) → txn.0 < length store.tentative
    → writes_of (after_write store txn write) txn ≡ with_write (writes_of store txn) write
writes_after store txn write there =
    unwrap_or-slice_get (set store.tentative txn.0 (with_write (writes_of store txn) write)) txn.0 []
    ∙ get_or-set_same store.tentative txn.0 (with_write (writes_of store txn) write) [] there

pub own_is_read : (store : Contents) (txn : TxnId) (write : TentativeWrite) → txn.0 < length store.tentative → is_last store txn write ≡ true
    → read_in (after_write store txn write) txn write.item ≡ write.value
own_is_read store txn write there last =
    let value : Option TentativeWrite → ℤ = λ found. option_map_or value_of found (value_in store write.item) in
    ap (λ writes. value (find (is_on write.item) writes)) (writes_after store txn write there) ∙ ap value (last_is_found (writes_of store txn) write last)

pub others_are_kept : (store : Contents) (txn : TxnId) (write : TentativeWrite) (item : ItemId) → txn.0 < length store.tentative → same_item write.item item ≡ false
    → kept_write (after_write store txn write) txn item ≡ kept_write store txn item
others_are_kept store txn write item there apart =
    ap (find (is_on item)) (writes_after store txn write there) ∙ other_is_found item (writes_of store txn) write apart

pub others_stay : (store : Contents) (txn other : TxnId) (write : TentativeWrite) → other.0 ≢ txn.0 → writes_of (after_write store txn write) other ≡ writes_of store other
others_stay store txn other write apart =
    let kept : List TentativeWrite = with_write (writes_of store txn) write in
    unwrap_or-slice_get (set store.tentative txn.0 kept) other.0 []
    ∙ get_or-set_other store.tentative txn.0 other.0 kept [] apart
    ∙ sym (unwrap_or-slice_get store.tentative other.0 [])
