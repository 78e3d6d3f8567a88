-- Applying one write more is setting its item after the others.
use Rattle.std.proofs.Common.{◌≡◌, ◌≢◌, not, Bool, true, false, cond, leb, List, [], ◌∷◌, find, Some, set, refl, ap, sym, ◌∙◌, ℤ}
use Rattle.std.proofs.lemmas.Bool.{and_parts, eq-eqb, eqb-true, not-true, or_parts}
use Rattle.std.proofs.lemmas.List.{set-set, set_comm}
use Rattle.std.specs.List.{list_any}
use Rattle.tp_store.proofs.LawLemmas.{later_is}
use Rattle.tp_model.specs.Words.{ItemId}
use Rattle.tp_store.specs.declared.writes.TentativeWrite.{TentativeWrite}
use Rattle.tp_store.specs.Laws.{are_apart, is_last_of}
use Rattle.tp_store.specs.Writes.{is_on, later, values_after, with_write}

not_itself : (item : ItemId) (write : TentativeWrite) → is_on item write ≡ false → item.0 ≢ write.item.0
not_itself item write apart same =
    let yes : is_on item write ≡ true = eq-eqb write.item.0 item.0 (sym same) in
    cc (yes, apart)

-- what is set first of an item that is not written stays to the end
set_first : (values : List ℤ) (item : ItemId) (value : ℤ) (writes : List TentativeWrite) → list_any (is_on item) writes ≡ false
    → values_after (set values item.0 value) writes ≡ set (values_after values writes) item.0 value
set_first values item value [] apart = refl
set_first values item value (write ∷ writes) apart =
    let parts = or_parts (is_on item write) (list_any (is_on item) writes) apart in
    ap (λ vs. values_after vs writes) (set_comm values item.0 write.item.0 value write.value (not_itself item write parts.0))
    ∙ set_first (set values write.item.0 write.value) item value writes parts.1

set_at_first : (values : List ℤ) (kept new : TentativeWrite) (writes : List TentativeWrite) (here : Bool) → is_on new.item kept ≡ here
    → is_last_of new (cond here (Some kept) (find (is_on new.item) writes)) ≡ true → list_any (is_on kept.item) writes ≡ false
    → (is_last_of new (find (is_on new.item) writes) ≡ true
    → values_after (set values kept.item.0 kept.value) (with_write writes new) ≡ set (values_after (set values kept.item.0 kept.value) writes) new.item.0 new.value)
    → values_after values (cond here (later kept new ∷ writes) (kept ∷ with_write writes new)) ≡ set (values_after (set values kept.item.0 kept.value) writes) new.item.0 new.value
set_at_first values kept new writes true e is apart rest =
    let same : kept.item.0 ≡ new.item.0 = eqb-true kept.item.0 new.item.0 e in
    let absent : list_any (is_on new.item) writes ≡ false = ap (λ n. list_any (is_on (record { 0 = n })) writes) (sym same) ∙ apart in
    ap (λ write. values_after values (write ∷ writes)) (later_is kept new is)
    ∙ set_first values new.item new.value writes absent
    ∙ sym (set-set (values_after values writes) new.item.0 kept.value new.value)
    ∙ ap (λ n. set (set (values_after values writes) n kept.value) new.item.0 new.value) (sym same)
    ∙ ap (λ vs. set vs new.item.0 new.value) (sym (set_first values kept.item kept.value writes apart))
set_at_first values kept new writes false e is apart rest = rest is

pub set_after : (values : List ℤ) (writes : List TentativeWrite) (new : TentativeWrite) → are_apart writes ≡ true → is_last_of new (find (is_on new.item) writes) ≡ true
    → values_after values (with_write writes new) ≡ set (values_after values writes) new.item.0 new.value
set_after values [] new apart is = refl
set_after values (kept ∷ writes) new apart is =
    let parts = and_parts (not (list_any (is_on kept.item) writes)) (are_apart writes) apart in
    set_at_first values kept new writes (is_on new.item kept) refl is (not-true (list_any (is_on kept.item) writes) parts.0)
    (λ last. set_after (set values kept.item.0 kept.value) writes new parts.1 last)

-- ---- at most one write of an item

absent_with_at : (item : ItemId) (kept new : TentativeWrite) (writes : List TentativeWrite) (here : Bool) → is_on new.item kept ≡ here → is_on item new ≡ false
    → is_on item kept ≡ false → list_any (is_on item) writes ≡ false → list_any (is_on item) (with_write writes new) ≡ false
    → list_any (is_on item) (cond here (later kept new ∷ writes) (kept ∷ with_write writes new)) ≡ false
absent_with_at item kept new writes true e not_new not_kept absent rest = one_of (leb kept.query new.query)
  where
    one_of : (b : Bool) → list_any (is_on item) (cond b new kept ∷ writes) ≡ false
    one_of true = rw (not_new, absent) refl
    one_of false = rw (not_kept, absent) refl
absent_with_at item kept new writes false e not_new not_kept absent rest = rw (not_kept, rest) refl

absent_with : (item : ItemId) (writes : List TentativeWrite) (new : TentativeWrite) → is_on item new ≡ false → list_any (is_on item) writes ≡ false
    → list_any (is_on item) (with_write writes new) ≡ false
absent_with item [] new not_new absent = rw not_new refl
absent_with item (kept ∷ writes) new not_new absent =
    let parts = or_parts (is_on item kept) (list_any (is_on item) writes) absent in
    absent_with_at item kept new writes (is_on new.item kept) refl not_new parts.0 parts.1 (absent_with item writes new not_new parts.1)

other_way_at : (one other : TentativeWrite) (b : Bool) → is_on one.item other ≡ b → is_on other.item one ≡ false → b ≡ false
other_way_at one other true e apart =
    let same : other.item.0 ≡ one.item.0 = eqb-true other.item.0 one.item.0 e in
    let yes : is_on other.item one ≡ true = eq-eqb one.item.0 other.item.0 (sym same) in
    cc (yes, apart)
other_way_at one other false e apart = refl

other_way : (one other : TentativeWrite) → is_on other.item one ≡ false → is_on one.item other ≡ false
other_way one other apart = other_way_at one other (is_on one.item other) refl apart

apart_with_at : (kept new : TentativeWrite) (writes : List TentativeWrite) (here : Bool) → is_on new.item kept ≡ here → list_any (is_on kept.item) writes ≡ false
    → are_apart writes ≡ true → are_apart (with_write writes new) ≡ true → are_apart (cond here (later kept new ∷ writes) (kept ∷ with_write writes new)) ≡ true
apart_with_at kept new writes true e absent apart rest = one_of (leb kept.query new.query)
  where
    same : kept.item.0 ≡ new.item.0
    same = eqb-true kept.item.0 new.item.0 e

    also : list_any (is_on new.item) writes ≡ false
    also = ap (λ n. list_any (is_on (record { 0 = n })) writes) (sym same) ∙ absent

    one_of : (b : Bool) → are_apart (cond b new kept ∷ writes) ≡ true
    one_of true = rw (also, apart) refl
    one_of false = rw (absent, apart) refl
apart_with_at kept new writes false e absent apart rest =
    let still : list_any (is_on kept.item) (with_write writes new) ≡ false = absent_with kept.item writes new (other_way kept new e) absent in
    rw (still, rest) refl

pub apart_with : (writes : List TentativeWrite) (new : TentativeWrite) → are_apart writes ≡ true → are_apart (with_write writes new) ≡ true
apart_with [] new apart = refl
apart_with (kept ∷ writes) new apart =
    let parts = and_parts (not (list_any (is_on kept.item) writes)) (are_apart writes) apart in
    apart_with_at kept new writes (is_on new.item kept) refl (not-true (list_any (is_on kept.item) writes) parts.0) parts.1 (apart_with writes new parts.1)
