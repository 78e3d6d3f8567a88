-- The first write outside its range is the one of the least query.
use Rattle.std.proofs.Common.{◌≡◌, ◌≤◌, ℕ, zero, suc, slice_get, ◌||◌, Bool, true, false, cond, leb, ltb, List, [], ◌∷◌, filter, Some, refl, ap, sym, subst, ◌∙◌, arith, MatchOption, option_map}
use Rattle.std.proofs.lemmas.Bool.{and_parts, le-leb, ltb-false, ltb-true}
use Rattle.std.specs.List.{list_all, list_any}
use Rattle.tp_model.specs.Words.{TxnId}
use Rattle.tp_store.specs.declared.writes.TentativeWrite.{TentativeWrite}
use Rattle.tp_store.specs.Contents.{Contents}
use Rattle.tp_store.specs.Laws.{IsLeastOutside, is_not_before}
use Rattle.tp_store.specs.Rule.{first_outside_in, query_and_value, writes_of}
use Rattle.tp_store.specs.Writes.{earlier, first_from, first_of, is_outside}

-- ---- those that are kept by a test

all_kept_at : {A : Type 0} (p : A → Bool) (x : A) (kept : List A) (b : Bool) → p x ≡ b → list_all p kept ≡ true → list_all p (cond b (x ∷ kept) kept) ≡ true
all_kept_at p x kept true e all = rw (e, all) refl
all_kept_at p x kept false e all = all

all_kept : {A : Type 0} (p : A → Bool) (xs : List A) → list_all p (filter p xs) ≡ true
all_kept p [] = refl
all_kept p (x ∷ xs) = all_kept_at p x (filter p xs) (p x) refl (all_kept p xs)

none_kept_at : {A : Type 0} (p : A → Bool) (x : A) (xs kept : List A) (b : Bool) → cond b (x ∷ kept) kept ≡ [] → (kept ≡ [] → list_any p xs ≡ false) → (b || list_any p xs) ≡ false
none_kept_at p x xs kept true none rest = cc
none_kept_at p x xs kept false none rest = rest none

none_kept : {A : Type 0} (p : A → Bool) (xs : List A) → filter p xs ≡ [] → list_any p xs ≡ false
none_kept p [] none = refl
none_kept p (x ∷ xs) none = none_kept_at p x xs (filter p xs) (p x) none (none_kept p xs)

-- a member of those that are kept is a member
record IsAmong (x : TentativeWrite) (xs : List TentativeWrite) : Type 0 where
  at : ℕ
  there : slice_get xs at ≡ Some x

among_at : (y x : TentativeWrite) (ys kept : List TentativeWrite) (b : Bool) (at : ℕ) → slice_get (cond b (y ∷ kept) kept) at ≡ Some x
    → ((n : ℕ) → slice_get kept n ≡ Some x → IsAmong x ys) → IsAmong x (y ∷ ys)
among_at y x ys kept true zero e rest = record { at = zero; there = e }
among_at y x ys kept true (suc at) e rest = let later = rest at e in record { at = suc later.at; there = later.there }
among_at y x ys kept false at e rest = let later = rest at e in record { at = suc later.at; there = later.there }

kept_among : (p : TentativeWrite → Bool) (x : TentativeWrite) (xs : List TentativeWrite) (at : ℕ) → slice_get (filter p xs) at ≡ Some x → IsAmong x xs
kept_among p x [] at e = cc
kept_among p x (y ∷ ys) at e = among_at y x ys (filter p ys) (p y) at e (kept_among p x ys)

-- ---- the earlier of two

-- it is one of the two, and not after either
record IsEarlier (test : TentativeWrite → Bool) (first write next : TentativeWrite) : Type 0 where
  passes : test next ≡ true
  before_first : next.query ≤ first.query
  before_write : next.query ≤ write.query

earlier_at : (test : TentativeWrite → Bool) (first write : TentativeWrite) (b : Bool) → ltb write.query first.query ≡ b → test first ≡ true → test write ≡ true
    → IsEarlier test first write (cond b write first)
earlier_at test first write true e one other = record { passes = other; before_first = omega (arith, ltb-true write.query first.query e); before_write = omega arith }
earlier_at test first write false e one other = record { passes = one; before_first = omega arith; before_write = omega (arith, ltb-false write.query first.query e) }

is_earlier : (test : TentativeWrite → Bool) (first write : TentativeWrite) → test first ≡ true → test write ≡ true → IsEarlier test first write (earlier (Some first) write)
is_earlier test first write one other = earlier_at test first write (ltb write.query first.query) refl one other

-- ---- the least of a list

one_among : (first write found : TentativeWrite) (writes : List TentativeWrite) (b : Bool) (at : ℕ) → slice_get (cond b write first ∷ writes) at ≡ Some found
    → IsAmong found (first ∷ write ∷ writes)
one_among first write found writes true zero e = record { at = suc zero; there = e }
one_among first write found writes false zero e = record { at = zero; there = e }
one_among first write found writes b (suc at) e = record { at = suc (suc at); there = e }

record IsLeast (test : TentativeWrite → Bool) (first : TentativeWrite) (writes : List TentativeWrite) : Type 0 where
  found : TentativeWrite
  found_is : first_from (Some first) writes ≡ Some found
  passes : test found ≡ true
  before_first : found.query ≤ first.query
  among : IsAmong found (first ∷ writes)
  before_all : list_all (is_not_before found.query) writes ≡ true

least : (test : TentativeWrite → Bool) (first : TentativeWrite) (writes : List TentativeWrite) → test first ≡ true → list_all test writes ≡ true → IsLeast test first writes
least test first [] one all = record { found = first; found_is = refl; passes = one; before_first = omega arith; among = record { at = zero; there = refl }; before_all = refl }
least test first (write ∷ writes) one all =
    let parts = and_parts (test write) (list_all test writes) all in
    let next = is_earlier test first write one parts.0 in
    let rest = least test (earlier (Some first) write) writes next.passes parts.1 in
    let here : leb rest.found.query write.query ≡ true = le-leb rest.found.query write.query (omega (arith, rest.before_first, next.before_write)) in
    record {
      found = rest.found;
      found_is = rest.found_is;
      passes = rest.passes;
      before_first = omega (arith, rest.before_first, next.before_first);
      among = one_among first write rest.found writes (ltb write.query first.query) rest.among.at rest.among.there;
      before_all = rw (here, rest.before_all) refl;
    }

-- ---- the store

least_where : (store : Contents) (txn : TxnId) (outside : List TentativeWrite) → filter (is_outside store.bounds) (writes_of store txn) ≡ outside
    → MatchOption (option_map query_and_value (first_of outside)) (list_any (is_outside store.bounds) (writes_of store txn) ≡ false) (IsLeastOutside store txn)
least_where store txn [] e = none_kept (is_outside store.bounds) (writes_of store txn) e
least_where store txn (first ∷ outside) e =
    let test : TentativeWrite → Bool = is_outside store.bounds in
    let all : list_all test (first ∷ outside) ≡ true = subst (λ writes. list_all test writes ≡ true) e (all_kept test (writes_of store txn)) in
    let parts = and_parts (test first) (list_all test outside) all in
    let found = least test first outside parts.0 parts.1 in
    let here : leb found.found.query first.query ≡ true = le-leb found.found.query first.query found.before_first in
    let before : list_all (is_not_before found.found.query) (filter test (writes_of store txn)) ≡ true =
    subst (λ writes. list_all (is_not_before found.found.query) writes ≡ true) (sym e) (rw (here, found.before_all) refl) in
    let there : IsAmong found.found (writes_of store txn) =
    kept_among test found.found (writes_of store txn) found.among.at (ap (λ writes. slice_get writes found.among.at) e ∙ found.among.there) in
    rw found.found_is (record { write = found.found; at = there.at; kept = there.there; query = refl; value = refl; outside = found.passes; least = before })

pub first_is_least : (store : Contents) (txn : TxnId)
    → MatchOption (first_outside_in store txn) (list_any (is_outside store.bounds) (writes_of store txn) ≡ false) (IsLeastOutside store txn)
first_is_least store txn = least_where store txn (filter (is_outside store.bounds) (writes_of store txn)) refl
