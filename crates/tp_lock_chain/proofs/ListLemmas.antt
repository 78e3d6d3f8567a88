-- Lists of entries, and sums over the lists of items.
use Rattle.std.proofs.Common.{◌≡◌, ◌≢◌, ◌<◌, ◌≤◌, ◌+◌, not, ℕ, zero, suc, Bool, true, false, cond, List, [], ◌∷◌, ◌++◌, length, filter, map, refl, sym, ap, ap₂, subst, ◌∙◌, inl, inr, arith, append_assoc, add-one}
use Rattle.std.proofs.lemmas.Bool.{cases_eq, or_parts}
use Rattle.std.proofs.lemmas.List.{append-nil}
use Rattle.std.proofs.lemmas.List.FromFn.{length-map-range_with_len, map-range_with_len_more, sum_by-map-range_with_len_more}
use Rattle.std.proofs.lemmas.List.Sums.{sum_by-cons}
use Rattle.std.specs.List.{list_any, range_with_len, sum_by}
use Rattle.tp_types.specs.declared.ids.TxnId.{TxnId}
use Rattle.tp_lock.specs.Rule as rule
use Rattle.tp_lock.specs.declared.entry.Grant.{Grant}
use Rattle.tp_lock.specs.declared.entry.LockEntry.{LockEntry}
use Rattle.tp_lock_chain.specs.Cost.{owned, shared}

-- ---- the entries of an owner

pub all_other : (owner : TxnId) (entries : List LockEntry) → list_any (rule.is_of owner) entries ≡ false → filter (rule.is_of_other owner) entries ≡ entries
all_other owner [] none = refl
all_other owner (entry ∷ entries) none =
    let parts = or_parts (rule.is_of owner entry) (list_any (rule.is_of owner) entries) none in
    ap (λ b. cond (not b) (entry ∷ filter (rule.is_of_other owner) entries) (filter (rule.is_of_other owner) entries)) parts.0
    ∙ ap (λ rest. entry ∷ rest) (all_other owner entries parts.1)

pub filter_skips : (owner : TxnId) (entry : LockEntry) (xs ys : List LockEntry) → rule.is_of owner entry ≡ true
    → filter (rule.is_of_other owner) (xs ++ entry ∷ ys) ≡ filter (rule.is_of_other owner) (xs ++ ys)
filter_skips owner entry [] ys own = ap (λ b. cond (not b) (entry ∷ filter (rule.is_of_other owner) ys) (filter (rule.is_of_other owner) ys)) own
filter_skips owner entry (x ∷ xs) ys own = ap (λ rest. cond (rule.is_of_other owner x) (x ∷ rest) rest) (filter_skips owner entry xs ys own)

abbrev one_if : Bool → ℕ
one_if b = cond b 1 0

one_if_so : (b : Bool) → b ≡ true → one_if b ≡ 1
one_if_so b so = ap one_if so

owned_cons : (owner : TxnId) (entry : LockEntry) (entries : List LockEntry) → owned owner (entry ∷ entries) ≡ one_if (rule.is_of owner entry) + owned owner entries
owned_cons owner entry entries = sum_by-cons (λ e. cond (rule.is_of owner e) 1 0) entry entries

pub owned_less : (owner : TxnId) (entry : LockEntry) (xs ys : List LockEntry) → rule.is_of owner entry ≡ true → owned owner (xs ++ entry ∷ ys) ≡ suc (owned owner (xs ++ ys))
owned_less owner entry [] ys own =
    let one = one_if_so (rule.is_of owner entry) own in
    let whole = owned_cons owner entry ys in
    omega arith
owned_less owner entry (x ∷ xs) ys own =
    let whole = owned_cons owner x (xs ++ entry ∷ ys) in
    let part = owned_cons owner x (xs ++ ys) in
    let rest = owned_less owner entry xs ys own in
    omega arith

pub owned_granted : (owner : TxnId) (earlier entries : List LockEntry) → owned owner (rule.with_grants_from earlier entries) ≡ owned owner entries
owned_granted owner earlier [] = refl
owned_granted owner earlier (entry ∷ entries) =
    let new = rule.with_grants_from (earlier ++ rule.with_grant earlier entry ∷ []) entries in
    owned_cons owner (rule.with_grant earlier entry) new
    ∙ ap (λ n. one_if (rule.is_of owner entry) + n) (owned_granted owner (earlier ++ rule.with_grant earlier entry ∷ []) entries) ∙ sym (owned_cons owner entry entries)

pub shared_none : (owner : TxnId) (entries : List LockEntry) → list_any (rule.is_of owner) entries ≡ false → shared owner entries ≡ 0
shared_none owner entries none = ap (λ b. cond b (length entries) 0) none

pub shared_some : (owner : TxnId) (entries : List LockEntry) → list_any (rule.is_of owner) entries ≡ true → shared owner entries ≡ length entries
shared_some owner entries some = ap (λ b. cond b (length entries) 0) some

-- ---- sums up to an item

abbrev pub sum_upto : ℕ → (ℕ → ℕ) → ℕ
sum_upto zero f = 0
sum_upto (suc n) f = sum_upto n f + f n

pub sum_is : {X : Type 0} (g : X → ℕ) (f : ℕ → X) (n : ℕ) → sum_by g (map f (range_with_len 0 n)) ≡ sum_upto n (λ at. g (f at))
sum_is g f zero = refl
sum_is g f (suc n) =
    ap (λ m. sum_by g (map f (range_with_len 0 m))) (sym (add-one n)) ∙ sum_by-map-range_with_len_more g f 0 n n (omega arith) ∙ ap (λ m. m + g (f n)) (sum_is g f n)

pub sum_same : (n : ℕ) (f g : ℕ → ℕ) → ((at : ℕ) → at < n → g at ≡ f at) → sum_upto n g ≡ sum_upto n f
sum_same zero f g same = refl
sum_same (suc n) f g same = ap₂ (λ (a b : ℕ). a + b) (sum_same n f g (λ at lt. same at (omega arith))) (same n (omega arith))

at_below : (at n : ℕ) → at < suc n → (n ≡ at → ⊥) → at < n
at_below at n lt ne = omega (arith, ne)

at_below' : (n m : ℕ) → n ≤ suc m → (n ≡ suc m → ⊥) → n ≤ m
at_below' n m le ne = omega (arith, ne)

-- one is less by one
pub sum_less : (n at : ℕ) (f g : ℕ → ℕ) → at < n → f at ≡ suc (g at) → ((other : ℕ) → other < n → other ≢ at → g other ≡ f other) → sum_upto n f ≡ suc (sum_upto n g)
sum_less zero at f g lt less same = absurd (omega arith)
sum_less (suc n) at f g lt less same = elim (cases_eq n at) [
  | inl here ↦
      let rest = sum_same n f g (λ other lt'. same other (omega arith) (λ is. let clash : n < n = subst (λ (m : ℕ). m < n) (is ∙ sym here) lt' in omega arith)) in
      let last : f n ≡ suc (g n) = ap f here ∙ less ∙ ap (λ m. suc (g m)) (sym here) in
      omega arith
  | inr ne ↦
      let below : at < n = at_below at n lt ne in
      let rest = sum_less n at f g below less (λ other lt'. same other (omega arith)) in
      let last : g n ≡ f n = same n (omega arith) ne in
      omega arith
]

pub sum_grows : (n m : ℕ) (f : ℕ → ℕ) → n ≤ m → sum_upto n f ≤ sum_upto m f
sum_grows n zero f le = let zero_is : n ≡ 0 = omega arith in subst (λ (k : ℕ). sum_upto k f ≤ 0) (sym zero_is) (omega arith)
sum_grows n (suc m) f le = elim (cases_eq n (suc m)) [
  | inl same ↦ subst (λ (k : ℕ). sum_upto k f ≤ sum_upto (suc m) f) (sym same) (omega arith)
  | inr ne ↦ let rest = sum_grows n m f (at_below' n m le ne) in omega arith
]

-- nothing is added where nothing is
pub sum_stays : (n more : ℕ) (f : ℕ → ℕ) → ((at : ℕ) → n ≤ at → at < n + more → f at ≡ 0) → sum_upto (n + more) f ≡ sum_upto n f
sum_stays n zero f none = ap (λ m. sum_upto m f) (let same : n + 0 ≡ n = omega arith in same)
sum_stays n (suc more) f none =
    let next : n + suc more ≡ suc (n + more) = omega arith in
    let rest = sum_stays n more f (λ at le lt. none at le (omega arith)) in
    let last : f (n + more) ≡ 0 = none (n + more) (omega arith) (omega arith) in
    ap (λ m. sum_upto m f) next ∙ (let sum : sum_upto (n + more) f + f (n + more) ≡ sum_upto n f = omega arith in sum)

-- ---- grants up to an item

abbrev pub grants_upto : TxnId → ℕ → (ℕ → List LockEntry) → List Grant
grants_upto owner zero lists = []
grants_upto owner (suc n) lists = grants_upto owner n lists ++ rule.grants_in owner n (lists n)

grants_append : (owner : TxnId) (item : ℕ) (xs ys : List (List LockEntry)) → rule.grants_of owner item (xs ++ ys) ≡ rule.grants_of owner item xs ++ rule.grants_of owner (item + length xs) ys
grants_append owner item [] ys = ap (λ n. rule.grants_of owner n ys) (let same : item ≡ item + 0 = omega arith in same)
grants_append owner item (x ∷ xs) ys =
    ap (λ gs. rule.grants_in owner item x ++ gs)
    (grants_append owner (suc item) xs ys ∙ ap (λ n. rule.grants_of owner (suc item) xs ++ rule.grants_of owner n ys) (let same : suc item + length xs ≡ item + suc (length xs) = omega arith in same))
    ∙ sym (append_assoc (rule.grants_in owner item x) (rule.grants_of owner (suc item) xs) (rule.grants_of owner (item + suc (length xs)) ys))

pub grants_are : (owner : TxnId) (n : ℕ) (lists : ℕ → List LockEntry) → grants_upto owner n lists ≡ rule.grants_of owner 0 (map lists (range_with_len 0 n))
grants_are owner zero lists = refl
grants_are owner (suc n) lists =
    let front = map lists (range_with_len 0 n) in
    let whole : map lists (range_with_len 0 (suc n)) ≡ front ++ lists n ∷ [] =
    ap (λ m. map lists (range_with_len 0 m)) (sym (add-one n)) ∙ map-range_with_len_more lists 0 n n (omega arith) in
    let place : 0 + length front ≡ n = let len = length-map-range_with_len lists 0 n in omega arith in
    ap (λ gs. gs ++ rule.grants_in owner n (lists n)) (grants_are owner n lists)
    ∙ ap (λ gs. rule.grants_of owner 0 front ++ gs) (sym (append-nil (rule.grants_in owner n (lists n))))
    ∙ ap (λ m. rule.grants_of owner 0 front ++ rule.grants_of owner m (lists n ∷ [])) (sym place)
    ∙ sym (grants_append owner 0 front (lists n ∷ [])) ∙ ap (rule.grants_of owner 0) (sym whole)

pub grants_stay : (owner : TxnId) (n more : ℕ) (lists : ℕ → List LockEntry) → ((at : ℕ) → n ≤ at → at < n + more → rule.grants_in owner at (lists at) ≡ [])
    → grants_upto owner (n + more) lists ≡ grants_upto owner n lists
grants_stay owner n zero lists none = ap (λ m. grants_upto owner m lists) (let same : n + 0 ≡ n = omega arith in same)
grants_stay owner n (suc more) lists none =
    ap (λ m. grants_upto owner m lists) (let next : n + suc more ≡ suc (n + more) = omega arith in next)
    ∙ ap₂ (λ (a b : List Grant). a ++ b) (grants_stay owner n more lists (λ at le lt. none at le (omega arith))) (none (n + more) (omega arith) (omega arith))
    ∙ append-nil (grants_upto owner n lists)

-- ---- lists of items

pub lists_same : {X : Type 0} (n : ℕ) (f g : ℕ → X) → ((at : ℕ) → at < n → g at ≡ f at) → map g (range_with_len 0 n) ≡ map f (range_with_len 0 n)
lists_same zero f g same = refl
lists_same (suc n) f g same =
    ap (λ m. map g (range_with_len 0 m)) (sym (add-one n)) ∙ map-range_with_len_more g 0 n n (omega arith)
    ∙ ap₂ (λ xs x. xs ++ x ∷ []) (lists_same n f g (λ at lt. same at (omega arith))) (same n (omega arith))
    ∙ sym (map-range_with_len_more f 0 n n (omega arith)) ∙ ap (λ m. map f (range_with_len 0 m)) (add-one n)

pub map_twice : {X Y Z : Type 0} (g : Y → Z) (f : X → Y) (xs : List X) → map g (map f xs) ≡ map (λ x. g (f x)) xs
map_twice g f [] = refl
map_twice g f (x ∷ xs) = ap (λ rest. g (f x) ∷ rest) (map_twice g f xs)
