-- Laws of tables.
use Rattle.std.proofs.Common.{◌≡◌, ℕ, zero, suc, ◌-◌, ◌<◌, List, [], ◌∷◌, ◌++◌, length, map, replicate, slice_get, slice_set, Option, Some, None, option_map, refl, sym, ap, ap₂, ◌∙◌, arith}
use Rattle.std.proofs.lemmas.List.{length-map}
use Rattle.std.specs.Option.{option_flatten}
use Rattle.tp_model.specs.Words.{Prepared}
use Rattle.tp_places.specs.Padded.{padded}
use Rattle.tp_server.specs.Booted.{with_deeds_kept, with_prepared_kept}
use Rattle.tp_store.specs.Contents.{Contents}

-- of two writes to one place the second stays
pub set_twice : {A : Type 0} → (xs : List A) (i : ℕ) (a b : A) → slice_set (slice_set xs i a) i b ≡ slice_set xs i b
set_twice [] i a b = refl
set_twice (x ∷ xs) zero a b = refl
set_twice (x ∷ xs) (suc i) a b = ap (λ ys. x ∷ ys) (set_twice xs i a b)

-- a place that is not empty has what was written
pub written_over : {A : Type 0} (table : List (Option A)) (n : ℕ) (old : A) (v : Option A) → option_flatten (slice_get table n) ≡ Some old → option_flatten (slice_get (slice_set table n v) n) ≡ v
written_over [] n old v e = absurd (cc)
written_over (x ∷ table) zero old v e = refl
written_over (x ∷ table) (suc n) old v e = written_over table n old v e

-- to write what stands at a place of a table changes nothing
pub placed_same : {A : Type 0} (table : List (Option A)) (n : ℕ) (found : Option A) → option_flatten (slice_get table n) ≡ found → slice_set table n found ≡ table
placed_same [] n found e = refl
placed_same (x ∷ table) zero found e = ap (λ y. y ∷ table) (sym e)
placed_same (x ∷ table) (suc n) found e = ap (λ ys. x ∷ ys) (placed_same table n found e)

-- what stands at a place of a table is within it
pub placed_within : {A : Type 0} (table : List (Option A)) (n : ℕ) (x : A) → option_flatten (slice_get table n) ≡ Some x → n < length table
placed_within [] n x e = absurd (cc)
placed_within (first ∷ table) zero x e = omega arith
placed_within (first ∷ table) (suc n) x e = let later = placed_within table n x e in omega (arith, later)

-- ---- a table of which each member is seen as something else

-- what stands at a place is seen as that
pub seen_at : {A B : Type 0} (f : A → B) (table : List (Option A)) (n : ℕ) → option_flatten (slice_get (map (option_map f) table) n) ≡ option_map f (option_flatten (slice_get table n))
seen_at f [] n = refl
seen_at f (x ∷ table) zero = refl
seen_at f (x ∷ table) (suc n) = seen_at f table n

-- and so is what is put there
pub seen_put : {A B : Type 0} (f : A → B) (table : List (Option A)) (n : ℕ) (x : Option A) → map (option_map f) (slice_set table n x) ≡ slice_set (map (option_map f) table) n (option_map f x)
seen_put f [] n x = refl
seen_put f (y ∷ table) zero x = refl
seen_put {A} {B} f (y ∷ table) (suc n) x = ap (λ (ys : List (Option B)). option_map f y ∷ ys) (seen_put f table n x)

-- empty places are empty
pub seen_none : {A B : Type 0} (f : A → B) (n : ℕ) → map (option_map f) (replicate {A = Option A} n None) ≡ replicate n None
seen_none f zero = refl
seen_none {A} {B} f (suc n) = ap (λ (ys : List (Option B)). None ∷ ys) (seen_none f n)

-- ---- a table of which only the front is filled

-- the same change of each place of a front, with the empty places behind it, is one of the table
front_mapped : {A B : Type 0} (f : Option A → Option B) → f None ≡ None → (front : List (Option A)) (n : ℕ) → map f (front ++ replicate n None) ≡ map f front ++ replicate n None
front_mapped f none [] zero = refl
front_mapped f none [] (suc n) = ap₂ (λ place places. place ∷ places) none (front_mapped f none [] n)
front_mapped {A} {B} f none (place ∷ front) n = ap (λ (places : List (Option B)). f place ∷ places) (front_mapped f none front n)

pub front_seen : {A B : Type 0} (f : Option A → Option B) → f None ≡ None → (table front : List (Option A)) (seen : List (Option B)) → table ≡ front ++ replicate (length table - length front) None → seen ≡ map f front → padded seen (length table) ≡ map f table
front_seen {A} {B} f none table front seen is same =
    let many : length seen ≡ length front = ap length same ∙ length-map front f in
    ap (λ (n : ℕ). seen ++ replicate (length table - n) None) many
    ∙ ap (λ (places : List (Option B)). places ++ replicate (length table - length front) None) same
    ∙ sym (front_mapped f none front (length table - length front))
    ∙ ap (λ (places : List (Option A)). map f places) (sym is)

-- no write is kept of empty places
none_kept : (store : Contents) (n : ℕ) → with_prepared_kept store (replicate n None) ≡ store
none_kept store zero = refl
none_kept store (suc n) = none_kept store n

kept_before : (store : Contents) (front : List (Option Prepared)) (n : ℕ) → with_prepared_kept store (front ++ replicate n None) ≡ with_prepared_kept store front
kept_before store [] n = none_kept store n
kept_before store (None ∷ front) n = kept_before store front n
kept_before store (Some p ∷ front) n = kept_before (with_deeds_kept store p.txn p.deeds) front n

-- the writes that are kept are those of the front
pub front_kept : (store : Contents) (table front : List (Option Prepared)) (n : ℕ) → table ≡ front ++ replicate n None → with_prepared_kept store table ≡ with_prepared_kept store front
front_kept store table front n is = ap (with_prepared_kept store) is ∙ kept_before store front n
