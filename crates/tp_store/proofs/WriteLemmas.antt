-- A write more at the place of the one that is kept of its item, or at the end.
use Rattle.std.proofs.Common.{◌≡◌, ◌+◌, ℕ, suc, Bool, true, false, cond, List, [], ◌∷◌, ◌++◌, Option, Some, None, option_map, slice_get, refl, ap, ◌∙◌, arith}
use Rattle.std.proofs.lemmas.Iterator.Adapters.{position_from-zero}
use Rattle.std.specs.List.{position, position_from}
use Rattle.tp_store.specs.declared.writes.TentativeWrite.{TentativeWrite}
use Rattle.tp_store.specs.Writes.{is_on, later, with_write}
use Rattle.tp_store.specs.mirrors.Places.{renewed}

-- where a write is put, by the place of the one that is kept
abbrev pub put_at : List TentativeWrite → TentativeWrite → Option ℕ → List TentativeWrite
put_at writes new None = writes ++ new ∷ []
put_at writes new (Some at) = renewed writes at (slice_get writes at) new

-- ---- a place in a list with one more at its front

shifted_where : {A : Type 0} (p : A → Bool) (i : ℕ) (xs : List A) (here : Bool) → position_from p (suc (i + 1)) xs ≡ option_map suc (position_from p (i + 1) xs)
    → cond here (Some (suc i)) (position_from p (suc i + 1) xs) ≡ option_map suc (cond here (Some i) (position_from p (i + 1) xs))
shifted_where p i xs true rest = refl
shifted_where p i xs false rest =
    let next : suc i + 1 ≡ suc (i + 1) = omega arith in
    ap (λ n. position_from p n xs) next ∙ rest

shifted : {A : Type 0} (p : A → Bool) (i : ℕ) (xs : List A) → position_from p (suc i) xs ≡ option_map suc (position_from p i xs)
shifted p i [] = refl
shifted p i (x ∷ xs) = shifted_where p i xs (p x) (shifted p (i + 1) xs)

put_behind : (kept : TentativeWrite) (writes : List TentativeWrite) (new : TentativeWrite) (at : Option ℕ)
    → put_at (kept ∷ writes) new (option_map suc at) ≡ kept ∷ put_at writes new at
put_behind kept writes new None = refl
put_behind kept writes new (Some at) = renewed_behind kept writes new at (slice_get writes at)
  where
    renewed_behind : (kept : TentativeWrite) (writes : List TentativeWrite) (new : TentativeWrite) (at : ℕ) (found : Option TentativeWrite)
        → renewed (kept ∷ writes) (suc at) found new ≡ kept ∷ renewed writes at found new
    renewed_behind kept writes new at None = refl
    renewed_behind kept writes new at (Some other) = refl

-- ---- the place that is found

put_at_first : (kept : TentativeWrite) (writes : List TentativeWrite) (new : TentativeWrite) (here : Bool)
    → put_at writes new (position_from (is_on new.item) 0 writes) ≡ with_write writes new
    → put_at (kept ∷ writes) new (cond here (Some 0) (position_from (is_on new.item) 1 writes))
    ≡ cond here (later kept new ∷ writes) (kept ∷ with_write writes new)
put_at_first kept writes new true rest = refl
put_at_first kept writes new false rest =
    ap (put_at (kept ∷ writes) new) (shifted (is_on new.item) 0 writes)
    ∙ put_behind kept writes new (position_from (is_on new.item) 0 writes)
    ∙ ap (λ others. kept ∷ others) rest

put_from : (writes : List TentativeWrite) (new : TentativeWrite) → put_at writes new (position_from (is_on new.item) 0 writes) ≡ with_write writes new
put_from [] new = refl
put_from (kept ∷ writes) new = put_at_first kept writes new (is_on new.item kept) (put_from writes new)

pub put_where : (writes : List TentativeWrite) (new : TentativeWrite) → put_at writes new (position (is_on new.item) writes) ≡ with_write writes new
put_where writes new = ap (put_at writes new) (position_from-zero (is_on new.item) writes) ∙ put_from writes new
