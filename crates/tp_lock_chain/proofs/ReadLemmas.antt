-- Reading a list at a place that it may not have.
use Rattle.std.proofs.Common.{◌≡◌, ℕ, zero, suc, List, [], ◌∷◌, get_or, Some, None, slice_get, refl}

pub read_none : {A : Type 0} (xs : List A) (at : ℕ) (default : A) → None ≡ slice_get xs at → get_or xs at default ≡ default
read_none [] at default none = refl
read_none (x ∷ xs) zero default none = cc
read_none (x ∷ xs) (suc at) default none = read_none xs at default none

pub read_some : {A : Type 0} (xs : List A) (at : ℕ) (default x : A) → Some x ≡ slice_get xs at → get_or xs at default ≡ x
read_some [] at default x some = cc
read_some (y ∷ xs) zero default x some = cc
read_some (y ∷ xs) (suc at) default x some = read_some xs at default x some
