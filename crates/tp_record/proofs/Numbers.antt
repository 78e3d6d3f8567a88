-- Numbers: what is read is spelled so, and what is spelled so is read.
use Rattle.std.proofs.Common.{◌≡◌, ℕ, zero, suc, ◌+◌, ◌*◌, ◌/◌, ◌^◌, ◌<◌, ◌≤◌, List, [], ◌∷◌, ◌++◌, length, take, drop, Some, None, refl, sym, ap, subst, ◌∙◌, arith, true, false, cond}
use Rattle.std.specs.Prelude.{nat_lt, Bool}
use Rattle.std.specs.Int.{bytes_high_first}
use Rattle.std.proofs.Math.Nat.{mod-lt}
use Rattle.std.proofs.lemmas.Bool.{ltb-false, le-ltb}
use Rattle.std.proofs.lemmas.List.{take_at, drop_at, take-append-drop, length-append, length-take, append-nil}
use Rattle.std.proofs.lemmas.Nat.{same_from_place}
use Rattle.byteorder.specs.Endian.{big_from, big_number, big_bytes}
use Rattle.byteorder.specs.Numbers.{big_from-cons, big_number-reads_back, big_from-lt, length-bytes_high_first}
use Rattle.tp_record.specs.mirrors.Readings.{number_at}
use Rattle.tp_record.proofs.Exact.{AreBytes, AreBytes-at, AreBytes-take}

bytes_are : (n x : ℕ) → AreBytes (bytes_high_first n x)
bytes_are zero x = tt
bytes_are (suc zero) x = (mod-lt x (omega arith), tt)
bytes_are (suc (suc n)) x = (mod-lt (x / 256 ^ suc n) (omega arith), bytes_are (suc n) x)

-- as many bytes of one value are the same
same_value : (n : ℕ) (xs ys : List ℕ) → length xs ≡ n → length ys ≡ n → AreBytes xs → AreBytes ys → big_from 0 n xs ≡ big_from 0 n ys → xs ≡ ys
same_value zero [] [] lx ly hx hy e = refl
same_value zero [] (b ∷ ys) lx ly hx hy e = absurd (omega arith)
same_value zero (a ∷ xs) ys lx ly hx hy e = absurd (omega arith)
same_value (suc n) [] ys lx ly hx hy e = absurd (omega arith)
same_value (suc n) (a ∷ xs) [] lx ly hx hy e = absurd (omega arith)
same_value (suc n) (a ∷ xs) (b ∷ ys) lx ly hx hy e =
    let left : big_from 0 (suc n) (a ∷ xs) ≡ a * 256 ^ n + big_from 0 n xs = ap (λ (r : ℕ). a * 256 ^ n + r) (big_from-cons 0 n a xs) in
    let right : big_from 0 (suc n) (b ∷ ys) ≡ b * 256 ^ n + big_from 0 n ys = ap (λ (r : ℕ). b * 256 ^ n + r) (big_from-cons 0 n b ys) in
    let same = same_from_place a (big_from 0 n xs) b (big_from 0 n ys) (256 ^ n) (big_from-lt 0 n xs (AreBytes-at xs hx.1)) (big_from-lt 0 n ys (AreBytes-at ys hy.1)) (sym left ∙ e ∙ right) in
    λ i. same.0 i ∷ same_value n xs ys (omega arith) (omega arith) hx.1 hy.1 same.1 i

-- the bytes of the number in n bytes are these bytes
again_bytes : (n : ℕ) (xs : List ℕ) → length xs ≡ n → AreBytes xs → big_bytes n (big_number n xs) ≡ xs
again_bytes n xs len fits =
    let x = big_number n xs in
    let small : x < 256 ^ n = big_from-lt 0 n xs (AreBytes-at xs fits) in
    let back : big_from 0 n (bytes_high_first n x) ≡ x = ap (big_from 0 n) (sym (append-nil (bytes_high_first n x))) ∙ big_number-reads_back n x [] small in
    same_value n (bytes_high_first n x) xs (length-bytes_high_first n x) len (bytes_are n x) fits back

guarded : {A : Type 0} (b : Bool) (x y : A) → cond b None (Some x) ≡ Some y → (b ≡ false) × (x ≡ y)
guarded true x y e = absurd cc
guarded false x y e = (refl, cc)

pub number_takes : (n : ℕ) (bytes : List ℕ) (x : ℕ) (rest : List ℕ) → AreBytes bytes → number_at n bytes ≡ Some (x, rest) → (bytes ≡ big_bytes n x ++ rest) × (x < 256 ^ n)
number_takes n bytes x rest fits e =
    let g = guarded (nat_lt (length bytes) n) (big_number n (take n bytes), drop n bytes) (x, rest) e in
    let enough : n ≤ length bytes = ltb-false _ _ g.0 in
    let len : length (take n bytes) ≡ n = omega (arith, length-take n bytes) in
    let x-is : big_number n (take n bytes) ≡ x = ap (λ (p : ℕ × List ℕ). p.0) g.1 in
    let rest-is : drop n bytes ≡ rest = ap (λ (p : ℕ × List ℕ). p.1) g.1 in
    let front : big_bytes n x ≡ take n bytes = ap (big_bytes n) (sym x-is) ∙ again_bytes n (take n bytes) len (AreBytes-take n bytes fits) in
    let small : big_number n (take n bytes) < 256 ^ n = big_from-lt 0 n (take n bytes) (AreBytes-at (take n bytes) (AreBytes-take n bytes fits)) in
    (sym (take-append-drop n bytes) ∙ (λ i. sym front i ++ rest-is i), subst (λ (y : ℕ). y < 256 ^ n) x-is small)

pub number_again : (n x : ℕ) (rest : List ℕ) → x < 256 ^ n → number_at n (big_bytes n x ++ rest) ≡ Some (x, rest)
number_again n x rest small =
    let len = length-bytes_high_first n x in
    let enough : nat_lt (length (big_bytes n x ++ rest)) n ≡ false = le-ltb _ _ (omega (arith, length-append (big_bytes n x) rest, len)) in
    let back : big_from 0 n (bytes_high_first n x) ≡ x = ap (big_from 0 n) (sym (append-nil (bytes_high_first n x))) ∙ big_number-reads_back n x [] small in
    rw (enough, take_at (big_bytes n x) rest n len, drop_at (big_bytes n x) rest n len, back) refl
