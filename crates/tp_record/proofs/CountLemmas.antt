-- A count that stands before what it counts.
use Rattle.std.proofs.Common.{◌≡◌, ◌∙◌, ℕ, ◌+◌, ◌-◌, ◌≤◌, List, ◌++◌, length, take, drop, ap, sym, subst, arith}
use Rattle.std.proofs.Math.Seq.{take-append-add}
use Rattle.std.proofs.lemmas.List.{drop_at, drop-take, length-append}
use Rattle.byteorder.specs.Numbers.{length-bytes_high_first}
use Rattle.tp_record.specs.Spelling.{short}

short_length : (n : ℕ) → length (short n) ≡ 4
unfolding short
short_length n = length-bytes_high_first 4 n

pub counted_length : (n : ℕ) (content : List ℕ) → length (short n ++ content) ≡ 4 + length content
counted_length n content = omega (arith, length-append (short n) content, short_length n)

counted_sub : (n : ℕ) (content : List ℕ) → length (short n ++ content) - 4 ≡ length content
counted_sub n content = omega (arith, counted_length n content)

-- a count that is set once the content is written
pub count_set : (n : ℕ) (content : List ℕ)
    → short (length (short n ++ content) - 4) ++ drop 4 (short n ++ content) ≡ short (length content) ++ content
count_set n content =
    ap (λ (k : ℕ). short k ++ drop 4 (short n ++ content)) (counted_sub n content)
    ∙ ap (λ (rest : List ℕ). short (length content) ++ rest) (drop_at (short n) content 4 (short_length n))

count_before : (m n : ℕ) (bytes : List ℕ) → take (4 + m) (short n ++ drop 4 bytes) ≡ short n ++ drop 4 (take (4 + m) bytes)
count_before m n bytes =
    subst (λ (k : ℕ). take (k + m) (short n ++ drop 4 bytes) ≡ short n ++ take m (drop 4 bytes)) (short_length n) (take-append-add (short n) (drop 4 bytes) m)
    ∙ ap (λ (rest : List ℕ). short n ++ rest) (sym (drop-take 4 m bytes))

-- a count that is set in more bytes than were written
pub count_within : (len n : ℕ) (bytes : List ℕ) → 4 ≤ len
    → take len (short n ++ drop 4 bytes) ≡ short n ++ drop 4 (take len bytes)
count_within len n bytes long =
    let more : 4 + (len - 4) ≡ len = omega arith in
    subst (λ (k : ℕ). take k (short n ++ drop 4 bytes) ≡ short n ++ drop 4 (take k bytes)) more (count_before (len - 4) n bytes)
