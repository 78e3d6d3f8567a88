-- What one call after another took from an input, or put into an output.
use Rattle.std.proofs.Common.{◌≡◌, ℕ, ◌+◌, ◌-◌, ◌≤◌, List, [], ◌++◌, Option, length, take, drop, sym, ap, ◌∙◌, subst, arith, length-append, take-append-drop, drop-drop, take-add, drop_of_length-le}
use Rattle.std.proofs.KnownBytes.{Appends-trans, Consumes-trans}
use Rattle.std.specs.Io.KnownBytes.{Appends, Consumes}
use Rattle.tp_io.specs.Whole.{TakesAtMost}

-- what is left is what was copied to the buffer's front, and what is left after that
pub reads_on : (bytes buf left : List ℕ) (at n : ℕ) → left ≡ drop at bytes → take n buf ≡ take n left
    → left ≡ take n buf ++ drop (at + n) bytes
reads_on bytes buf left at n is_left copied =
    sym (take-append-drop n left) ∙ ap (λ front. front ++ drop n left) (sym copied)
    ∙ ap (λ rest. take n buf ++ rest) (ap (drop n) is_left ∙ drop-drop n at bytes)

-- where nothing was left, nothing is left
pub stays_empty : (bytes : List ℕ) (at n : ℕ) → length (drop at bytes) ≤ n → drop (at + n) bytes ≡ []
stays_empty bytes at n none = sym (drop-drop n at bytes) ∙ drop_of_length-le (drop at bytes) none

-- the text's front, and then some more of it
pub appends_on : (a b c : Option (List ℕ)) (text : List ℕ) (done n : ℕ) → Appends a b (take done text)
    → Appends b c (take n (drop done text)) → Appends a c (take (done + n) text)
appends_on a b c text done n first second =
    subst (Appends a c) (sym (take-add done n text)) (Appends-trans a b c _ _ first second)

-- some bytes, and then at most as many as there was room for
pub takes_on : (a b c : Option (List ℕ)) (bytes : List ℕ) (most : ℕ) → Consumes a b bytes
    → length bytes ≤ most → TakesAtMost (most - length bytes) b c → TakesAtMost most a c
takes_on a b c bytes most first within second = record {
  bytes = bytes ++ second.bytes;
  consumed = Consumes-trans a b c bytes second.bytes first second.consumed;
  limit = omega (arith, length-append bytes second.bytes, second.limit, within);
}
