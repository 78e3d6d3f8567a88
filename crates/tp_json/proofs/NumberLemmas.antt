-- A number's text with a minus and without.
use Rattle.std.proofs.Common.{◌≡◌, ℕ, ◌==◌, List, drop, get_or, true, false}
use Rattle.fast_float.specs.Text.{scan}
use Rattle.serde_json.specs.Read.{number_from, number_of}

pub with_minus : (s : List ℕ) → (get_or s 0 0 == 45) ≡ true → number_from true (scan (drop 1 s)) ≡ number_of s
unfolding number_of
with_minus s e = rw e

pub without_minus : (s : List ℕ) → (get_or s 0 0 == 45) ≡ false → number_from false (scan s) ≡ number_of s
unfolding number_of
without_minus s e = rw e
