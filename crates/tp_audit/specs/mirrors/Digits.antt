-- Numbers by their digits to the base 2^128. A digit may be negative.
use Rattle.std.specs.Prelude.{◌^◌, List, [], ◌∷◌, ℤ, pos, ◌+ℤ◌, ◌*ℤ◌}

-- the number whose lowest digits are these, and which has the rest above them
abbrev pub number_above : List ℤ → ℤ → ℤ
number_above [] rest = rest
number_above (digit ∷ digits) rest = digit +ℤ (number_above digits rest *ℤ pos (2 ^ 128))

abbrev pub number_of : List ℤ → ℤ
number_of digits = number_above digits (pos 0)
