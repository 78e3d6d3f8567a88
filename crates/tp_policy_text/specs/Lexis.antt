-- Tokens of the policy language: what they are made of, and what may stand between them.
use Rattle.std.specs.Prelude.{◌≡◌, ℕ, ◌+◌, ◌==◌, ◌&&◌, ◌||◌, List, [], ◌∷◌, ◌++◌, Bool, true, false, Option, Some, None, if◌then◌else◌}
use Rattle.tp_types.specs.Spelling.{is_name_byte}

-- space, tab, line feed or carriage return
abbrev pub is_blank : ℕ → Bool
is_blank byte = (byte == 32) || (byte == 9) || (byte == 10) || (byte == 13)

-- what is left after the blanks in front
abbrev pub skip : List ℕ → List ℕ
skip [] = []
skip (byte ∷ others) = if is_blank byte then skip others else byte ∷ others

abbrev pub first : List ℕ → Option ℕ
first [] = None
first (byte ∷ others) = Some byte

-- how often a byte stands in a text
abbrev pub count : ℕ → List ℕ → ℕ
count byte [] = 0
count byte (other ∷ others) = (if other == byte then 1 else 0) + count byte others

-- a letter, a digit or `_` comes next
abbrev pub in_word : Option ℕ → Bool
in_word None = false
in_word (Some byte) = is_name_byte byte

-- a text begins with the token, and what is left begins with the next one: the blanks after a token go with it. A token that ends with
-- a letter, a digit or `_` stands apart from any other that begins with one
pub record Token (apart : Bool) (token before left : List ℕ) : Type 0 where
  pub after : List ℕ
  pub begins : before ≡ token ++ after
  pub is_apart : (apart && in_word (first after)) ≡ false
  pub left_is : left ≡ skip after

-- a word, a name or a number
abbrev pub Word : List ℕ → List ℕ → List ℕ → Type 0
Word = Token true

-- another sign
abbrev pub Sign : List ℕ → List ℕ → List ℕ → Type 0
Sign = Token false
