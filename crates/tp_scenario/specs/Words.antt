-- Texts of words: one or more spaces stand between two words, and none at the ends.
use Rattle.std.specs.Prelude.{ℕ, suc, ◌==◌, List, [], ◌∷◌, Bool, true, false, not, if◌then◌else◌, Option, Some, None}
use Rattle.tp_types.specs.Spelling.{is_name}

abbrev pub is_space : ℕ → Bool
is_space byte = byte == 32

abbrev pub is_no_space : ℕ → Bool
is_no_space byte = not (is_space byte)

abbrev pub is_filled : List ℕ → Bool
is_filled [] = false
is_filled (byte ∷ bytes) = true

-- a byte before the first of some words
abbrev pub with_byte : ℕ → List (List ℕ) → List (List ℕ)
with_byte byte [] = []
with_byte byte (word ∷ words) = (byte ∷ word) ∷ words

-- a space before some words: an empty word stands before it; spaces that follow one another count as one
abbrev pub with_space : List (List ℕ) → List (List ℕ)
with_space [] = []
with_space ([] ∷ []) = [] ∷ [] ∷ []
with_space ([] ∷ word ∷ words) = [] ∷ word ∷ words
with_space ((byte ∷ bytes) ∷ words) = [] ∷ (byte ∷ bytes) ∷ words

-- the words of a text. Beside a space at an end there stands an empty word, and the empty text has no other
unfoldable pub words_of : List ℕ → List (List ℕ)
words_of [] = [] ∷ []
words_of (byte ∷ bytes) =
    if is_space byte then with_space (words_of bytes) else with_byte byte (words_of bytes)

-- how many bytes stand before the first space
abbrev pub reach : List ℕ → ℕ
reach [] = 0
reach (byte ∷ bytes) = if is_space byte then 0 else suc (reach bytes)

-- what stands behind the spaces in front
abbrev pub skip_spaces : List ℕ → List ℕ
skip_spaces [] = []
skip_spaces (byte ∷ bytes) = if is_space byte then skip_spaces bytes else byte ∷ bytes

-- the word, where it is spelled as a name
abbrev pub as_name : List ℕ → Option (List ℕ)
as_name word = if is_name word then Some word else None

-- what stands behind a word: nothing, or what stands behind some spaces
abbrev pub behind_word : List ℕ → Option (List ℕ)
behind_word [] = None
behind_word (byte ∷ bytes) = Some (skip_spaces (byte ∷ bytes))

-- the words of what stands behind a word
abbrev pub words_behind : Option (List ℕ) → List (List ℕ)
words_behind None = []
words_behind (Some text) = words_of text
