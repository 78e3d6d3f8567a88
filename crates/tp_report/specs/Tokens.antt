-- A text as tokens: words, each with the byte that ends it.
use Rattle.std.specs.Prelude.{ℕ, List, [], ◌∷◌, ◌++◌}
use Rattle.std.specs.List.{flat_map}

-- a word, and the byte behind it
pub record Token : Type 0 where
  pub word : List ℕ
  pub ending : ℕ

-- a space ends the word
abbrev pub word : List ℕ → Token
word bytes = record { word = bytes; ending = 32 }

-- a newline ends the word, and the line
abbrev pub last_word : List ℕ → Token
last_word bytes = record { word = bytes; ending = 10 }

-- a comma ends the word
abbrev pub word_before_comma : List ℕ → Token
word_before_comma bytes = record { word = bytes; ending = 44 }

-- the word with its ending
abbrev pub token_text : Token → List ℕ
token_text token = token.word ++ token.ending ∷ []

-- the words one after the other
abbrev pub text_of : List Token → List ℕ
text_of tokens = flat_map token_text tokens
