-- The words of a text, taken one by one.
use Rattle.std.proofs.Common.{◌≡◌, inl, inr, ℕ, suc, Bool, true, false, List, [], ◌∷◌, take, drop, refl, sym, ap, ◌∙◌, if◌then◌else◌}
use Rattle.std.proofs.lemmas.Bool.{cases_Bool}
use Rattle.tp_model.specs.Limits.{is_empty}
use Rattle.tp_scenario.specs.Words.{behind_word, is_space, reach, skip_spaces, with_byte, with_space, words_behind, words_of}

-- the first word, and the others
pub record HasFirst (words : List (List ℕ)) : Type 0 where
  pub word : List ℕ
  pub others : List (List ℕ)
  pub parts : words ≡ word ∷ others

-- there is a first word always
spaced_first : (words : List (List ℕ)) → HasFirst words → HasFirst (with_space words)
spaced_first [] h = absurd (cc (h.parts))
spaced_first ([] ∷ []) h = record { word = []; others = [] ∷ []; parts = refl }
spaced_first ([] ∷ word ∷ words) h = record { word = []; others = word ∷ words; parts = refl }
spaced_first ((byte ∷ bytes) ∷ words) h = record { word = []; others = (byte ∷ bytes) ∷ words; parts = refl }

pub has_first : (text : List ℕ) → HasFirst (words_of text)
unfolding words_of
has_first [] = record { word = []; others = []; parts = refl }
has_first (byte ∷ bytes) = by_space (is_space byte) (has_first bytes)
  where
    by_space : (b : Bool) → HasFirst (words_of bytes) → HasFirst (if b then with_space (words_of bytes) else with_byte byte (words_of bytes))
    by_space true h = spaced_first (words_of bytes) h
    by_space false h = record { word = byte ∷ h.word; others = h.others; parts = ap (with_byte byte) h.parts }

-- a space in front
pub space_words : (byte : ℕ) (bytes : List ℕ) → is_space byte ≡ true → words_of (byte ∷ bytes) ≡ with_space (words_of bytes)
unfolding words_of
space_words byte bytes here = ap (λ (b : Bool). if b then with_space (words_of bytes) else with_byte byte (words_of bytes)) here

pub byte_words : (byte : ℕ) (bytes : List ℕ) → is_space byte ≡ false → words_of (byte ∷ bytes) ≡ with_byte byte (words_of bytes)
unfolding words_of
byte_words byte bytes here = ap (λ (b : Bool). if b then with_space (words_of bytes) else with_byte byte (words_of bytes)) here

pub no_words : words_of [] ≡ [] ∷ []
unfolding words_of
no_words = refl

-- a space more before one makes no difference
spaced_twice : (words : List (List ℕ)) → HasFirst words → with_space ([] ∷ words) ≡ [] ∷ words
spaced_twice [] h = absurd (cc (h.parts))
spaced_twice (word ∷ words) h = refl

filled_spaced : (byte : ℕ) (words : List (List ℕ)) → HasFirst words → with_space (with_byte byte words) ≡ [] ∷ with_byte byte words
filled_spaced byte [] h = absurd (cc (h.parts))
filled_spaced byte (word ∷ words) h = refl

skipped_words : (bytes : List ℕ) → with_space (words_of bytes) ≡ [] ∷ words_of (skip_spaces bytes)
skipped_words [] = ap with_space no_words ∙ ap (λ (ws : List (List ℕ)). [] ∷ ws) (sym no_words)
skipped_words (byte ∷ bytes) = elim (cases_Bool (is_space byte)) [
  | inl here ↦ ap with_space (space_words byte bytes here ∙ skipped_words bytes) ∙ (spaced_twice (words_of (skip_spaces bytes)) (has_first (skip_spaces bytes))
      ∙ ap (λ (b : Bool). [] ∷ words_of (if b then skip_spaces bytes else byte ∷ bytes)) (sym here))
  | inr other ↦ ap with_space (byte_words byte bytes other) ∙ (filled_spaced byte (words_of bytes) (has_first bytes) ∙ (ap (λ (ws : List (List ℕ)). [] ∷ ws) (sym (byte_words byte bytes other))
      ∙ ap (λ (b : Bool). [] ∷ words_of (if b then skip_spaces bytes else byte ∷ bytes)) (sym other)))
]

-- the first word ends at the first space
pub word_taken : (text : List ℕ) → words_of text ≡ take (reach text) text ∷ words_behind (behind_word (drop (reach text) text))
word_taken [] = no_words
word_taken (byte ∷ bytes) = by_space byte bytes (is_space byte) refl (word_taken bytes)
  where
    by_space : (byte : ℕ) (bytes : List ℕ) (b : Bool) → is_space byte ≡ b → words_of bytes ≡ take (reach bytes) bytes ∷ words_behind (behind_word (drop (reach bytes) bytes))
        → words_of (byte ∷ bytes) ≡ take (if b then 0 else suc (reach bytes)) (byte ∷ bytes) ∷ words_behind (behind_word (drop (if b then 0 else suc (reach bytes)) (byte ∷ bytes)))
    by_space byte bytes true here h = space_words byte bytes here ∙ (skipped_words bytes ∙ ap (λ (b : Bool). [] ∷ words_of (if b then skip_spaces bytes else byte ∷ bytes)) (sym here))
    by_space byte bytes false other h = byte_words byte bytes other ∙ ap (with_byte byte) h

pub some_left : (text : List ℕ) → is_empty (words_of text) ≡ false
some_left text = let first = has_first text in ap is_empty first.parts
