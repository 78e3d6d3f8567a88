-- The last word of a text: what is spelled without a space is the only word where it is what is left.
use Rattle.std.proofs.Common.{◌≡◌, inl, inr, ℕ, Bool, true, List, [], ◌∷◌, Some, None, Option, refl, sym, ap, ◌∙◌, arith}
use Rattle.std.specs.Prelude.{length, nat_lt, option_and_then}
use Rattle.std.specs.List.{list_all}
use Rattle.std.proofs.lemmas.Bool.{and_parts, and_from, cases_Bool, not-true}
use Rattle.std.proofs.lemmas.Bool.Decides.{nat_tests}
use Rattle.tp_types.specs.Spelling.{is_digit, is_letter, is_name, is_number, is_name_byte, number_of}
use Rattle.tp_scenario.specs.Steps.{one_name, one_number}
use Rattle.tp_model.specs.Queries.{only}
use Rattle.tp_scenario.specs.Words.{as_name, is_no_space, is_space, with_byte, with_space, words_of}
use Rattle.tp_scenario.proofs.WordLemmas.{HasFirst, byte_words, has_first, no_words, space_words}

-- bytes of which none is a space are one word
alone : (text : List ℕ) → list_all is_no_space text ≡ true → words_of text ≡ text ∷ []
alone [] solid = no_words
alone (byte ∷ bytes) solid =
    let parts = and_parts (is_no_space byte) (list_all is_no_space bytes) solid in
    byte_words byte bytes (not-true (is_space byte) parts.0) ∙ ap (with_byte byte) (alone bytes parts.1)

-- behind a space there is another word
spaced_only : (words : List (List ℕ)) → HasFirst words → only (with_space words) ≡ None
spaced_only [] first = absurd (cc (first.parts))
spaced_only ([] ∷ []) first = refl
spaced_only ([] ∷ word ∷ words) first = refl
spaced_only ((byte ∷ bytes) ∷ words) first = refl

-- one word alone is the whole text
only_whole : (text word : List ℕ) → only (words_of text) ≡ Some word → word ≡ text
only_whole [] word e = cc (no_words)
only_whole (byte ∷ bytes) word e = elim (cases_Bool (is_space byte)) [
  | inl here ↦ absurd (cc (ap only (space_words byte bytes here), spaced_only (words_of bytes) (has_first bytes)))
  | inr other ↦ by_words (words_of bytes) refl (only_whole bytes) (sym (ap only (byte_words byte bytes other)) ∙ e)
]
  where
    by_words : (words : List (List ℕ)) → words_of bytes ≡ words → ((first : List ℕ) → only (words_of bytes) ≡ Some first → first ≡ bytes) → only (with_byte byte words) ≡ Some word → word ≡ byte ∷ bytes
    by_words [] w whole e = absurd (cc)
    by_words (first ∷ []) w whole e = cc (whole first (ap only w))
    by_words (first ∷ next ∷ words) w whole e = absurd (cc)

-- what is read of texts without spaces is read of what is left
read_last : {A : Type 0} (read : List ℕ → Option A) → ((text : List ℕ) (a : A) → read text ≡ Some a → list_all is_no_space text ≡ true)
    → (text : List ℕ) → option_and_then read (only (words_of text)) ≡ read text
read_last {A = A} read solid text = by_only (only (words_of text)) refl
  where
    by_read : (found : Option A) → read text ≡ found → only (words_of text) ≡ None → None ≡ read text
    by_read None r e = sym r
    by_read (Some a) r e = absurd (cc (ap only (alone text (solid text a r))))

    by_only : (word : Option (List ℕ)) → only (words_of text) ≡ word → option_and_then read word ≡ read text
    by_only None e = by_read (read text) refl e
    by_only (Some word) e = ap read (only_whole text word e)

part_is_no_space : (byte : ℕ) → is_name_byte byte ≡ true → is_no_space byte ≡ true
part_is_no_space byte h = grind (arith, nat_tests)

letter_is_no_space : (byte : ℕ) → is_letter byte ≡ true → is_no_space byte ≡ true
letter_is_no_space byte h = grind (arith, nat_tests)

digit_is_no_space : (byte : ℕ) → is_digit byte ≡ true → is_no_space byte ≡ true
digit_is_no_space byte h = grind (arith, nat_tests)

solid_by : (test : ℕ → Bool) → ((byte : ℕ) → test byte ≡ true → is_no_space byte ≡ true) → (text : List ℕ) → list_all test text ≡ true → list_all is_no_space text ≡ true
solid_by test solid [] all = refl
solid_by test solid (byte ∷ bytes) all =
    let parts = and_parts (test byte) (list_all test bytes) all in
    and_from _ _ (solid byte parts.0) (solid_by test solid bytes parts.1)

pub solid_name : (text : List ℕ) → is_name text ≡ true → list_all is_no_space text ≡ true
solid_name [] h = absurd (cc)
solid_name (first ∷ others) h =
    let outer = and_parts _ (list_all is_name_byte others) h in
    let inner = and_parts (is_letter first) _ outer.0 in
    and_from _ _ (letter_is_no_space first inner.0) (solid_by is_name_byte part_is_no_space others outer.1)

solid_named : (text name : List ℕ) → as_name text ≡ Some name → list_all is_no_space text ≡ true
solid_named text name e = elim (cases_Bool (is_name text)) [
  | inl spelled ↦ solid_name text spelled
  | inr other ↦ absurd (cc)
]

pub solid_number : (text : List ℕ) → is_number text ≡ true → list_all is_no_space text ≡ true
solid_number [] h = absurd (cc)
solid_number (digit ∷ []) h = and_from _ _ (digit_is_no_space digit h) refl
solid_number (digit ∷ other ∷ digits) h =
    let outer = and_parts _ (nat_lt (length digits) 14) h in
    let inner = and_parts _ (list_all is_digit (other ∷ digits)) outer.0 in
    let front = and_parts (is_digit digit) _ inner.0 in
    and_from _ _ (digit_is_no_space digit front.0) (solid_by is_digit digit_is_no_space (other ∷ digits) inner.1)

solid_numbered : (text : List ℕ) (number : ℕ) → number_of text ≡ Some number → list_all is_no_space text ≡ true
solid_numbered text number e = elim (cases_Bool (is_number text)) [
  | inl spelled ↦ solid_number text spelled
  | inr other ↦ absurd (cc)
]

-- the only word, where it is spelled as a name
pub last_name : (text : List ℕ) → one_name (words_of text) ≡ as_name text
last_name text = read_last as_name solid_named text

-- the number that the only word is
pub last_number : (text : List ℕ) → one_number (words_of text) ≡ number_of text
last_number text = read_last number_of solid_numbered text
