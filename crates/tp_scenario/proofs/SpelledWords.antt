-- The words of a text are those that the relation tells.
use Rattle.std.proofs.Common.{◌≡◌, ◌⊎◌, inl, inr, ℕ, zero, suc, ◌≤◌, true, false, List, [], ◌∷◌, ◌++◌, refl, sym, ap, subst, ◌∙◌, arith}
use Rattle.std.specs.Prelude.{replicate}
use Rattle.std.specs.List.{list_all}
use Rattle.std.proofs.lemmas.Bool.{and_parts, and_from, cases_Bool, not-true, not_from_false, eqb-true}
use Rattle.std.proofs.lemmas.List.{append-nil}
use Rattle.tp_scenario.specs.Spelled.{AreWords, GoesOn, IsWord}
use Rattle.tp_scenario.specs.Words.{is_filled, is_no_space, is_space, with_byte, with_space, words_of}
use Rattle.tp_scenario.proofs.WordLemmas.{HasFirst, byte_words, has_first, no_words, space_words}

-- ---- what the relation tells is split so

-- a word stands before some others
solid_words : (word text : List ℕ) (others : List (List ℕ)) → list_all is_no_space word ≡ true → words_of text ≡ [] ∷ others → words_of (word ++ text) ≡ word ∷ others
solid_words [] text others solid e = e
solid_words (byte ∷ word) text others solid e =
    let parts = and_parts (is_no_space byte) (list_all is_no_space word) solid in
    byte_words byte (word ++ text) (not-true (is_space byte) parts.0) ∙ ap (with_byte byte) (solid_words word text others parts.1 e)

one_space : (text : List ℕ) (words : List (List ℕ)) → words_of text ≡ words → HasFirst words → list_all is_filled words ≡ true → words_of (32 ∷ text) ≡ [] ∷ words
one_space text [] e first filled = absurd (cc (first.parts))
one_space text ([] ∷ words) e first filled = absurd (cc)
one_space text ((byte ∷ word) ∷ words) e first filled = space_words 32 text refl ∙ ap with_space e

more_spaces : (text : List ℕ) (words : List (List ℕ)) → words_of text ≡ [] ∷ words → HasFirst words → words_of (32 ∷ text) ≡ [] ∷ words
more_spaces text [] e first = absurd (cc (first.parts))
more_spaces text (word ∷ words) e first = space_words 32 text refl ∙ ap with_space e

spaces_words : (count : ℕ) (text : List ℕ) (words : List (List ℕ)) → words_of text ≡ words → HasFirst words → list_all is_filled words ≡ true → words_of (replicate (suc count) 32 ++ text) ≡ [] ∷ words
spaces_words zero text words e first filled = one_space text words e first filled
spaces_words (suc count) text words e first filled = more_spaces (replicate (suc count) 32 ++ text) words (spaces_words count text words e first filled) first

filled_word : (word : List ℕ) → IsWord word → is_filled word ≡ true
filled_word [] h = absurd (omega (arith, h.some))
filled_word (byte ∷ word) h = refl

-- the words of the relation, which are filled
pub record AreSplit (words : List (List ℕ)) (text : List ℕ) : Type 0 where
  pub split : words_of text ≡ words
  pub filled : list_all is_filled words ≡ true

pub split_so : (words : List (List ℕ)) (text : List ℕ) → AreWords words text → AreSplit words text
split_so [] text h = absurd h
split_so (word ∷ words) text (here, inl (last, same)) =
    let alone : words_of (word ++ []) ≡ word ∷ [] = solid_words word [] [] here.solid no_words in
    record {
      split = ap words_of (same ∙ sym (append-nil word)) ∙ (alone ∙ ap (λ (ws : List (List ℕ)). word ∷ ws) (sym last));
      filled = and_from _ _ (filled_word word here) (ap (list_all is_filled) last);
    }
split_so (word ∷ words) text (here, inr more) = by_spaces more.spaces more.some more.text_is (split_so words more.more more.rest)
  where
    by_spaces : (spaces : ℕ) → 1 ≤ spaces → text ≡ word ++ (replicate spaces 32 ++ more.more) → AreSplit words more.more → AreSplit (word ∷ words) text
    by_spaces zero some e rest = absurd (omega arith)
    by_spaces (suc count) some e rest =
        let first = subst HasFirst rest.split (has_first more.more) in
        record {
          split = ap words_of e ∙ solid_words word (replicate (suc count) 32 ++ more.more) words here.solid (spaces_words count more.more words rest.split first rest.filled);
          filled = and_from _ _ (filled_word word here) rest.filled;
        }

-- ---- what is split so, the relation tells

-- the first word, which may be empty, and the others
abbrev IsCut : List ℕ → List (List ℕ) → List ℕ → Type 0
IsCut word words text = (list_all is_no_space word ≡ true) × (((words ≡ []) × (text ≡ word)) ⊎ GoesOn (AreWords words) word text)

pub word_of_filled : (word : List ℕ) → is_filled word ≡ true → list_all is_no_space word ≡ true → IsWord word
word_of_filled [] filled solid = absurd (cc)
word_of_filled (byte ∷ word) filled solid = record { some = omega arith; solid = solid }

are_words : (word : List ℕ) (words : List (List ℕ)) (text : List ℕ) → is_filled word ≡ true → IsCut word words text → AreWords (word ∷ words) text
are_words word words text filled h = (word_of_filled word filled h.0, h.1)

byte_cut : (byte : ℕ) (word : List ℕ) (words : List (List ℕ)) (text : List ℕ) → is_space byte ≡ false → IsCut word words text → IsCut (byte ∷ word) words (byte ∷ text)
byte_cut byte word words text other (solid, inl (last, same)) = (and_from _ _ (not_from_false _ other) solid, inl (last, ap (λ (t : List ℕ). byte ∷ t) same))
byte_cut byte word words text other (solid, inr more) =
    (and_from _ _ (not_from_false _ other) solid, inr (record { spaces = more.spaces; more = more.more; some = more.some; text_is = ap (λ (t : List ℕ). byte ∷ t) more.text_is; rest = more.rest }))

-- one space before words, or one more before others
first_space : (words : List (List ℕ)) (text : List ℕ) → AreWords words text → IsCut [] words (32 ∷ text)
first_space words text h = (refl, inr (record { spaces = 1; more = text; some = omega arith; text_is = refl; rest = h }))

next_space : (words : List (List ℕ)) (text : List ℕ) → HasFirst words → IsCut [] words text → IsCut [] words (32 ∷ text)
next_space words text first (solid, inl (last, same)) = absurd (cc (first.parts, last))
next_space words text first (solid, inr more) = (
  refl,
  inr (record {
    spaces = suc more.spaces;
    more = more.more;
    some = omega arith;
    text_is = ap (λ (t : List ℕ). 32 ∷ t) more.text_is;
    rest = more.rest;
  }),
)

end_cut : (word : List ℕ) (words : List (List ℕ)) → [] ∷ [] ≡ word ∷ words → IsCut word words []
end_cut [] [] e = (refl, inl (refl, refl))
end_cut [] (other ∷ words) e = absurd (cc)
end_cut (byte ∷ word) words e = absurd (cc)

space_cut : (bytes first : List ℕ) (others : List (List ℕ)) (word : List ℕ) (words : List (List ℕ)) → (list_all is_filled others ≡ true → IsCut first others bytes)
    → with_space (first ∷ others) ≡ word ∷ words → list_all is_filled words ≡ true → IsCut word words (32 ∷ bytes)
space_cut bytes [] [] word words later e filled = absurd (not_filled words (tail_same [] ([] ∷ []) word words e) filled)
  where
    tail_same : (one : List ℕ) (ones : List (List ℕ)) (other : List ℕ) (others : List (List ℕ)) → one ∷ ones ≡ other ∷ others → ones ≡ others
    tail_same one ones other others h = cc

    not_filled : (ws : List (List ℕ)) → [] ∷ [] ≡ ws → list_all is_filled ws ≡ true → ⊥
    not_filled [] h k = cc
    not_filled ([] ∷ ws) h k = cc
    not_filled ((byte ∷ w) ∷ ws) h k = cc
space_cut bytes [] (next ∷ others) word words later e filled =
    let same_word : [] ≡ word = cc in
    let same_words : next ∷ others ≡ words = cc in
    let cut = next_space (next ∷ others) bytes (record { word = next; others = others; parts = refl }) (later (subst (λ (ws : List (List ℕ)). list_all is_filled ws ≡ true) (sym same_words) filled)) in
    subst (λ (w : List ℕ). IsCut w words (32 ∷ bytes)) same_word (subst (λ (ws : List (List ℕ)). IsCut [] ws (32 ∷ bytes)) same_words cut)
space_cut bytes (byte ∷ first) others word words later e filled =
    let same_word : [] ≡ word = cc in
    let same_words : (byte ∷ first) ∷ others ≡ words = cc in
    let parts = subst (λ (ws : List (List ℕ)). list_all is_filled ws ≡ true) (sym same_words) filled in
    let cut = first_space ((byte ∷ first) ∷ others) bytes (are_words (byte ∷ first) others bytes refl (later parts)) in
    subst (λ (w : List ℕ). IsCut w words (32 ∷ bytes)) same_word (subst (λ (ws : List (List ℕ)). IsCut [] ws (32 ∷ bytes)) same_words cut)

byte_cut_so : (byte : ℕ) (bytes first : List ℕ) (others : List (List ℕ)) (word : List ℕ) (words : List (List ℕ)) → is_space byte ≡ false → (list_all is_filled others ≡ true → IsCut first others bytes)
    → (byte ∷ first) ∷ others ≡ word ∷ words → list_all is_filled words ≡ true → IsCut word words (byte ∷ bytes)
byte_cut_so byte bytes first others word words other later e filled =
    let same_word : byte ∷ first ≡ word = cc in
    let same_words : others ≡ words = cc in
    let cut = byte_cut byte first others bytes other (later (subst (λ (ws : List (List ℕ)). list_all is_filled ws ≡ true) (sym same_words) filled)) in
    subst (λ (w : List ℕ). IsCut w words (byte ∷ bytes)) same_word (subst (λ (ws : List (List ℕ)). IsCut (byte ∷ first) ws (byte ∷ bytes)) same_words cut)

cut_so : (text word : List ℕ) (words : List (List ℕ)) → words_of text ≡ word ∷ words → list_all is_filled words ≡ true → IsCut word words text
cut_so [] word words e filled = end_cut word words (sym no_words ∙ e)
cut_so (byte ∷ bytes) word words e filled = elim (cases_Bool (is_space byte)) [
  | inl here ↦ let first = has_first bytes in
      subst (λ (b : ℕ). IsCut word words (b ∷ bytes)) (sym (eqb-true byte 32 here))
      (space_cut bytes first.word first.others word words (λ k. cut_so bytes first.word first.others first.parts k) (sym (ap with_space first.parts) ∙ (sym (space_words byte bytes here) ∙ e)) filled)
  | inr other ↦ let first = has_first bytes in
      byte_cut_so byte bytes first.word first.others word words other (λ k. cut_so bytes first.word first.others first.parts k) (sym (ap (with_byte byte) first.parts) ∙ (sym (byte_words byte bytes other) ∙ e)) filled
]

pub words_so : (text word : List ℕ) (words : List (List ℕ)) → words_of text ≡ word ∷ words → list_all is_filled (word ∷ words) ≡ true → AreWords (word ∷ words) text
words_so text word words e filled =
    let parts = and_parts (is_filled word) (list_all is_filled words) filled in
    are_words word words text parts.0 (cut_so text word words e parts.1)

pub one_split : (text : List ℕ) (one other : List (List ℕ)) → AreWords one text → AreWords other text → one ≡ other
one_split text one other a b = sym (split_so one text a).split ∙ (split_so other text b).split
