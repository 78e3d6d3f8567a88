-- A text of clean tokens tells its tokens: no word has a byte that ends words.
use Rattle.std.proofs.Common.{◌≡◌, ◌⊎◌, inl, inr, ℕ, ◌==◌, ◌&&◌, ◌||◌, not, Bool, true, false, List, [], ◌∷◌, ◌++◌, refl, sym, ap, subst, ◌∙◌, arith}
use Rattle.std.proofs.lemmas.Bool.{and_from, and_parts}
use Rattle.std.proofs.lemmas.Bool.Decides.{nat_tests}
use Rattle.std.specs.List.{list_all}
use Rattle.tp_report.specs.Tokens.{Token, text_of, token_text}

-- a space, a newline or a comma
abbrev pub is_ending : ℕ → Bool
is_ending byte = byte == 32 || byte == 10 || byte == 44

abbrev pub is_word_byte : ℕ → Bool
is_word_byte byte = not (is_ending byte)

-- the word has none of these, and one of them ends it
abbrev pub is_clean : Token → Bool
is_clean token = list_all is_word_byte token.word && is_ending token.ending

-- what stands behind a byte
record Parted (word other : List ℕ) (ending last : ℕ) (more others : List ℕ) : Type 0 where
  word_is : word ≡ other
  ending_is : ending ≡ last
  more_is : more ≡ others

heads : (x y : ℕ) (xs ys : List ℕ) → x ∷ xs ≡ y ∷ ys → (x ≡ y) × (xs ≡ ys)
heads x y xs ys e = (cc, cc)

no_word_byte : (byte : ℕ) → is_ending byte ≡ true → is_word_byte byte ≡ true → ⊥
no_word_byte byte e w = cc

parted : (word other : List ℕ) (ending last : ℕ) (more others : List ℕ) → list_all is_word_byte word ≡ true → list_all is_word_byte other ≡ true → is_ending ending ≡ true → is_ending last ≡ true
    → word ++ ending ∷ more ≡ other ++ last ∷ others → Parted word other ending last more others
parted [] [] ending last more others w v e f same = let both = heads ending last more others same in record { word_is = refl; ending_is = both.0; more_is = both.1 }
parted [] (byte ∷ bytes) ending last more others w v e f same =
    let both = heads ending byte more (bytes ++ last ∷ others) same in
    absurd (no_word_byte byte (subst (λ (b : ℕ). is_ending b ≡ true) both.0 e) (and_parts (is_word_byte byte) (list_all is_word_byte bytes) v).0)
parted (byte ∷ bytes) [] ending last more others w v e f same =
    let both = heads byte last (bytes ++ ending ∷ more) others same in
    absurd (no_word_byte byte (subst (λ (b : ℕ). is_ending b ≡ true) (sym both.0) f) (and_parts (is_word_byte byte) (list_all is_word_byte bytes) w).0)
parted (byte ∷ bytes) (next ∷ nexts) ending last more others w v e f same =
    let both = heads byte next (bytes ++ ending ∷ more) (nexts ++ last ∷ others) same in
    let rest = parted bytes nexts ending last more others (and_parts (is_word_byte byte) (list_all is_word_byte bytes) w).1 (and_parts (is_word_byte next) (list_all is_word_byte nexts) v).1 e f both.1 in
    record { word_is = cc (both.0, rest.word_is); ending_is = rest.ending_is; more_is = rest.more_is }

some_text : (token : Token) (tokens : List Token) → [] ≡ text_of (token ∷ tokens) → ⊥
some_text token tokens e = by_word token.word e
  where
    by_word : (word : List ℕ) → [] ≡ (word ++ token.ending ∷ []) ++ text_of tokens → ⊥
    by_word [] e = cc
    by_word (byte ∷ bytes) e = cc

same_token_is : (one other : Token) → one.word ≡ other.word → one.ending ≡ other.ending → one ≡ other
same_token_is one other e f = ap (λ (bytes : List ℕ). made bytes one.ending) e ∙ ap (λ (byte : ℕ). made other.word byte) f
  where
    made : List ℕ → ℕ → Token
    made bytes byte = record { word = bytes; ending = byte }

behind : (token : Token) (tokens : List Token) → text_of (token ∷ tokens) ≡ token.word ++ token.ending ∷ text_of tokens
behind token tokens = by_word token.word
  where
    by_word : (word : List ℕ) → (word ++ token.ending ∷ []) ++ text_of tokens ≡ word ++ token.ending ∷ text_of tokens
    by_word [] = refl
    by_word (byte ∷ bytes) = ap (λ (l : List ℕ). byte ∷ l) (by_word bytes)

-- clean tokens with one text are the same
pub one_text : (tokens others : List Token) → list_all is_clean tokens ≡ true → list_all is_clean others ≡ true → text_of tokens ≡ text_of others → tokens ≡ others
one_text [] [] c d e = refl
one_text [] (token ∷ tokens) c d e = absurd (some_text token tokens e)
one_text (token ∷ tokens) [] c d e = absurd (some_text token tokens (sym e))
one_text (token ∷ tokens) (other ∷ others) c d e =
    let mine = and_parts (is_clean token) (list_all is_clean tokens) c in
    let its = and_parts (is_clean other) (list_all is_clean others) d in
    let word = and_parts (list_all is_word_byte token.word) (is_ending token.ending) mine.0 in
    let name = and_parts (list_all is_word_byte other.word) (is_ending other.ending) its.0 in
    let both = parted token.word other.word token.ending other.ending (text_of tokens) (text_of others) word.0 name.0 word.1 name.1 (sym (behind token tokens) ∙ (e ∙ behind other others)) in
    cc (same_token_is token other both.word_is both.ending_is, one_text tokens others mine.1 its.1 both.more_is)
