-- A query is read of a text exactly where the text says it.
use Rattle.std.proofs.Common.{◌≡◌, inl, inr, ℕ, ◌+◌, ◌-◌, ◌≤◌, ◌==◌, ◌&&◌, Bool, true, false, List, [], ◌∷◌, ◌++◌, Option, Some, None, refl, sym, ap, subst, ◌∙◌, arith, pos, codes, option_map, if◌then◌else◌}
use Rattle.std.specs.Prelude.{option_and_then}
use Rattle.std.specs.List.{list_all}
use Rattle.std.specs.Cmp.Lexicographic.{bytes_decides}
use Rattle.std.proofs.lemmas.Bool.{and_parts, and_from, eqb-true, cases_Bool}
use Rattle.std.proofs.lemmas.Bool.Decides.{nat_tests}
use Rattle.std.proofs.lemmas.List.{append_assoc, append-nil}
use Rattle.std.proofs.lemmas.Option.{same_Some}
use Rattle.tp_types.specs.Spelling.{is_digit, is_name, is_number, number_of, spelled_from}
use Rattle.tp_model.specs.Words.{Operand, Term}
use Rattle.tp_types.specs.declared.scenario.Operand.TheVariants.{Constant, Register}
use Rattle.tp_model.specs.Ids.{same_name}
use Rattle.tp_scenario.specs.Queries.{Asked, reads, writes, asked_in, asked_of, constant_term, first_term, is_register_digit, read_of, register_of, sign_of, signed_term, sum_of, term_at, term_of, terms_after, write_of}
use Rattle.tp_scenario.specs.Spelled.{SaysQuery, SpellTerms, SpellsFirst, SpellsNumber, SpellsOperand, SpellsRegister, SpellsSum, sign}
use Rattle.tp_model.specs.Queries.{only}
use Rattle.tp_scenario.specs.Words.{is_filled, words_of}
use Rattle.tp_scenario.proofs.KeptQueries.{map_some, test_some, then_some}
use Rattle.tp_scenario.proofs.SpelledWords.{split_so, words_so}

-- ---- tests

pub same_bytes : (one other : List ℕ) → same_name one other ≡ true → one ≡ other
same_bytes one other e = (bytes_decides one other).0 e

pub test_passes : {A : Type 0} (test : Bool) (found : Option A) → test ≡ true → (if test then found else None) ≡ found
test_passes true found e = refl
test_passes false found e = absurd (cc)

pub only_one : (words : List (List ℕ)) (word : List ℕ) → only words ≡ Some word → words ≡ word ∷ []
only_one [] word e = absurd (cc)
only_one (first ∷ []) word e = ap (λ (w : List ℕ). w ∷ []) (same_Some first word e)
only_one (first ∷ other ∷ words) word e = absurd (cc)

pub name_filled : (name : List ℕ) → is_name name ≡ true → is_filled name ≡ true
name_filled [] e = absurd (cc)
name_filled (byte ∷ bytes) e = refl

pub number_filled : (number : ℕ) (word : List ℕ) → SpellsNumber number word → is_filled word ≡ true
number_filled number [] h = absurd (cc (h.digits))
number_filled number (byte ∷ bytes) h = refl

-- ---- numbers and registers

pub number_so : (word : List ℕ) (number : ℕ) → number_of word ≡ Some number → SpellsNumber number word
number_so word number e =
    let got = test_some (is_number word) (Some (spelled_from 0 word)) number e in
    record { digits = got.0; number_is = sym (same_Some _ number got.1) }

pub so_number : (word : List ℕ) (number : ℕ) → SpellsNumber number word → number_of word ≡ Some number
so_number word number h = test_passes (is_number word) (Some (spelled_from 0 word)) h.digits ∙ ap (λ (n : ℕ). Some n) (sym h.number_is)

register_so : (word : List ℕ) (register : ℕ) → register_of word ≡ Some register → SpellsRegister register word
unfolding register_of
register_so [] register e = absurd (cc)
register_so (letter ∷ []) register e = absurd (cc)
register_so (letter ∷ digit ∷ []) register e =
    let got = test_some ((letter == 114) && is_register_digit digit) (Some (digit - 48)) register e in
    let parts = and_parts (letter == 114) (is_register_digit digit) got.0 in
    let bounds = digit_bounds digit parts.1 in
    let same = same_Some (digit - 48) register got.1 in
    record {
      least = omega (arith, bounds, same);
      most = omega (arith, bounds, same);
      word_is = ap (λ (l : ℕ). l ∷ digit ∷ []) (eqb-true letter 114 parts.0) ∙ ap (λ (d : ℕ). 114 ∷ d ∷ []) (omega (arith, bounds, same));
    }
  where
    digit_bounds : (d : ℕ) → is_register_digit d ≡ true → (49 ≤ d) × (d ≤ 57)
    digit_bounds d h = (low d h, high d h)
      where
        low : (d : ℕ) → is_register_digit d ≡ true → 49 ≤ d
        low d h = grind (arith, nat_tests)

        high : (d : ℕ) → is_register_digit d ≡ true → d ≤ 57
        high d h = grind (arith, nat_tests)
register_so (letter ∷ digit ∷ other ∷ bytes) register e = absurd (cc)

so_register : (word : List ℕ) (register : ℕ) → SpellsRegister register word → register_of word ≡ Some register
unfolding register_of
so_register word register h =
    ap register_of h.word_is
    ∙ (test_passes ((114 == 114) && is_register_digit (48 + register)) (Some (48 + register - 48)) (is_digit_of register h.least h.most) ∙ ap (λ (n : ℕ). Some n) (omega arith))
  where
    is_digit_of : (k : ℕ) → 1 ≤ k → k ≤ 9 → ((114 == 114) && is_register_digit (48 + k)) ≡ true
    is_digit_of k least most = grind (arith, nat_tests)

pub register_filled : (register : ℕ) (word : List ℕ) → SpellsRegister register word → is_filled word ≡ true
register_filled register word h = ap is_filled h.word_is

-- a number is no register
number_no_register : (word : List ℕ) → is_number word ≡ true → register_of word ≡ None
unfolding register_of
number_no_register [] e = absurd (cc)
number_no_register (digit ∷ []) e = refl
number_no_register (digit ∷ other ∷ []) e = no_letter (digit == 114) (digit_no_letter digit (and_parts _ _ (and_parts _ _ (and_parts _ _ e).0).0).0)
  where
    digit_no_letter : (d : ℕ) → is_digit d ≡ true → (d == 114) ≡ false
    digit_no_letter d h = grind (arith, nat_tests)

    no_letter : (b : Bool) → b ≡ false → (if b && is_register_digit other then Some (other - 48) else None) ≡ None
    no_letter true h = absurd (cc)
    no_letter false h = refl
number_no_register (digit ∷ other ∷ third ∷ digits) e = refl

-- ---- terms

abbrev pub IsTermOf : Bool → List ℕ → Term → Type 0
IsTermOf minus word term = (term.minus ≡ minus) × SpellsOperand term.operand word

constant_so : (minus : Bool) (word : List ℕ) (term : Term) → constant_term minus word ≡ Some term → IsTermOf minus word term
unfolding constant_term
constant_so minus word term e =
    let number = map_some _ (number_of word) term e in
    subst (IsTermOf minus word) number.2 (refl, (number.0, refl, number_so word number.0 number.1))

term_so : (minus : Bool) (word : List ℕ) (term : Term) → term_of minus word ≡ Some term → IsTermOf minus word term
unfolding term_of
term_so minus word term e = by_register (register_of word) refl e
  where
    by_register : (register : Option ℕ) → register_of word ≡ register → term_at minus word register ≡ Some term → IsTermOf minus word term
    by_register (Some register) r h =
        subst (IsTermOf minus word) (same_Some (record { minus = minus; operand = Register register }) term h) (refl, register_so word register r)
    by_register None r h = constant_so minus word term h

-- a term by its parts
made_term : (minus : Bool) (operand : Operand) (term : Term) → term.minus ≡ minus → term.operand ≡ operand → Some (record { minus = minus; operand = operand }) ≡ Some term
made_term minus operand term e f = ap (λ (t : Term). Some t) (ap (λ (m : Bool). record { minus = m; operand = operand }) (sym e) ∙ ap (λ (o : Operand). record { minus = term.minus; operand = o }) (sym f))

so_term : (minus : Bool) (word : List ℕ) (term : Term) → IsTermOf minus word term → term_of minus word ≡ Some term
unfolding term_of constant_term
so_term minus word term (same, spelled) = by_operand term.operand refl spelled
  where
    by_operand : (operand : Operand) → term.operand ≡ operand → SpellsOperand operand word → term_of minus word ≡ Some term
    by_operand (Register register) o h = ap (term_at minus word) (so_register word register h) ∙ made_term minus (Register register) term same o
    by_operand (Constant z) o (n, z_is, number) =
        ap (term_at minus word) (number_no_register word number.digits)
        ∙ (ap (option_map (λ (m : ℕ). record { minus = minus; operand = Constant (pos m) })) (so_number word n number) ∙ made_term minus (Constant (pos n)) term same (o ∙ ap (λ y. Constant y) z_is))

first_so : (word : List ℕ) (term : Term) → first_term word ≡ Some term → SpellsFirst term word
unfolding first_term constant_term
first_so [] term e = absurd (cc)
first_so (byte ∷ bytes) term e = elim (cases_Bool (byte == 45)) [
  | inl here ↦ negative (eqb-true byte 45 here) (subst (λ (b : Bool). (if b then constant_term true bytes else term_of false (byte ∷ bytes)) ≡ Some term) here e)
  | inr other ↦ inl (term_so false (byte ∷ bytes) term (subst (λ (b : Bool). (if b then constant_term true bytes else term_of false (byte ∷ bytes)) ≡ Some term) other e))
]
  where
    negative : byte ≡ 45 → constant_term true bytes ≡ Some term → SpellsFirst term (byte ∷ bytes)
    negative same h =
        let number = map_some _ (number_of bytes) term h in
        inr (
          ap (λ (t : Term). t.minus) (sym number.2),
          record {
            number = number.0;
            digits = bytes;
            constant = ap (λ (t : Term). t.operand) (sym number.2);
            spelled = number_so bytes number.0 number.1;
            word_is = ap (λ (b : ℕ). b ∷ bytes) same;
          },
        )

-- a word that is spelled so does not begin with `-`
no_minus : (byte : ℕ) (bytes : List ℕ) (operand : Operand) → SpellsOperand operand (byte ∷ bytes) → (byte == 45) ≡ false
no_minus byte bytes (Register register) h = letter byte bytes h.word_is
  where
    letter : (b : ℕ) (bs : List ℕ) → b ∷ bs ≡ codes "r" ++ (48 + register) ∷ [] → (b == 45) ≡ false
    letter b bs e = let same : b ≡ 114 = cc in ap (λ (n : ℕ). n == 45) same
no_minus byte [] (Constant z) (n, z_is, number) = digit byte number.digits
  where
    digit : (d : ℕ) → is_digit d ≡ true → (d == 45) ≡ false
    digit d h = grind (arith, nat_tests)
no_minus byte (other ∷ bytes) (Constant z) (n, z_is, number) = digit byte (and_parts _ _ (and_parts _ _ (and_parts _ _ number.digits).0).0).0
  where
    digit : (d : ℕ) → is_digit d ≡ true → (d == 45) ≡ false
    digit d h = grind (arith, nat_tests)

no_operand : (operand : Operand) → SpellsOperand operand [] → ⊥
no_operand (Register register) h = absurd (cc (h.word_is))
no_operand (Constant z) (n, z_is, number) = absurd (cc (number.digits))

so_first : (word : List ℕ) (term : Term) → SpellsFirst term word → first_term word ≡ Some term
unfolding first_term constant_term
so_first [] term (inl h) = absurd (no_operand term.operand h.1)
so_first (byte ∷ bytes) term (inl h) =
    ap (λ (b : Bool). if b then constant_term true bytes else term_of false (byte ∷ bytes)) (no_minus byte bytes term.operand h.1) ∙ so_term false (byte ∷ bytes) term h
so_first word term (inr (minus, h)) =
    ap first_term h.word_is ∙ (ap (option_map (λ (m : ℕ). record { minus = true; operand = Constant (pos m) })) (so_number h.digits h.number h.spelled) ∙ made_term true (Constant (pos h.number)) term minus h.constant)

sign_so : (word : List ℕ) (minus : Bool) → sign_of word ≡ Some minus → word ≡ sign minus
unfolding sign_of
sign_so word minus e = elim (cases_Bool (same_name word (codes "+"))) [
  | inl plus ↦ subst (λ (m : Bool). word ≡ sign m) (same_Some false minus (subst (λ (b : Bool). (if b then Some false else (if same_name word (codes "-") then Some true else None)) ≡ Some minus) plus e)) (same_bytes word (codes "+") plus)
  | inr other ↦ let got = test_some (same_name word (codes "-")) (Some true) minus (subst (λ (b : Bool). (if b then Some false else (if same_name word (codes "-") then Some true else None)) ≡ Some minus) other e) in
      subst (λ (m : Bool). word ≡ sign m) (same_Some true minus got.1) (same_bytes word (codes "-") got.0)
]

so_sign : (minus : Bool) → sign_of (sign minus) ≡ Some minus
unfolding sign_of
so_sign true = refl
so_sign false = refl

-- ---- sums

record Adds (made expr : List Term) (words : List (List ℕ)) : Type 0 where
  terms : List Term
  whole : expr ≡ made ++ terms
  spelled : SpellTerms terms words

terms_so : (words : List (List ℕ)) (made expr : List Term) → terms_after made words ≡ Some expr → Adds made expr words
unfolding signed_term
terms_so [] made expr e = record { terms = []; whole = sym (same_Some made expr e) ∙ sym (append-nil made); spelled = refl }
terms_so (first ∷ []) made expr e = absurd (cc)
terms_so (first ∷ word ∷ words) made expr e =
    let term = then_some _ (signed_term first word) expr e in
    let minus = then_some _ (sign_of first) term.0 term.1 in
    let said = term_so minus.0 word term.0 minus.2 in
    let rest = terms_so words (made ++ term.0 ∷ []) expr term.2 in
    record {
      terms = term.0 ∷ rest.terms;
      whole = rest.whole ∙ append_assoc made (term.0 ∷ []) rest.terms;
      spelled = (word, words, ap (λ (w : List ℕ). w ∷ word ∷ words) (sign_so first minus.0 minus.1 ∙ ap sign (sym said.0)), said.1, rest.spelled);
    }

so_terms : (terms made : List Term) (words : List (List ℕ)) → SpellTerms terms words → terms_after made words ≡ Some (made ++ terms)
unfolding signed_term
so_terms [] made words h = ap (terms_after made) h ∙ ap (λ (ts : List Term). Some ts) (sym (append-nil made))
so_terms (term ∷ terms) made words (word, others, words_are, spelled, rest) =
    let said : signed_term (sign term.minus) word ≡ Some term = ap (option_and_then (λ (m : Bool). term_of m word)) (so_sign term.minus) ∙ so_term term.minus word term (refl, spelled) in
    ap (terms_after made) words_are
    ∙ (ap (option_and_then (λ (t : Term). terms_after (made ++ t ∷ []) others)) said
    ∙ (so_terms terms (made ++ term ∷ []) others rest ∙ ap (λ (ts : List Term). Some ts) (append_assoc made (term ∷ []) terms)))

sum_so : (words : List (List ℕ)) (expr : List Term) → sum_of words ≡ Some expr → SpellsSum expr words
sum_so [] expr e = absurd (cc)
sum_so (word ∷ words) expr e =
    let term = then_some _ (first_term word) expr e in
    let rest = terms_so words (term.0 ∷ []) expr term.2 in
    subst (λ (ts : List Term). SpellsSum ts (word ∷ words)) (sym rest.whole) (word, words, refl, first_so word term.0 term.1, rest.spelled)

so_sum : (expr : List Term) (words : List (List ℕ)) → SpellsSum expr words → sum_of words ≡ Some expr
so_sum [] words h = absurd h
so_sum (term ∷ terms) words (word, others, words_are, first, rest) =
    ap sum_of words_are ∙ (ap (option_and_then (λ (t : Term). terms_after (t ∷ []) others)) (so_first word term first) ∙ so_terms terms (term ∷ []) others rest)

-- the words of a sum are filled
operand_filled : (operand : Operand) (word : List ℕ) → SpellsOperand operand word → is_filled word ≡ true
operand_filled operand [] h = absurd (no_operand operand h)
operand_filled operand (byte ∷ bytes) h = refl

first_filled : (term : Term) (word : List ℕ) → SpellsFirst term word → is_filled word ≡ true
first_filled term word (inl h) = operand_filled term.operand word h.1
first_filled term word (inr (minus, h)) = ap is_filled h.word_is

sign_filled : (minus : Bool) → is_filled (sign minus) ≡ true
sign_filled true = refl
sign_filled false = refl

terms_filled : (terms : List Term) (words : List (List ℕ)) → SpellTerms terms words → list_all is_filled words ≡ true
terms_filled [] words h = ap (list_all is_filled) h
terms_filled (term ∷ terms) words (word, others, words_are, spelled, rest) =
    ap (list_all is_filled) words_are ∙ and_from _ _ (sign_filled term.minus) (and_from _ _ (operand_filled term.operand word spelled) (terms_filled terms others rest))

sum_filled : (expr : List Term) (words : List (List ℕ)) → SpellsSum expr words → list_all is_filled words ≡ true
sum_filled [] words h = absurd h
sum_filled (term ∷ terms) words (word, others, words_are, first, rest) = ap (list_all is_filled) words_are ∙ and_from _ _ (first_filled term word first) (terms_filled terms others rest)

-- ---- queries

read_so : (text : List ℕ) (words : List (List ℕ)) (asked : Asked) → words_of text ≡ codes "read" ∷ words → read_of words ≡ Some asked → SaysQuery asked text
unfolding read_of
read_so text [] asked split e = absurd (cc)
read_so text (name ∷ []) asked split e = absurd (cc)
read_so text (name ∷ into ∷ words) asked split e =
    let got = test_some (is_name name && same_name into (codes "into")) _ asked e in
    let parts = and_parts (is_name name) (same_name into (codes "into")) got.0 in
    let number = map_some (reads name) (option_and_then register_of (only words)) asked got.1 in
    let word = then_some register_of (only words) number.0 number.1 in
    let register = register_so word.0 number.0 word.2 in
    let whole : words_of text ≡ codes "read" ∷ name ∷ codes "into" ∷ word.0 ∷ [] =
    split ∙ (ap (λ (w : List ℕ). codes "read" ∷ name ∷ w ∷ words) (same_bytes into (codes "into") parts.1) ∙ ap (λ (ws : List (List ℕ)). codes "read" ∷ name ∷ codes "into" ∷ ws) (only_one words word.0 word.1)) in
    let filled = and_from _ _ refl (and_from _ _ (name_filled name parts.0) (and_from _ _ refl (and_from _ _ (register_filled number.0 word.0 register) refl))) in
    subst (λ (a : Asked). SaysQuery a text) number.2 (parts.0, (word.0, register, words_so text (codes "read") (name ∷ codes "into" ∷ word.0 ∷ []) whole filled))

write_so : (text : List ℕ) (words : List (List ℕ)) (asked : Asked) → words_of text ≡ codes "write" ∷ words → write_of words ≡ Some asked → SaysQuery asked text
unfolding write_of
write_so text [] asked split e = absurd (cc)
write_so text (name ∷ []) asked split e = absurd (cc)
write_so text (name ∷ mark ∷ words) asked split e =
    let got = test_some (is_name name && same_name mark (codes ":=")) _ asked e in
    let parts = and_parts (is_name name) (same_name mark (codes ":=")) got.0 in
    let expr = map_some (writes name) (sum_of words) asked got.1 in
    let sum = sum_so words expr.0 expr.1 in
    let whole : words_of text ≡ codes "write" ∷ name ∷ codes ":=" ∷ words = split ∙ ap (λ (w : List ℕ). codes "write" ∷ name ∷ w ∷ words) (same_bytes mark (codes ":=") parts.1) in
    let filled = and_from _ _ refl (and_from _ _ (name_filled name parts.0) (and_from _ _ refl (sum_filled expr.0 words sum))) in
    subst (λ (a : Asked). SaysQuery a text) expr.2 (parts.0, (words, sum, words_so text (codes "write") (name ∷ codes ":=" ∷ words) whole filled))

in_words_so : (text : List ℕ) (words : List (List ℕ)) (asked : Asked) → words_of text ≡ words → asked_in words ≡ Some asked → SaysQuery asked text
in_words_so text [] asked split e = absurd (cc)
in_words_so text (verb ∷ words) asked split e = elim (cases_Bool (same_name verb (codes "read"))) [
  | inl here ↦ read_so text words asked (split ∙ ap (λ (w : List ℕ). w ∷ words) (same_bytes verb (codes "read") here)) (subst by_read here e)
  | inr other ↦ let got = test_some (same_name verb (codes "write")) (write_of words) asked (subst by_read other e) in
      write_so text words asked (split ∙ ap (λ (w : List ℕ). w ∷ words) (same_bytes verb (codes "write") got.0)) got.1
]
  where
    by_read : Bool → Type 0
    by_read b = (if b then read_of words else (if same_name verb (codes "write") then write_of words else None)) ≡ Some asked

pub query_so : (text : List ℕ) (asked : Asked) → asked_of text ≡ Some asked → SaysQuery asked text
unfolding asked_of
query_so text asked e = in_words_so text (words_of text) asked refl e

pub so_query : (text : List ℕ) (asked : Asked) → SaysQuery asked text → asked_of text ≡ Some asked
unfolding asked_of read_of write_of
so_query text (reads item register) (name, (word, spelled, words)) =
    ap asked_in (split_so (codes "read" ∷ item ∷ codes "into" ∷ word ∷ []) text words).split
    ∙ (test_passes (is_name item && same_name (codes "into") (codes "into")) (option_map (reads item) (register_of word)) (and_from _ _ name refl) ∙ ap (option_map (reads item)) (so_register word register spelled))
so_query text (writes item expr) (name, (sum, spelled, words)) =
    ap asked_in (split_so (codes "write" ∷ item ∷ codes ":=" ∷ sum) text words).split
    ∙ (test_passes (is_name item && same_name (codes ":=") (codes ":=")) (option_map (writes item) (sum_of sum)) (and_from _ _ name refl) ∙ ap (option_map (writes item)) (so_sum expr sum spelled))

pub one_query : (text : List ℕ) (one other : Asked) → SaysQuery one text → SaysQuery other text → one ≡ other
one_query text one other a b = same_Some one other (sym (so_query text one a) ∙ so_query text other b)
