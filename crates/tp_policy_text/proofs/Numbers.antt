-- Integers are read exactly.
use Rattle.std.proofs.lemmas.Bool.{and_from, and_left, and_parts, and_right, eqb-true, lt-ltb, ltb-true, not-true, not_from_false}
use Rattle.std.proofs.Common.{◌≡◌, ◌⊎◌, inl, inr, ℕ, ◌+◌, ◌-◌, ◌*◌, ◌<◌, ◌≤◌, ◌==◌, ◌&&◌, not, nat_lt, nat_le, List, [], ◌∷◌, ◌++◌, length, Bool, true, false, Option, Some, None, refl, sym, ap, subst, ◌∙◌, arith, if◌then◌else◌, ℤ}
use Rattle.std.specs.List.{list_all}
use Rattle.std.proofs.lemmas.Bool.Decides.{nat_tests}
use Rattle.std.proofs.lemmas.List.{append-nil, append_assoc, length-append}
use Rattle.std.proofs.lemmas.List.Folds.{list_all-append}
use Rattle.std.proofs.lemmas.Option.{cond_some, same_Some}
use Rattle.tp_types.proofs.ListLemmas.{all_push}
use Rattle.tp_types.specs.Spelling.{is_digit, is_number, is_name_byte, spelled_from}
use Rattle.tp_policy_text.specs.Grammar.{Int, IsInt}
use Rattle.tp_policy_text.specs.Lexis.{first, in_word}
use Rattle.tp_policy_text.specs.mirrors.Readers.{Digits, int_at, int_end, int_of, int_step, is_some_text, takes_digit}
use Rattle.tp_policy_text.specs.mirrors.Readings.{ended, machine, read}
use Rattle.tp_policy_text.proofs.Choices.{retell}
use Rattle.tp_policy_text.proofs.Exact.{Exact}
use Rattle.tp_policy_text.proofs.Leaves.{Goes, IsLeaf, Sound, any_next, halted, leaf_exact, next_of, went}
use Rattle.tp_policy_text.proofs.Names.{Plain, give, give_none, plain_level, plain_shallow}

-- ---- digits so far

pub record NumberParts (head : ℕ) (others : List ℕ) : Type 0 where
  pub digit : is_digit head ≡ true
  pub digits : list_all is_digit others ≡ true
  pub leads : (others ≡ [] → ⊥) → 48 < head
  pub short : length others < 15

pub number_parts : (head : ℕ) (others : List ℕ) → is_number (head ∷ others) ≡ true → NumberParts head others
number_parts head [] h = record { digit = h; digits = refl; leads = λ some. absurd (some refl); short = omega (arith) }
number_parts head (other ∷ rest) h =
    let one = and_parts (is_digit head && nat_lt 48 head && list_all is_digit (other ∷ rest)) (nat_lt (length rest) 14) h in
    let two = and_parts (is_digit head && nat_lt 48 head) (list_all is_digit (other ∷ rest)) one.0 in
    let three = and_parts (is_digit head) (nat_lt 48 head) two.0 in
    let less = ltb-true (length rest) 14 one.1 in
    record { digit = three.0; digits = two.1; leads = λ some. ltb-true 48 head three.1; short = omega (arith, less) }

number_of_parts : (head : ℕ) (others : List ℕ) → NumberParts head others → is_number (head ∷ others) ≡ true
number_of_parts head [] h = h.digit
number_of_parts head (other ∷ rest) h =
    let short = h.short in
    and_from (is_digit head && nat_lt 48 head && list_all is_digit (other ∷ rest)) (nat_lt (length rest) 14)
    (and_from (is_digit head && nat_lt 48 head) (list_all is_digit (other ∷ rest))
    (and_from (is_digit head) (nat_lt 48 head) h.digit (lt-ltb 48 head (h.leads (λ none. wrong none)))) h.digits)
    (lt-ltb (length rest) 14 (omega (arith, short)))
  where
    wrong : other ∷ rest ≡ [] → ⊥
    wrong e = absurd (cc)

digit_bounds : (byte : ℕ) → is_digit byte ≡ true → (48 ≤ byte) × (byte ≤ 57)
digit_bounds byte e = (low byte (and_parts (nat_le 48 byte) (nat_le byte 57) e).0, high byte (and_parts (nat_le 48 byte) (nat_le byte 57) e).1)
  where
    low : (b : ℕ) → nat_le 48 b ≡ true → 48 ≤ b
    low b e2 = grind (arith, nat_tests)

    high : (b : ℕ) → nat_le b 57 ≡ true → b ≤ 57
    high b e2 = grind (arith, nat_tests)

not_zero : (byte : ℕ) → is_digit byte ≡ true → (byte == 48) ≡ false → 48 < byte
not_zero byte e other = let low = (digit_bounds byte e).0 in apart byte low other
  where
    apart : (b : ℕ) → 48 ≤ b → (b == 48) ≡ false → 48 < b
    apart b low2 e2 = grind (arith, nat_tests)

above_zero : (byte : ℕ) → 48 < byte → (byte == 48) ≡ false
above_zero byte e = grind (arith, nat_tests)

-- nothing, or a number that is not 0 behind a `-`
abbrev pub IsDigitsSoFar : Bool → List ℕ → Type 0
IsDigitsSoFar negative [] = Unit {0}
IsDigitsSoFar negative (head ∷ others) = (is_number (head ∷ others) ≡ true) × (negative ≡ true → 1 ≤ spelled_from 0 (head ∷ others))

spelled_more : (number : ℕ) (digits : List ℕ) → number ≤ spelled_from number digits
spelled_more number [] = omega (arith)
spelled_more number (digit ∷ digits) = let later = spelled_more (number * 10 + (digit - 48)) digits in omega (arith, later)

one_digit : (negative : Bool) (digits : List ℕ) (byte : ℕ) → IsDigitsSoFar negative digits → takes_digit negative digits byte ≡ true → IsDigitsSoFar negative (digits ++ byte ∷ [])
one_digit negative [] byte h e =
    let test = and_parts (is_digit byte) (not (negative && (byte == 48))) e in
    (test.0, λ minus. positive minus test.0 (not-true (negative && (byte == 48)) test.1))
  where
    positive : negative ≡ true → is_digit byte ≡ true → (negative && (byte == 48)) ≡ false → 1 ≤ spelled_from 0 (byte ∷ [])
    positive minus digit zero =
        let other : (byte == 48) ≡ false = sym (ap (λ (b : Bool). b && (byte == 48)) minus) ∙ zero in
        let above = not_zero byte digit other in
        omega (arith, above)
one_digit negative (head ∷ others) byte h e =
    let test = and_parts (is_digit byte && not (head == 48)) (nat_lt (length others) 14) e in
    let digit = and_parts (is_digit byte) (not (head == 48)) test.0 in
    let was = number_parts head others h.0 in
    let above = not_zero head was.digit (not-true (head == 48) digit.1) in
    let sum = length-append others (byte ∷ []) in
    let less = ltb-true (length others) 14 test.1 in
    let least = spelled_more (0 * 10 + (head - 48)) (others ++ byte ∷ []) in (
      number_of_parts head (others ++ byte ∷ []) (record {
        digit = was.digit;
        digits = all_push is_digit others byte was.digits digit.0;
        leads = λ some. above;
        short = omega (arith, sum, less);
      }),
      λ minus. omega (arith, above, least),
    )

may_take : (negative : Bool) (digits text : List ℕ) (byte : ℕ) → IsDigitsSoFar negative (digits ++ (byte ∷ text)) → takes_digit negative digits byte ≡ true
may_take negative [] text byte h =
    let was = number_parts byte text h.0 in
    and_from (is_digit byte) (not (negative && (byte == 48))) was.digit (not_from_false (negative && (byte == 48)) (no_minus_zero negative refl was))
  where
    zero_alone : (rest : List ℕ) → (byte == 48) ≡ true → NumberParts byte rest → 1 ≤ spelled_from 0 (byte ∷ rest) → ⊥
    zero_alone [] zero was least = let same = eqb-true byte 48 zero in omega (arith, same, least)
    zero_alone (other ∷ rest) zero was least = let same = eqb-true byte 48 zero in let above = was.leads (λ none. wrong none) in omega (arith, same, above)
      where
        wrong : other ∷ rest ≡ [] → ⊥
        wrong e = absurd (cc)

    no_minus_zero : (minus : Bool) → negative ≡ minus → NumberParts byte text → (minus && (byte == 48)) ≡ false
    no_minus_zero false e was = refl
    no_minus_zero true e was = by_zero (byte == 48) refl
      where
        by_zero : (b : Bool) → (byte == 48) ≡ b → b ≡ false
        by_zero false zero = refl
        by_zero true zero = absurd (zero_alone text zero was (h.1 e))
may_take negative (head ∷ others) text byte h =
    let was = number_parts head (others ++ (byte ∷ text)) h.0 in
    let halves = and_parts (list_all is_digit others) (list_all is_digit (byte ∷ text)) (sym (list_all-append is_digit others (byte ∷ text)) ∙ was.digits) in
    let sum = length-append others (byte ∷ text) in
    let short = was.short in
    and_from (is_digit byte && not (head == 48)) (nat_lt (length others) 14)
    (and_from (is_digit byte) (not (head == 48)) (and_parts (is_digit byte) (list_all is_digit text) halves.1).0
    (not_from_false (head == 48) (above_zero head (was.leads (λ none. no_none others none)))))
    (lt-ltb (length others) 14 (omega (arith, sum, short)))
  where
    no_none : (xs : List ℕ) → xs ++ (byte ∷ text) ≡ [] → ⊥
    no_none [] e = absurd (cc)
    no_none (x ∷ xs) e = absurd (cc)

-- ---- the states

abbrev pub state_of : Bool → List ℕ → Digits
state_of negative digits = record { negative = negative; digits = digits }

record Reads_digits (negative : Bool) (digits text : List ℕ) (last : Digits) : Type 0 where
  pub is : last ≡ state_of negative (digits ++ text)
  pub so_far : IsDigitsSoFar negative digits → IsDigitsSoFar negative (digits ++ text)

record Reads_minus (negative : Bool) (digits text : List ℕ) (last : Digits) : Type 0 where
  pub behind : List ℕ
  pub plus : negative ≡ false
  pub none : digits ≡ []
  pub parts : text ≡ 45 ∷ behind
  pub is : last ≡ state_of true behind
  pub so_far : IsDigitsSoFar true behind

digit_step : (negative : Bool) (digits : List ℕ) (byte : ℕ) (b : Bool) → takes_digit negative digits byte ≡ b
    → int_step (state_of negative digits) byte
    ≡ (if b then Some (state_of negative (digits ++ byte ∷ [])) else (if (byte == 45) && not negative && not (is_some_text digits) then Some (state_of true []) else None))
digit_step negative digits byte b e =
    ap (λ (v : Bool). if v then Some (state_of negative (digits ++ byte ∷ [])) else (if (byte == 45) && not negative && not (is_some_text digits) then Some (state_of true []) else None)) e

no_text : (digits : List ℕ) → is_some_text digits ≡ false → digits ≡ []
no_text [] e = refl
no_text (head ∷ others) e = absurd (cc)

record Negated (negative : Bool) (digits : List ℕ) (byte : ℕ) : Type 0 where
  pub minus : byte ≡ 45
  pub plus : negative ≡ false
  pub none : digits ≡ []

minus_parts : (negative : Bool) (digits : List ℕ) (byte : ℕ) → ((byte == 45) && not negative && not (is_some_text digits)) ≡ true → Negated negative digits byte
minus_parts negative digits byte e =
    let one = and_parts ((byte == 45) && not negative) (not (is_some_text digits)) e in
    let two = and_parts (byte == 45) (not negative) one.0 in
    record { minus = eqb-true byte 45 two.0; plus = not-true negative two.1; none = no_text digits (not-true (is_some_text digits) one.1) }

digits_only : (digits text : List ℕ) (last : Digits) → Goes int_step (state_of true digits) text last → Reads_digits true digits text last
digits_only digits [] last h = record { is = sym h ∙ ap (state_of true) (sym (append-nil digits)); so_far = λ k. subst (IsDigitsSoFar true) (sym (append-nil digits)) k }
digits_only digits (byte ∷ text) last (next, e, later) = by_digit (takes_digit true digits byte) refl (λ digits2 goes. digits_only digits2 text last goes)
  where
    by_digit : (b : Bool) → takes_digit true digits byte ≡ b → ((digits2 : List ℕ) → Goes int_step (state_of true digits2) text last → Reads_digits true digits2 text last) → Reads_digits true digits (byte ∷ text) last
    by_digit true took rec =
        let at = same_Some (state_of true (digits ++ byte ∷ [])) next (sym (digit_step true digits byte true took) ∙ e) in
        let rest = rec (digits ++ byte ∷ []) (subst (λ s. Goes int_step s text last) (sym at) later) in
        let whole : (digits ++ byte ∷ []) ++ text ≡ digits ++ (byte ∷ text) = append_assoc digits (byte ∷ []) text in
        record { is = rest.is ∙ ap (state_of true) whole; so_far = λ k. subst (IsDigitsSoFar true) whole (rest.so_far (one_digit true digits byte k took)) }
    by_digit false took rec = absurd (wrong (cond_some ((byte == 45) && false && not (is_some_text digits)) (state_of true []) next (sym (digit_step true digits byte false took) ∙ e)).0)
      where
        wrong : ((byte == 45) && false && not (is_some_text digits)) ≡ true → ⊥
        wrong e2 = not_both ((minus_parts true digits byte e2).plus)
          where
            not_both : ◌≡◌ {A = Bool} true false → ⊥
            not_both e3 = absurd (cc)

digits_of : (digits text : List ℕ) (last : Digits) → Goes int_step (state_of false digits) text last → Reads_digits false digits text last ⊎ Reads_minus false digits text last
digits_of digits [] last h = inl (record { is = sym h ∙ ap (state_of false) (sym (append-nil digits)); so_far = λ k. subst (IsDigitsSoFar false) (sym (append-nil digits)) k })
digits_of digits (byte ∷ text) last (next, e, later) = by_digit (takes_digit false digits byte) refl (λ digits2 goes. digits_of digits2 text last goes)
  where
    some_now : (xs : List ℕ) → xs ++ byte ∷ [] ≡ [] → ⊥
    some_now [] e2 = absurd (cc)
    some_now (x ∷ xs) e2 = absurd (cc)

    by_rest : takes_digit false digits byte ≡ true → Reads_digits false (digits ++ byte ∷ []) text last ⊎ Reads_minus false (digits ++ byte ∷ []) text last → Reads_digits false digits (byte ∷ text) last ⊎ Reads_minus false digits (byte ∷ text) last
    by_rest took (inl rest) =
        let whole : (digits ++ byte ∷ []) ++ text ≡ digits ++ (byte ∷ text) = append_assoc digits (byte ∷ []) text in
        inl (record { is = rest.is ∙ ap (state_of false) whole; so_far = λ k. subst (IsDigitsSoFar false) whole (rest.so_far (one_digit false digits byte k took)) })
    by_rest took (inr rest) = absurd (some_now digits rest.none)

    by_digit : (b : Bool) → takes_digit false digits byte ≡ b → ((digits2 : List ℕ) → Goes int_step (state_of false digits2) text last → Reads_digits false digits2 text last ⊎ Reads_minus false digits2 text last)
        → Reads_digits false digits (byte ∷ text) last ⊎ Reads_minus false digits (byte ∷ text) last
    by_digit true took rec =
        let at = same_Some (state_of false (digits ++ byte ∷ [])) next (sym (digit_step false digits byte true took) ∙ e) in
        by_rest took (rec (digits ++ byte ∷ []) (subst (λ s. Goes int_step s text last) (sym at) later))
    by_digit false took rec =
        let step = cond_some ((byte == 45) && true && not (is_some_text digits)) (state_of true []) next (sym (digit_step false digits byte false took) ∙ e) in
        let sign = minus_parts false digits byte step.0 in
        let rest = digits_only [] text last (subst (λ s. Goes int_step s text last) (sym step.1) later) in
        inr (record {
          behind = text;
          plus = refl;
          none = sign.none;
          parts = ap (λ (b : ℕ). b ∷ text) sign.minus;
          is = rest.is;
          so_far = rest.so_far (tt);
        })

digits_go : (negative : Bool) (digits text : List ℕ) → IsDigitsSoFar negative (digits ++ text) → Goes int_step (state_of negative digits) text (state_of negative (digits ++ text))
digits_go negative digits [] h = ap (state_of negative) (sym (append-nil digits))
digits_go negative digits (byte ∷ text) h =
    let same : digits ++ (byte ∷ text) ≡ (digits ++ byte ∷ []) ++ text = sym (append_assoc digits (byte ∷ []) text) in (
      state_of negative (digits ++ byte ∷ []),
      digit_step negative digits byte true (may_take negative digits text byte h),
      subst (λ l. Goes int_step (state_of negative (digits ++ byte ∷ [])) text (state_of negative l)) (sym same) (digits_go negative (digits ++ byte ∷ []) text (subst (IsDigitsSoFar negative) same h)),
    )

-- ---- the end

no_digit : (negative : Bool) (digits : List ℕ) (byte : ℕ) → is_digit byte ≡ false → takes_digit negative digits byte ≡ false
no_digit negative [] byte e = and_left (is_digit byte) (not (negative && (byte == 48))) e
no_digit negative (head ∷ others) byte e = and_left (is_digit byte && not (head == 48)) (nat_lt (length others) 14) (and_left (is_digit byte) (not (head == 48)) e)

no_step : (negative : Bool) (digits : List ℕ) (byte : ℕ) → is_digit byte ≡ false → ((byte == 45) && not negative && not (is_some_text digits)) ≡ false → int_step (state_of negative digits) byte ≡ None
no_step negative digits byte e other = digit_step negative digits byte false (no_digit negative digits byte e) ∙ give_none ((byte == 45) && not negative && not (is_some_text digits)) (state_of true []) other

no_sign : (d : Digits) (byte : ℕ) → is_digit byte ≡ false → (byte == 45) ≡ false → int_step d byte ≡ None
no_sign d byte e other =
    no_step d.negative d.digits byte e (and_left ((byte == 45) && not d.negative) (not (is_some_text d.digits)) (and_left (byte == 45) (not d.negative) other))

digit_is_part : (byte : ℕ) → is_name_byte byte ≡ false → is_digit byte ≡ false
digit_is_part byte e = by_digit (is_digit byte) refl
  where
    by_digit : (b : Bool) → is_digit byte ≡ b → b ≡ false
    by_digit false e2 = refl
    by_digit true e2 = absurd (wrong byte (digit_bounds byte e2).0 (digit_bounds byte e2).1 e)
      where
        wrong : (n : ℕ) → 48 ≤ n → n ≤ 57 → is_name_byte n ≡ false → ⊥
        wrong n low high e3 = grind (arith, nat_tests)

no_next_digit : (negative : Bool) (digits : List ℕ) (o : Option ℕ) → is_some_text digits ≡ true → in_word o ≡ false → next_of int_step (state_of negative digits) o ≡ None
no_next_digit negative digits None some e = refl
no_next_digit negative digits (Some byte) some e =
    no_step negative digits byte (digit_is_part byte e) (and_right ((byte == 45) && not negative) (not (is_some_text digits)) (ap not some))

int_plain : Plain int_step
int_plain = record { opens = λ d. no_sign d 40 refl refl; closes = λ d. no_sign d 41 refl refl }

int_ended : (d : Digits) (o : Option ℕ) (found : ℤ) → int_end d o ≡ Some found → (is_some_text d.digits ≡ true) × (in_word o ≡ false) × (int_of d ≡ found)
int_ended d o found h =
    let step = cond_some (is_some_text d.digits && not (in_word o)) (int_of d) found h in
    let parts = and_parts (is_some_text d.digits) (not (in_word o)) step.0 in
    (parts.0, not-true (in_word o) parts.1, step.1)

int_ends : (d : Digits) (o : Option ℕ) → is_some_text d.digits ≡ true → in_word o ≡ false → int_end d o ≡ Some (int_of d)
int_ends d o some free = give (is_some_text d.digits && not (in_word o)) (int_of d) (and_from (is_some_text d.digits) (not (in_word o)) some (not_from_false (in_word o) free))

record DigitEnd (negative : Bool) (digits : List ℕ) : Type 0 where
  pub more : List ℕ
  pub goes : Goes int_step (state_of negative digits) more (state_of negative (digits ++ more))
  pub some : is_some_text (digits ++ more) ≡ true

digit_finish : (negative : Bool) (digits : List ℕ) → DigitEnd negative digits
digit_finish true [] = record { more = 49 ∷ []; goes = (state_of true (49 ∷ []), refl, refl); some = refl }
digit_finish false [] = record { more = 49 ∷ []; goes = (state_of false (49 ∷ []), refl, refl); some = refl }
digit_finish negative (head ∷ others) = record { more = []; goes = ap (state_of negative) (sym (append-nil (head ∷ others))); some = refl }

int_sound : (d : ℕ) → Sound int_step int_end (state_of false []) d d
int_sound d = record {
  blank = λ state o found h. let over = int_ended state o found h in
      (no_sign state 32 refl refl, int_ends state (Some 32) over.0 refl ∙ ap (λ (z : ℤ). Some z) over.2);
  solid = λ o found h. wrong (int_ended (state_of false []) o found h).0;
  finish = λ state. let end = digit_finish state.negative state.digits in record {
    more = end.more ++ (32 ∷ []);
    value = int_of (state_of state.negative (state.digits ++ end.more));
    ends = λ u tight. ap (λ l. machine int_step int_end state l) (append_assoc end.more (32 ∷ []) u)
        ∙ (went int_step int_end state (state_of state.negative (state.digits ++ end.more)) end.more (32 ∷ u) end.goes
        ∙ (halted int_step int_end (state_of state.negative (state.digits ++ end.more)) (32 ∷ u) (no_sign (state_of state.negative (state.digits ++ end.more)) 32 refl refl)
        ∙ (ap (λ (o : Option ℤ). ended o (32 ∷ u)) (int_ends (state_of state.negative (state.digits ++ end.more)) (Some 32) end.some refl)
        ∙ ap (λ l. read (int_of (state_of state.negative (state.digits ++ end.more))) l) tight)));
  };
  some = record {
    byte = 49;
    others = 32 ∷ [];
    value = int_of (state_of false (49 ∷ []));
    tight = refl;
    ends = λ u tight. ap (λ l. read (int_of (state_of false (49 ∷ []))) l) tight;
  };
  level = λ text last o a goes h. plain_level int_step int_plain d (state_of false []) last text goes;
  shallow = λ text last goes. plain_shallow int_step int_plain d (state_of false []) last text goes;
}
  where
    wrong : ◌≡◌ {A = Bool} false true → ⊥
    wrong e = absurd (cc)

-- ---- the tie to the grammar

number_of : (negative : Bool) (digits : List ℕ) → is_some_text digits ≡ true → IsDigitsSoFar negative digits → (is_number digits ≡ true) × (negative ≡ true → 1 ≤ spelled_from 0 digits)
number_of negative [] some h = absurd (cc)
number_of negative (head ∷ others) some h = h

some_number : (digits : List ℕ) → is_number digits ≡ true → is_some_text digits ≡ true
some_number [] h = absurd (cc)
some_number (head ∷ others) h = refl

so_far_of : (negative : Bool) (digits : List ℕ) → is_number digits ≡ true → (negative ≡ true → 1 ≤ spelled_from 0 digits) → IsDigitsSoFar negative digits
so_far_of negative [] h above = tt
so_far_of negative (head ∷ others) h above = (h, above)

leaf_int : (z : ℤ) (s t : List ℕ) → IsLeaf int_step int_end (state_of false []) z s t → Int z s t
leaf_int z s t h = by_state (digits_of [] h.text h.last h.goes)
  where
    by_state : Reads_digits false [] h.text h.last ⊎ Reads_minus false [] h.text h.last → Int z s t
    by_state (inl k) =
        let over = int_ended (state_of false h.text) (first h.after) z (subst (λ d. int_end d (first h.after) ≡ Some z) k.is h.ends) in
        record {
          text = h.text;
          spelled = inl (record { digits = (number_of false h.text over.0 (k.so_far (tt))).0; number_is = sym over.2 });
          word = record { after = h.after; begins = h.parts; is_apart = over.1; left_is = h.left };
        }
    by_state (inr k) =
        let over = int_ended (state_of true k.behind) (first h.after) z (subst (λ d. int_end d (first h.after) ≡ Some z) k.is h.ends) in
        let number = number_of true k.behind over.0 k.so_far in
        record {
          text = h.text;
          spelled = inr (record { digits = k.behind; signed = k.parts; are_digits = number.0; not_zero = number.1 refl; number_is = sym over.2 });
          word = record { after = h.after; begins = h.parts; is_apart = over.1; left_is = h.left };
        }

int_leaf : (z : ℤ) (s t : List ℕ) → Int z s t → IsLeaf int_step int_end (state_of false []) z s t
int_leaf z s t h = by_sign h.spelled
  where
    not_negative : ◌≡◌ {A = Bool} false true → ⊥
    not_negative e = absurd (cc)

    by_sign : IsInt h.text z → IsLeaf int_step int_end (state_of false []) z s t
    by_sign (inl k) = record {
      text = h.text;
      after = h.word.after;
      last = state_of false h.text;
      parts = h.word.begins;
      goes = digits_go false [] h.text (so_far_of false h.text k.digits (λ minus. absurd (not_negative minus)));
      halts = no_next_digit false h.text (first h.word.after) (some_number h.text k.digits) h.word.is_apart;
      ends = int_ends (state_of false h.text) (first h.word.after) (some_number h.text k.digits) h.word.is_apart ∙ ap (λ (w : ℤ). Some w) (sym k.number_is);
      left = h.word.left_is;
    }
    by_sign (inr k) = record {
      text = 45 ∷ k.digits;
      after = h.word.after;
      last = state_of true k.digits;
      parts = h.word.begins ∙ ap (λ l. l ++ h.word.after) k.signed;
      goes = (state_of true [], refl, digits_go true [] k.digits (so_far_of true k.digits k.are_digits (λ minus. k.not_zero)));
      halts = no_next_digit true k.digits (first h.word.after) (some_number k.digits k.are_digits) h.word.is_apart;
      ends = int_ends (state_of true k.digits) (first h.word.after) (some_number k.digits k.are_digits) h.word.is_apart ∙ ap (λ (w : ℤ). Some w) (sym k.number_is);
      left = h.word.left_is;
    }

pub int_exact : (d n : ℕ) → Exact Int Int any_next d d n int_at
int_exact d n =
    retell (IsLeaf int_step int_end (state_of false [])) (IsLeaf int_step int_end (state_of false [])) Int Int any_next any_next d d n n int_at
    (leaf_exact int_step int_end (state_of false []) d d n (int_sound d))
    (record {
      to = λ s t a h. leaf_int a s t h;
      from = λ s t a may h. int_leaf a s t h;
      from_wide = λ s t a may h. int_leaf a s t h;
      to_wide = λ s t a h. leaf_int a s t h;
      wide = λ s t a h. h;
      allows = λ o may. refl;
    })
    (omega (arith))
