-- A number's decimal digits spell it, and at most fifteen digits spell a number of the grammar.
use Rattle.std.proofs.lemmas.Bool.{and_from, and_parts, lt-ltb, ltb-true}
use Rattle.std.proofs.Common.{◌≡◌, inl, inr, ℕ, zero, suc, ◌^◌, ◌<◌, ◌≤◌, ◌&&◌, nat_lt, List, [], ◌∷◌, ◌++◌, length, get_or, true, false, refl, sym, ap, subst, arith, rules, ℤ, pos, negsuc, neg_ℤ}
use Rattle.std.specs.Fmt.{decimal, signed_decimal}
use Rattle.std.specs.List.{list_all}
use Rattle.std.proofs.Math.Nat.{pow-le-pow_right}
use Rattle.std.proofs.lemmas.Bool.Decides.{nat_tests}
use Rattle.std.proofs.lemmas.Fmt.{decimal_digit, decimal_nonempty, digits_decimal, digits_value-decimal, first_decimal, length-decimal-le}
use Rattle.std.proofs.lemmas.Int.Digits.{digits_value-lt}
use Rattle.std.proofs.lemmas.Str.Parse.{IsNumeralModel, numerals_by_fold}
use Rattle.tp_types.specs.Spelling.{is_digit, is_number, spelled_from}
use Rattle.tp_policy_text.specs.Grammar.{IsInt}
use Rattle.tp_policy_text.specs.Lexis.{is_blank}
use Rattle.tp_policy_text.specs.Printed.{distance}
use Rattle.tp_policy_text.proofs.Numbers.{number_parts}
use Rattle.tp_policy_text.proofs.Texts.{IsTight, tight_byte}

own : IsNumeralModel (λ ds. list_all is_digit ds ≡ true) (spelled_from 0)
own = numerals_by_fold _ (search rules) spelled_from (search rules)

-- ---- a number's digits are a number

-- digits with no 0 in front, unless there is no other
number_of : (digits : List ℕ) → list_all is_digit digits ≡ true → 0 < length digits → length digits ≤ 15 → (1 < length digits → 48 < get_or digits 0 0) → is_number digits ≡ true
number_of [] all some short leads = absurd (omega (arith, some))
number_of (digit ∷ []) all some short leads = (and_parts (is_digit digit) true all).0
number_of (digit ∷ other ∷ digits) all some short leads =
    let parts = and_parts (is_digit digit) (list_all is_digit (other ∷ digits)) all in
    and_from (is_digit digit && nat_lt 48 digit && list_all is_digit (other ∷ digits)) (nat_lt (length digits) 14)
    (and_from (is_digit digit && nat_lt 48 digit) (list_all is_digit (other ∷ digits))
    (and_from (is_digit digit) (nat_lt 48 digit) parts.0 (lt-ltb 48 digit (leads (omega (arith))))) parts.1)
    (lt-ltb (length digits) 14 (omega (arith, short)))

decimal_is_number : (n : ℕ) → n < 10 ^ 15 → is_number (decimal n) ≡ true
decimal_is_number n small =
    number_of (decimal n) (digits_decimal own n (omega (arith, small))) (decimal_nonempty n (omega (arith, small)))
    (length-decimal-le 15 n (omega (arith)) small (omega (arith, small)))
    (λ many. first_decimal n (not_zero n many) (omega (arith, small)))
  where
    not_zero : (m : ℕ) → 1 < length (decimal m) → 0 < m
    not_zero zero many = let one = ap length (decimal_digit 0 (omega (arith))) in absurd (omega (arith, one, many))
    not_zero (suc m) many = omega (arith)

decimal_spells : (n : ℕ) → n < 10 ^ 15 → spelled_from 0 (decimal n) ≡ n
decimal_spells n small = digits_value-decimal own n (omega (arith, small))

pub prints_int : (z : ℤ) → nat_lt (distance z) (10 ^ 15) ≡ true → IsInt (signed_decimal z) z
prints_int (pos n) h =
    let small = ltb-true n (10 ^ 15) h in
    inl (record { digits = decimal_is_number n small; number_is = ap pos (sym (decimal_spells n small)) })
prints_int (negsuc n) h =
    let small = ltb-true (suc n) (10 ^ 15) h in
    let spells = decimal_spells (suc n) small in
    inr (record {
      digits = decimal (suc n);
      signed = refl;
      are_digits = decimal_is_number (suc n) small;
      not_zero = omega (arith, spells);
      number_is = ap (λ (m : ℕ). neg_ℤ (pos m)) (sym spells);
    })

-- ---- an integer of the grammar has at most fifteen digits

number_less : (digits : List ℕ) → list_all is_digit digits ≡ true → length digits ≤ 15 → spelled_from 0 digits < 10 ^ 15
number_less digits all short =
    let are = own.to digits all in
    let same = own.same digits are in
    let less = digits_value-lt 10 digits are in
    let most : 10 ^ length digits ≤ 10 ^ 15 = pow-le-pow_right (omega (arith)) short in
    omega (arith, same, less, most)

digits_less : (digits : List ℕ) → is_number digits ≡ true → spelled_from 0 digits < 10 ^ 15
digits_less [] h = absurd (cc)
digits_less (head ∷ others) h =
    let parts = number_parts head others h in
    let short = parts.short in
    number_less (head ∷ others) (and_from (is_digit head) (list_all is_digit others) parts.digit parts.digits) (omega (arith, short))

-- ---- texts of integers

some_int : (text : List ℕ) → is_number text ≡ true → (r : List ℕ) → IsTight (text ++ r)
some_int [] h r = absurd (cc)
some_int (head ∷ others) h r = tight_byte head (others ++ r) (digit_tight head (number_parts head others h).digit)
  where
    digit_tight : (byte : ℕ) → is_digit byte ≡ true → is_blank byte ≡ false
    digit_tight byte e = grind (arith, nat_tests)

pub int_tight : (text : List ℕ) (z : ℤ) → IsInt text z → (r : List ℕ) → IsTight (text ++ r)
int_tight text z (inl h) r = some_int text h.digits r
int_tight text z (inr h) r = subst (λ l. IsTight (l ++ r)) (sym h.signed) refl

pub int_short : (text : List ℕ) (z : ℤ) → IsInt text z → nat_lt (distance z) (10 ^ 15) ≡ true
int_short text z (inl h) = subst (λ w. nat_lt (distance w) (10 ^ 15) ≡ true) (sym h.number_is) (lt-ltb (spelled_from 0 text) (10 ^ 15) (digits_less text h.digits))
int_short text z (inr h) =
    subst (λ w. nat_lt (distance w) (10 ^ 15) ≡ true) (sym h.number_is)
    (lt-ltb (distance (neg_ℤ (pos (spelled_from 0 h.digits)))) (10 ^ 15) (negated (spelled_from 0 h.digits) (digits_less h.digits h.are_digits)))
  where
    negated : (n : ℕ) → n < 10 ^ 15 → distance (neg_ℤ (pos n)) < 10 ^ 15
    negated zero less = less
    negated (suc n) less = less
