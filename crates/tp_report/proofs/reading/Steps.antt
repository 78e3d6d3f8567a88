-- Which tokens lead on: names, numbers and values.
use Rattle.std.proofs.Common.{◌≡◌, ◌%◌, ◌/◌, ◌≢◌, ◌≤◌, ◌<◌, ◌+◌, ◌^◌, ℕ, ◌==◌, ◌&&◌, ◌||◌, nat_lt, not, Bool, true, false, if◌then◌else◌, List, [], ◌∷◌, ◌++◌, length, map, slice_get, Option, Some, None, option_map, option_and_then, zero, suc, ℤ, pos, negsuc, refl, sym, ap, subst, ◌∙◌, arith, decimal}
use Rattle.std.specs.Cmp.Lexicographic.{pointwise}
use Rattle.std.specs.Fmt.{digit_glyph, digits, digits_onto, signed_decimal}
use Rattle.tp_types.proofs.EachLemmas.{by_cond}
use Rattle.std.specs.List.{list_all, list_any}
use Rattle.std.specs.Option.{option_or}
use Rattle.std.specs.Str.Parse.{AllDigits, digits_value}
use Rattle.std.proofs.lemmas.Bool.{and_from, and_parts, lt-ltb, ltb-true}
use Rattle.std.proofs.lemmas.Bool.Decides.{nat_tests}
use Rattle.std.proofs.lemmas.Fmt.{decimal_is_IsNumeral_wide}
use Rattle.std.proofs.lemmas.List.Folds.{list_all-append}
use Rattle.std.proofs.lemmas.Str.Parse.{digit_from_value}
use Rattle.std.proofs.lemmas.Option.{same_Some}
use Rattle.tp_model.specs.Ids.{same_name}
use Rattle.tp_model.specs.Valid.{are_distinct}
use Rattle.tp_types.specs.Spelling.{is_digit}
use Rattle.tp_model.specs.Printable.{is_i128}
use Rattle.tp_report.specs.Tokens.{Token}
use Rattle.tp_report.proofs.reading.Tree.{Either, Exactly, Leads, Named, Numbered, Takes, Then, Tree, Valued, below, in_range, negative, number_behind, number_of, place_of, same_bytes, same_token, step, take, value_of, where_ended}
use Rattle.tp_report.proofs.reading.Words.{is_clean, is_ending, is_word_byte}

-- ---- equal bytes

pub same_itself : (bytes : List ℕ) → same_bytes bytes bytes ≡ true
same_itself [] = refl
same_itself (byte ∷ bytes) = and_from (byte == byte) (same_bytes bytes bytes) (grind (arith, nat_tests)) (same_itself bytes)

pub same_is : (one other : List ℕ) → same_bytes one other ≡ true → one ≡ other
same_is [] [] e = refl
same_is [] (byte ∷ bytes) e = absurd (cc)
same_is (byte ∷ bytes) [] e = absurd (cc)
same_is (byte ∷ bytes) (next ∷ nexts) e =
    let both = and_parts (byte == next) (same_bytes bytes nexts) e in
    let first : byte ≡ next = grind (arith, nat_tests) in
    cc (first, same_is bytes nexts both.1)

pub token_itself : (token : Token) → same_token token token ≡ true
token_itself token = and_from (same_bytes token.word token.word) (token.ending == token.ending) (same_itself token.word) (grind (arith, nat_tests))

-- ---- digits

digits_clean : (digits : List ℕ) → AllDigits 10 digits → list_all is_word_byte digits ≡ true
digits_clean [] h = refl
digits_clean (digit ∷ digits) h =
    let range = digit_from_value digit h.0 in
    and_from (is_word_byte digit) (list_all is_word_byte digits) (grind (arith, nat_tests)) (digits_clean digits h.1)

pub decimal_clean : (n : ℕ) → n < 10 ^ 64 → list_all is_word_byte (decimal n) ≡ true
decimal_clean n h = digits_clean (decimal n) (decimal_is_IsNumeral_wide n h).0.1

-- the form of any number has digits alone
glyph_clean : (n : ℕ) → is_word_byte (digit_glyph false (n % 10)) ≡ true
glyph_clean n =
    let low : nat_lt (n % 10) 10 ≡ true = lt-ltb (n % 10) 10 (omega arith) in
    subst (λ (b : Bool). is_word_byte (if b then 48 + n % 10 else 87 + n % 10) ≡ true) (sym low) (near (n % 10) (omega arith))
  where
    near : (d : ℕ) → d < 10 → is_word_byte (48 + d) ≡ true
    near d h = grind (arith, nat_tests)

onto_clean : (k n : ℕ) (behind : List ℕ) → list_all is_word_byte behind ≡ true → list_all is_word_byte (digits_onto k 10 false n behind) ≡ true
onto_clean zero n behind h = h
onto_clean (suc k) n behind h =
    let next = and_from (is_word_byte (digit_glyph false (n % 10))) (list_all is_word_byte behind) (glyph_clean n) h in
    by_cond (λ (digits : List ℕ). list_all is_word_byte digits ≡ true) (n / 10 == 0) (λ last. next) (λ more. onto_clean k (n / 10) (digit_glyph false (n % 10) ∷ behind) next)

pub any_decimal_clean : (n : ℕ) → list_all is_word_byte (decimal n) ≡ true
unfolding digits
any_decimal_clean n = onto_clean 64 n [] refl

pub number_read : (n : ℕ) → n < 10 ^ 64 → number_of (decimal n) ≡ Some n
number_read n h =
    let numeral = decimal_is_IsNumeral_wide n h in
    by_form (decimal n) numeral.0.1 numeral.0.0 numeral.1 (ap (λ (bytes : List ℕ). same_bytes bytes (decimal n)) (ap decimal numeral.1) ∙ same_itself (decimal n))
  where
    by_form : (digits : List ℕ) → AllDigits 10 digits → 0 < length digits → digits_value 10 digits ≡ n → same_bytes (decimal (digits_value 10 digits)) digits ≡ true → number_of digits ≡ Some n
    by_form [] all some value same = absurd (omega (arith, some))
    by_form (digit ∷ digits) all some value same =
        let range = digit_from_value digit all.0 in
        let is : is_digit digit ≡ true = grind (arith, nat_tests) in
        ap (λ (b : Bool). if b then Some (digits_value 10 (digit ∷ digits)) else None) (and_from _ _ is same) ∙ ap (λ (m : ℕ). Some m) value

pub behind_read : (front : List ℕ) (n : ℕ) → n < 10 ^ 64 → number_behind front (front ++ decimal n) ≡ Some n
behind_read [] n h = number_read n h
behind_read (byte ∷ front) n h =
    let same : (byte == byte) ≡ true = grind (arith, nat_tests) in
    ap (λ (b : Bool). if b then number_behind front (front ++ decimal n) else None) same ∙ behind_read front n h

-- a text of digits has no sign
no_sign : (digits : List ℕ) → AllDigits 10 digits → 0 < length digits → value_of digits ≡ option_map pos (number_of digits)
no_sign [] h some = absurd (omega (arith, some))
no_sign (digit ∷ digits) h some =
    let range = digit_from_value digit h.0 in
    let plain : (digit == 45) ≡ false = grind (arith, nat_tests) in
    ap (λ (b : Bool). if b then option_and_then negative (number_of digits) else option_map pos (number_of (digit ∷ digits))) plain

in_range_wide : (value : ℤ) → is_i128 value ≡ true → in_range value ≡ Some value
in_range_wide value h = ap (λ (b : Bool). if b then Some value else None) h

pub value_read : (value : ℤ) → is_i128 value ≡ true → option_and_then in_range (value_of (signed_decimal value)) ≡ Some value
value_read (pos n) h =
    let small : n < 10 ^ 64 = omega (arith, ltb-true n (2 ^ 127) h) in
    let numeral = (decimal_is_IsNumeral_wide n small).0 in
    ap (option_and_then in_range) (no_sign (decimal n) numeral.1 numeral.0 ∙ ap (option_map pos) (number_read n small)) ∙ in_range_wide (pos n) h
value_read (negsuc n) h =
    let small : suc n < 10 ^ 64 = omega (arith, ltb-true n (2 ^ 127) h) in
    ap (λ (found : Option ℕ). option_and_then in_range (option_and_then negative found)) (number_read (suc n) small) ∙ in_range_wide (negsuc n) h

pub value_clean : (value : ℤ) → is_i128 value ≡ true → list_all is_word_byte (signed_decimal value) ≡ true
value_clean (pos n) h = decimal_clean n (omega (arith, ltb-true n (2 ^ 127) h))
value_clean (negsuc n) h = decimal_clean (suc n) (omega (arith, ltb-true n (2 ^ 127) h))

-- ---- one token

clean_token : (bytes : List ℕ) (ending : ℕ) → list_all is_word_byte bytes ≡ true → is_ending ending ≡ true → is_clean (record { word = bytes; ending = ending }) ≡ true
clean_token bytes ending b e = and_from (list_all is_word_byte bytes) (is_ending ending) b e

ended : {H : Type 0} (ending : ℕ) (token : Token) (next : Option (Tree H)) → token.ending ≡ ending → where_ended ending token next ≡ next
ended ending token next e =
    let same : (token.ending == ending) ≡ true = grind (arith, nat_tests) in
    ap (λ (b : Bool). if b then next else None) same

-- a token that the text has
pub known : {H : Type 0} {hub : H → Tree H} {tree next : Tree H} {token : Token} → is_clean token ≡ true → take hub tree token ≡ Some next → Takes hub tree token next
known clean leads = record { clean = clean; leads = leads }

pub exactly : {H : Type 0} {hub : H → Tree H} {rest : Tree H} (token : Token) → is_clean token ≡ true → Takes hub (Exactly token rest) token rest
exactly {H} {hub} {rest} token clean = record { clean = clean; leads = ap (λ (same : Bool). if same then Some rest else None) (token_itself token) }

pub numbered : {H : Type 0} {hub : H → Tree H} {rest : ℕ → Tree H} (front : List ℕ) (bound ending n : ℕ) → list_all is_word_byte front ≡ true → is_ending ending ≡ true → bound ≤ 2 ^ 64 → nat_lt n bound ≡ true
    → Takes hub (Numbered front bound ending rest) (record { word = front ++ decimal n; ending = ending }) (rest n)
numbered {H} {hub} {rest} front bound ending n f e wide h =
    let small : n < 10 ^ 64 = omega (arith, wide, ltb-true n bound h) in
    record {
      clean = clean_token (front ++ decimal n) ending (list_all-append is_word_byte front (decimal n) ∙ and_from _ _ f (decimal_clean n small)) e;
      leads = ended ending (record { word = front ++ decimal n; ending = ending }) _ refl
          ∙ ap (option_map rest) (ap (option_and_then (below bound)) (behind_read front n small) ∙ ap (λ (b : Bool). if b then Some n else None) h);
    }

pub named : {H : Type 0} {hub : H → Tree H} {rest : ℕ → Tree H} (names : List (List ℕ)) (ending i : ℕ) (bytes : List ℕ) → list_all is_word_byte bytes ≡ true → is_ending ending ≡ true → place_of names bytes ≡ Some i
    → Takes hub (Named names ending rest) (record { word = bytes; ending = ending }) (rest i)
named {H} {hub} {rest} names ending i bytes b e found =
    record { clean = clean_token bytes ending b e; leads = ended ending (record { word = bytes; ending = ending }) _ refl ∙ ap (option_map rest) found }

pub valued : {H : Type 0} {hub : H → Tree H} {rest : ℤ → Tree H} (value : ℤ) → is_i128 value ≡ true
    → Takes hub (Valued rest) (record { word = signed_decimal value; ending = 10 }) (rest value)
valued {H} {hub} {rest} value h =
    record { clean = clean_token (signed_decimal value) 10 (value_clean value h) refl; leads = ap (option_map rest) (value_read value h) }

-- the first choice, or the second where the token is none of the first
pub first_of : {H : Type 0} {hub : H → Tree H} {one other next : Tree H} {token : Token} → Takes hub one token next → take hub one token ≡ step one token → Takes hub (Either one other) token next
first_of {H} {hub} {one} {other} {next} {token} takes plain = record { clean = takes.clean; leads = ap (λ (found : Option (Tree H)). option_or found (step other token)) (sym plain ∙ takes.leads) }

pub second_of : {H : Type 0} {hub : H → Tree H} {one other next : Tree H} {token : Token} → step one token ≡ None → Takes hub other token next → take hub other token ≡ step other token → Takes hub (Either one other) token next
second_of {H} {hub} {one} {other} {next} {token} none takes plain = record { clean = takes.clean; leads = ap (λ (found : Option (Tree H)). option_or found (step other token)) none ∙ (sym plain ∙ takes.leads) }

-- ---- names

or_parts : (one other : Bool) → (one || other) ≡ false → (one ≡ false) × (other ≡ false)
or_parts true other e = absurd (cc)
or_parts false true e = absurd (cc)
or_parts false false e = (refl, refl)

not_true : (b : Bool) → not b ≡ true → b ≡ false
not_true true e = absurd (cc)
not_true false e = refl

-- what no member passes, none at a place does
pub none_at : {A : Type 0} (test : A → Bool) (xs : List A) (k : ℕ) (found : A) → slice_get xs k ≡ Some found → list_any test xs ≡ false → test found ≡ false
none_at test [] k found e none = absurd (cc)
none_at test (x ∷ xs) zero found e none = ap test (sym (same_Some x found e)) ∙ (or_parts (test x) (list_any test xs) none).0
none_at test (x ∷ xs) (suc k) found e none = none_at test xs k found e (or_parts (test x) (list_any test xs) none).1

pub place_found : (names : List (List ℕ)) (i : ℕ) (bytes : List ℕ) → are_distinct same_name names ≡ true → slice_get names i ≡ Some bytes → place_of names bytes ≡ Some i
place_found [] i bytes apart found = absurd (cc)
place_found (name ∷ names) zero bytes apart found =
    subst (λ (b : List ℕ). place_of (name ∷ names) b ≡ Some 0) (same_Some name bytes found) (ap (λ (same : Bool). if same then Some 0 else option_map suc (place_of names name)) (same_itself name))
place_found (name ∷ names) (suc i) bytes apart found =
    let parts = and_parts (not (list_any (same_name name) names)) (are_distinct same_name names) apart in
    let other : same_bytes name bytes ≡ false = none_at (same_name name) names i bytes found (not_true (list_any (same_name name) names) parts.0) in
    ap (λ (same : Bool). if same then Some 0 else option_map suc (place_of names bytes)) other ∙ ap (option_map suc) (place_found names i bytes parts.1 found)

-- a name that none has
pub no_place : (names : List (List ℕ)) (bytes : List ℕ) → list_any (λ (name : List ℕ). same_name name bytes) names ≡ false → place_of names bytes ≡ None
no_place [] bytes none = refl
no_place (name ∷ names) bytes none =
    let parts = or_parts (same_name name bytes) (list_any (λ (other : List ℕ). same_name other bytes) names) none in
    ap (λ (same : Bool). if same then Some 0 else option_map suc (place_of names bytes)) parts.0 ∙ ap (option_map suc) (no_place names bytes parts.1)

any_map : {A : Type 0} (test : List ℕ → Bool) (name : A → List ℕ) (xs : List A) → list_any (λ (x : A). test (name x)) xs ≡ list_any test (map name xs)
any_map test name [] = refl
any_map test name (x ∷ xs) = ap (λ (b : Bool). test (name x) || b) (any_map test name xs)

-- names that are apart where they are declared
pub names_apart : {A : Type 0} (name : A → List ℕ) (xs : List A) → are_distinct (λ (one other : A). same_name (name one) (name other)) xs ≡ are_distinct same_name (map name xs)
names_apart name [] = refl
names_apart name (x ∷ xs) =
    ap (λ (b : Bool). not b && are_distinct (λ (one other : _). same_name (name one) (name other)) xs) (any_map (same_name (name x)) name xs)
    ∙ ap (λ (b : Bool). not (list_any (same_name (name x)) (map name xs)) && b) (names_apart name xs)
