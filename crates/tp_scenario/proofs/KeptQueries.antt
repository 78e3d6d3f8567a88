-- What the walk gives of queries keeps their rules.
use Rattle.std.proofs.Common.{◌≡◌, inl, ℕ, suc, ◌-◌, ◌<◌, ◌==◌, ◌||◌, nat_le, not, Bool, true, false, List, [], ◌∷◌, ◌++◌, length, Option, Some, None, Ok, Err, refl, ap, subst, arith, pos, codes, if◌then◌else◌}
use Rattle.std.specs.Prelude.{ok_or, option_map, option_and_then}
use Rattle.std.specs.Cmp.{int_ranks}
use Rattle.std.specs.List.{list_all}
use Rattle.std.proofs.lemmas.Bool.{and_parts, and_from, lt-ltb}
use Rattle.std.proofs.lemmas.Bool.Decides.{nat_tests}
use Rattle.std.proofs.lemmas.Int.{ints}
use Rattle.std.proofs.lemmas.Option.{same_Some}
use Rattle.tp_types.proofs.ListLemmas.{all_push}
use Rattle.serde_json.specs.Data.{Data}
use Rattle.tp_types.specs.Spelling.{is_number as is_number_text, number_of, spelled_from}
use Rattle.tp_types.specs.declared.scenario.Operand.TheVariants.{Register}
use Rattle.tp_model.specs.Words.{Query, Scenario, Term}
use Rattle.tp_policy_text.proofs.PrintedNumbers.{int_short}
use Rattle.tp_model.specs.Limits.{is_between, is_from_to, number_limit}
use Rattle.tp_model.specs.Valid.{begins_well, has_constant, is_number, is_register, is_valid_query, is_valid_sum, is_valid_term}
use Rattle.tp_scenario.specs.declared.path.Path.{Path}
use Rattle.tp_scenario.specs.Faults.{range, shape}
use Rattle.tp_model.specs.Ids.{same_name}
use Rattle.tp_scenario.specs.Names.{Names}
use Rattle.tp_scenario.specs.Queries.{Asked, reads, writes, asked_in, asked_of, constant_term, first_term, is_register_digit, is_short, query_at, query_for, read_from, read_of, register_of, sign_of, signed_term, sum_of, term_at, term_of, terms_after, write_of, write_to}
use Rattle.tp_scenario.specs.Values.{text_at}
use Rattle.tp_model.specs.Queries.{only}
use Rattle.tp_scenario.specs.Words.{words_of}
use Rattle.tp_scenario.proofs.Inverses.{ok_or_ok, ok_same, then_ok, used_ok}

-- ---- options

-- what came first, and what then
pub then_some : {A B : Type 0} (next : A → Option B) (found : Option A) (b : B) → option_and_then next found ≡ Some b → (a : A) × (found ≡ Some a) × (next a ≡ Some b)
then_some next (Some a) b e = (a, refl, e)
then_some next None b e = absurd (cc)

pub map_some : {A B : Type 0} (make : A → B) (found : Option A) (b : B) → option_map make found ≡ Some b → (a : A) × (found ≡ Some a) × (make a ≡ b)
map_some make (Some a) b e = (a, refl, same_Some (make a) b e)
map_some make None b e = absurd (cc)

pub test_some : {A : Type 0} (test : Bool) (found : Option A) (a : A) → (if test then found else None) ≡ Some a → (test ≡ true) × (found ≡ Some a)
test_some true found a e = (refl, e)
test_some false found a e = absurd (cc)

-- ---- numbers

-- a number has at most fifteen digits
pub number_small : (digits : List ℕ) (n : ℕ) → number_of digits ≡ Some n → is_number n ≡ true
number_small digits n e =
    let got = test_some (is_number_text digits) (Some (spelled_from 0 digits)) n e in
    subst (λ (k : ℕ). is_number k ≡ true) (same_Some _ n got.1) (int_short digits (pos (spelled_from 0 digits)) (inl (record { digits = got.0; number_is = refl })))

constant_fits : (n : ℕ) → is_number n ≡ true → is_between (pos 0) number_limit (pos n) ≡ true
constant_fits n small = grind (arith, nat_tests, ints, int_ranks (pos 0) (pos n), int_ranks (pos n) number_limit)

-- ---- terms

register_kept : (word : List ℕ) (register : ℕ) → register_of word ≡ Some register → is_register register ≡ true
unfolding register_of
register_kept [] register e = absurd (cc)
register_kept (letter ∷ []) register e = absurd (cc)
register_kept (letter ∷ digit ∷ []) register e =
    let got = test_some _ (Some (digit - 48)) register e in
    subst (λ (k : ℕ). is_register k ≡ true) (same_Some _ register got.1) (digit_of digit (and_parts _ _ got.0).1)
  where
    digit_of : (d : ℕ) → is_register_digit d ≡ true → is_register (d - 48) ≡ true
    digit_of d h = grind (arith, nat_tests)
register_kept (letter ∷ digit ∷ other ∷ bytes) register e = absurd (cc)

-- the term is valid, and is a constant where it is
record IsTermOf (minus : Bool) (term : Term) : Type 0 where
  valid : is_valid_term term ≡ true
  sign : term.minus ≡ minus

constant_kept : (minus : Bool) (digits : List ℕ) (term : Term) → constant_term minus digits ≡ Some term → IsTermOf minus term × (has_constant term ≡ true)
unfolding constant_term
constant_kept minus digits term e =
    let number = map_some _ (number_of digits) term e in
    subst (λ (t : Term). IsTermOf minus t × (has_constant t ≡ true)) number.2 (record { valid = constant_fits number.0 (number_small digits number.0 number.1); sign = refl }, refl)

term_kept : (minus : Bool) (word : List ℕ) (term : Term) → term_of minus word ≡ Some term → IsTermOf minus term
unfolding term_of
term_kept minus word term e = by_register (register_of word) refl e
  where
    by_register : (register : Option ℕ) → register_of word ≡ register → term_at minus word register ≡ Some term → IsTermOf minus term
    by_register (Some register) r h =
        subst (IsTermOf minus) (same_Some (record { minus = minus; operand = Register register }) term h) (record { valid = register_kept word register r; sign = refl })
    by_register None r h = (constant_kept minus word term h).0

-- the first term takes no register away
first_kept : (word : List ℕ) (term : Term) → first_term word ≡ Some term → (is_valid_term term ≡ true) × (begins_well (term ∷ []) ≡ true)
unfolding first_term
first_kept [] term e = absurd (cc)
first_kept (byte ∷ bytes) term e = by_minus (byte == 45) e
  where
    with_minus : (minus constant : Bool) → constant ≡ true → (not minus || constant) ≡ true
    with_minus minus constant h = grind arith

    by_minus : (b : Bool) → (if b then constant_term true bytes else term_of false (byte ∷ bytes)) ≡ Some term → (is_valid_term term ≡ true) × (begins_well (term ∷ []) ≡ true)
    by_minus true h = let kept = constant_kept true bytes term h in (kept.0.valid, with_minus term.minus (has_constant term) kept.1)
    by_minus false h = let kept = term_kept false (byte ∷ bytes) term h in (kept.valid, ap (λ (m : Bool). not m || has_constant term) kept.sign)

begins_still : (made more : List Term) → begins_well made ≡ true → begins_well (made ++ more) ≡ true
begins_still [] more h = absurd (cc)
begins_still (term ∷ made) more h = h

terms_kept : (words : List (List ℕ)) (made expr : List Term) → list_all is_valid_term made ≡ true → begins_well made ≡ true → terms_after made words ≡ Some expr
    → (list_all is_valid_term expr ≡ true) × (begins_well expr ≡ true)
unfolding signed_term
terms_kept [] made expr valid begins e = subst (λ (ts : List Term). (list_all is_valid_term ts ≡ true) × (begins_well ts ≡ true)) (same_Some made expr e) (valid, begins)
terms_kept (sign ∷ []) made expr valid begins e = absurd (cc)
terms_kept (sign ∷ word ∷ words) made expr valid begins e =
    let term = then_some _ (signed_term sign word) expr e in
    let minus = then_some _ (sign_of sign) term.0 term.1 in
    terms_kept words (made ++ term.0 ∷ []) expr (all_push is_valid_term made term.0 valid (term_kept minus.0 word term.0 minus.2).valid) (begins_still made (term.0 ∷ []) begins) term.2

sum_kept : (words : List (List ℕ)) (expr : List Term) → sum_of words ≡ Some expr → (list_all is_valid_term expr ≡ true) × (begins_well expr ≡ true)
sum_kept [] expr e = absurd (cc)
sum_kept (word ∷ words) expr e =
    let term = then_some _ (first_term word) expr e in
    let first = first_kept word term.0 term.1 in
    terms_kept words (term.0 ∷ []) expr (and_from _ _ first.0 refl) first.1 term.2

-- ---- queries as they are spelled

abbrev IsAskedWell : Asked → Type 0
IsAskedWell (reads name register) = is_register register ≡ true
IsAskedWell (writes name expr) = (list_all is_valid_term expr ≡ true) × (begins_well expr ≡ true)

read_kept : (words : List (List ℕ)) (asked : Asked) → read_of words ≡ Some asked → IsAskedWell asked
unfolding read_of
read_kept [] asked e = absurd (cc)
read_kept (name ∷ []) asked e = absurd (cc)
read_kept (name ∷ into ∷ words) asked e =
    let got = test_some _ _ asked e in
    let number = map_some (reads name) (option_and_then register_of (only words)) asked got.1 in
    let register = then_some register_of (only words) number.0 number.1 in
    subst IsAskedWell number.2 (register_kept register.0 number.0 register.2)

write_kept : (words : List (List ℕ)) (asked : Asked) → write_of words ≡ Some asked → IsAskedWell asked
unfolding write_of
write_kept (name ∷ sign ∷ words) asked e =
    let got = test_some _ _ asked e in
    let expr = map_some (writes name) (sum_of words) asked got.1 in
    subst IsAskedWell expr.2 (sum_kept words expr.0 expr.1)
write_kept [] asked e = absurd (cc)
write_kept (name ∷ []) asked e = absurd (cc)

asked_kept : (text : List ℕ) (asked : Asked) → asked_of text ≡ Some asked → IsAskedWell asked
unfolding asked_of
asked_kept text asked e = by_words (words_of text) e
  where
    by_write : (verb : List ℕ) (words : List (List ℕ)) (b : Bool) → (if b then write_of words else None) ≡ Some asked → IsAskedWell asked
    by_write verb words true h = write_kept words asked h
    by_write verb words false h = absurd (cc)

    by_read : (verb : List ℕ) (words : List (List ℕ)) (b : Bool) → (if b then read_of words else (if same_name verb (codes "write") then write_of words else None)) ≡ Some asked → IsAskedWell asked
    by_read verb words true h = read_kept words asked h
    by_read verb words false h = by_write verb words (same_name verb (codes "write")) h

    by_words : (words : List (List ℕ)) → asked_in words ≡ Some asked → IsAskedWell asked
    by_words [] h = absurd (cc)
    by_words (verb ∷ words) h = by_read verb words (same_name verb (codes "read")) h

-- ---- queries

sum_valid : (expr : List Term) → is_short expr ≡ true → list_all is_valid_term expr ≡ true → begins_well expr ≡ true → is_valid_sum expr ≡ true
sum_valid [] short valid begins = absurd (cc)
sum_valid (term ∷ terms) short valid begins =
    let parts = and_parts _ _ short in
    and_from _ _ (and_from _ _ (and_from _ _ (from_one (length terms) parts.0) valid) begins) parts.1
  where
    from_one : (n : ℕ) → nat_le (suc n) 5 ≡ true → is_from_to 1 5 (suc n) ≡ true
    from_one n h = grind (arith, nat_tests)

query_for_kept : (sc : Scenario) (path : Path) (items : Names) (asked : Asked) (asks : Query) → length items ≡ length sc.items → IsAskedWell asked → query_for path items asked ≡ Ok asks → is_valid_query sc asks ≡ true
unfolding read_from write_to
query_for_kept sc path items (reads name register) asks count well e =
    let place = then_ok _ _ _ e in
    subst (λ (q : Query). is_valid_query sc q ≡ true) (ok_same _ asks place.2) (and_from _ _ (lt-ltb _ _ (subst (λ (n : ℕ). place.0 < n) count (used_ok path items name place.0 place.1))) well)
query_for_kept sc path items (writes name expr) asks count well e = by_length (is_short expr) refl e
  where
    by_length : (short : Bool) → is_short expr ≡ short → (if short then write_to path items name expr else Err (range path)) ≡ Ok asks → is_valid_query sc asks ≡ true
    by_length true short h =
        let place = then_ok _ _ _ h in
        subst (λ (q : Query). is_valid_query sc q ≡ true) (ok_same _ asks place.2)
        (and_from _ _ (lt-ltb _ _ (subst (λ (n : ℕ). place.0 < n) count (used_ok path items name place.0 place.1))) (sum_valid expr short well.0 well.1))
    by_length false short h = absurd (cc)

pub query_kept : (sc : Scenario) (path : Path) (items : Names) (d : Data) (asks : Query) → length items ≡ length sc.items → query_at path items d ≡ Ok asks → is_valid_query sc asks ≡ true
unfolding query_at
query_kept sc path items d asks count e =
    let text = then_ok (text_at path (Some d)) _ _ e in
    let asked = then_ok (ok_or (asked_of text.0) (shape path)) _ _ text.2 in
    query_for_kept sc path items asked.0 asks count (asked_kept text.0 asked.0 (ok_or_ok (asked_of text.0) asked.0 (shape path) asked.1)) asked.2
