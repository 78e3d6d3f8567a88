-- Bounds of the values of a serial run. Items' values are within 10^15, a sum has at most five terms, and a transaction at most 16
-- queries; so each value is within 10^15 * 5^16, far below the end of an i128.
use Rattle.std.proofs.Common.{◌≡◌, ℕ, zero, suc, ◌+◌, ◌*◌, ◌^◌, ◌<◌, ◌≤◌, Bool, true, false, ◌&&◌, not, List, [], ◌∷◌, length, fold, slice_set, ℤ, pos, neg_ℤ, ◌+ℤ◌, ◌<ℤ◌, ◌≤ℤ◌, refl, arith, Option, Some, cond, option_map, subst}
use Rattle.std.proofs.Math.Nat.{one-le-pow, pow-le-pow_right}
use Rattle.std.proofs.lemmas.Bool.{and_parts}
use Rattle.std.proofs.lemmas.Bool.Decides.{nat_tests}
use Rattle.std.proofs.lemmas.Cmp.{int_ranked}
use Rattle.std.proofs.lemmas.Grind.{pow_more}
use Rattle.std.proofs.lemmas.Int.{ints}
use Rattle.std.proofs.lemmas.List.Elements.{All-replicate, recursion_from_All}
use Rattle.std.specs.List.{AllByRecursion, find, list_all, list_any}
use Rattle.std.proofs.Common.{Equal, Greater, Less, Ordering}
use Rattle.std.specs.Ordering.{MatchOrdering, int_cmp, is_gt}
use Rattle.tp_types.proofs.ListLemmas.{three_parts}
use Rattle.tp_model.specs.Words.{Deed, Operand, Query, Scenario, Term, Transaction}
use Rattle.tp_types.specs.declared.scenario.Operand.TheVariants.{Constant, Register}
use Rattle.tp_types.specs.declared.scenario.Query.TheVariants.{Read, Write}
use Rattle.tp_model.specs.Limits.{has_count, int_le, is_between, is_from_to, is_value, number_limit, value_limit}
use Rattle.tp_model.specs.Queries.{with_sign}
use Rattle.tp_model.specs.SerialRun.{add_term, cleared_registers, deeds_from, deed_value, is_deed_of, number_at, operand_in, run_value, serial_run, sum_in, term_in}
use Rattle.tp_model.specs.Valid.{begins_well, has_valid_creds, is_item, is_name_of_server, is_valid_operand, is_valid_query, is_valid_sum, is_valid_term, is_valid_txn}

-- ---- bounds

-- the number is at most so far from 0
pub record IsWithin (bound : ℕ) (z : ℤ) : Type 0 where
  pub low : neg_ℤ (pos bound) ≤ℤ z
  pub high : z ≤ℤ pos bound

-- the bound of values after so many queries
abbrev pub bound_after : ℕ → ℕ
bound_after count = 10 ^ 15 * 5 ^ count

-- a deed's value is within the bound of its query
abbrev pub DeedWithin : Deed → Type 0
DeedWithin deed = IsWithin (bound_after deed.query) deed.value

pub wider : (bound more : ℕ) (z : ℤ) → bound ≤ more → IsWithin bound z → IsWithin more z
wider bound more z h k = record { low = omega (arith, ints); high = omega (arith, ints) }

all_wider : (bound more : ℕ) (zs : List ℤ) → bound ≤ more → AllByRecursion (IsWithin bound) zs → AllByRecursion (IsWithin more) zs
all_wider bound more [] h all = tt
all_wider bound more (z ∷ zs) h all = (wider bound more z h all.0, all_wider bound more zs h all.1)

zero_within : (bound : ℕ) → IsWithin bound (pos 0)
zero_within bound = record { low = omega (arith, ints); high = omega (arith, ints) }

-- each query makes the bound five times as large
bound_more : (count : ℕ) → bound_after (count + 1) ≡ 5 * bound_after count
bound_more count = let more = pow_more 5 count in omega arith

bound_rises : (count : ℕ) → bound_after count ≤ bound_after (count + 1)
bound_rises count = let more = bound_more count in omega arith

bound_starts : (count : ℕ) → 10 ^ 15 ≤ bound_after count
bound_starts count = let least = one-le-pow count 5 (omega arith) in omega arith

bound_most : (count most : ℕ) → count ≤ most → bound_after count ≤ bound_after most
bound_most count most h = let powers = pow-le-pow_right {n = 5} (omega arith) h in omega arith

-- the greatest bound, of 16 queries, is below the end of an i128
pub bound_fits : bound_after 16 < 2 ^ 127
bound_fits = omega arith

-- ---- tests of order

le_by : (x y : ℤ) (o : Ordering) → MatchOrdering o (x <ℤ y) (x ≡ y) (y <ℤ x) → not (is_gt o) ≡ true → x ≤ℤ y
le_by x y Less h e = omega (arith, ints)
le_by x y Equal h e = omega (arith, ints)
le_by x y Greater h e = absurd (cc)

le_from : (x y : ℤ) → int_le x y ≡ true → x ≤ℤ y
le_from x y e = le_by x y (int_cmp x y) (int_ranked x y (int_cmp x y) refl) e

-- what is between two numbers within a bound is within it
pub between_within : (bound : ℕ) (low high z : ℤ) → IsWithin bound low → IsWithin bound high → is_between low high z ≡ true → IsWithin bound z
between_within bound low high z h k e =
    let parts = and_parts (int_le low z) (int_le z high) e in
    let above = le_from low z parts.0 in
    let under = le_from z high parts.1 in
    record { low = omega (arith, ints); high = omega (arith, ints) }

-- an item's value or bound is within 10^15
pub value_within : (z : ℤ) → is_value z ≡ true → IsWithin (10 ^ 15) z
value_within z e =
    between_within (10 ^ 15) (neg_ℤ value_limit) value_limit z (record { low = omega (arith, ints); high = omega (arith, ints) }) (record { low = omega (arith, ints); high = omega (arith, ints) }) e

-- ---- lists of numbers

pub number_within : (bound : ℕ) (numbers : List ℤ) (place : ℕ) → AllByRecursion (IsWithin bound) numbers → IsWithin bound (number_at numbers place)
number_within bound [] zero all = zero_within bound
number_within bound [] (suc place) all = zero_within bound
number_within bound (number ∷ numbers) zero all = all.0
number_within bound (number ∷ numbers) (suc place) all = number_within bound numbers place all.1

pub set_within : (bound : ℕ) (numbers : List ℤ) (place : ℕ) (z : ℤ) → AllByRecursion (IsWithin bound) numbers → IsWithin bound z → AllByRecursion (IsWithin bound) (slice_set numbers place z)
set_within bound [] zero z all h = tt
set_within bound [] (suc place) z all h = tt
set_within bound (number ∷ numbers) zero z all h = (h, all.1)
set_within bound (number ∷ numbers) (suc place) z all h = (all.0, set_within bound numbers place z all.1 h)

-- ---- sums

pub operand_within : (bound : ℕ) (registers : List ℤ) (operand : Operand) → 10 ^ 15 ≤ bound → is_valid_operand operand ≡ true → AllByRecursion (IsWithin bound) registers
    → IsWithin bound (operand_in registers operand)
operand_within bound registers (Constant c) h e all =
    between_within bound (pos 0) number_limit c (zero_within bound) (record { low = omega (arith, ints); high = omega (arith, ints) }) e
operand_within bound registers (Register r) h e all = number_within bound registers r all

pub signed_within : (bound : ℕ) (minus : Bool) (z : ℤ) → IsWithin bound z → IsWithin bound (with_sign minus z)
signed_within bound false z h = h
signed_within bound true z h = record { low = omega (arith, ints); high = omega (arith, ints) }

-- how far from 0 a sum may be, where each term adds at most the bound
abbrev pub grown : ℕ → ℕ → List Term → ℕ
grown bound so_far [] = so_far
grown bound so_far (term ∷ terms) = grown bound (so_far + bound) terms

pub five_terms : (bound : ℕ) (terms : List Term) → length terms ≤ 5 → grown bound 0 terms ≤ 5 * bound
five_terms bound [] h = omega arith
five_terms bound (a ∷ []) h = omega arith
five_terms bound (a ∷ b ∷ []) h = omega arith
five_terms bound (a ∷ b ∷ c ∷ []) h = omega arith
five_terms bound (a ∷ b ∷ c ∷ d ∷ []) h = omega arith
five_terms bound (a ∷ b ∷ c ∷ d ∷ e ∷ []) h = omega arith
five_terms bound (a ∷ b ∷ c ∷ d ∷ e ∷ f ∷ terms) h = absurd (omega arith)

pub added_within : (so_far bound : ℕ) (total z : ℤ) → IsWithin so_far total → IsWithin bound z → IsWithin (so_far + bound) (total +ℤ z)
added_within so_far bound total z h k = record { low = omega (arith, ints); high = omega (arith, ints) }

terms_within : (bound : ℕ) (registers : List ℤ) (terms : List Term) (total : ℤ) (so_far : ℕ) → 10 ^ 15 ≤ bound → list_all is_valid_term terms ≡ true → AllByRecursion (IsWithin bound) registers
    → IsWithin so_far total → IsWithin (grown bound so_far terms) (fold (add_term registers) total terms)
terms_within bound registers [] total so_far least valid all h = h
terms_within bound registers (term ∷ terms) total so_far least valid all h =
    let parts = and_parts (is_valid_term term) (list_all is_valid_term terms) valid in
    let one = signed_within bound term.minus (operand_in registers term.operand) (operand_within bound registers term.operand least parts.0 all) in
    terms_within bound registers terms (total +ℤ term_in registers term) (so_far + bound) least parts.1 all (added_within so_far bound total (term_in registers term) h one)

pub few_terms : (expr : List Term) → has_count 1 5 expr ≡ true → length expr ≤ 5
few_terms expr e = grind (arith, nat_tests)

-- a sum over registers that are within a bound is within five times the bound
pub sum_within : (bound : ℕ) (registers : List ℤ) (expr : List Term) → 10 ^ 15 ≤ bound → is_valid_sum expr ≡ true → AllByRecursion (IsWithin bound) registers
    → IsWithin (5 * bound) (sum_in registers expr)
sum_within bound registers expr least valid all =
    let front = (and_parts (has_count 1 5 expr && list_all is_valid_term expr && begins_well expr) _ valid).0 in
    let parts = three_parts (has_count 1 5 expr) (list_all is_valid_term expr) (begins_well expr) front in
    wider (grown bound 0 expr) (5 * bound) (sum_in registers expr) (five_terms bound expr (few_terms expr parts.0))
    (terms_within bound registers expr (pos 0) 0 least parts.1 all (zero_within 0))

-- ---- runs

-- after so many queries, with registers and a store within their bound, the deeds of the others are within theirs
pub deeds_within : (sc : Scenario) (queries : List Query) (done : ℕ) (registers store : List ℤ) → list_all (is_valid_query sc) queries ≡ true
    → AllByRecursion (IsWithin (bound_after done)) registers → AllByRecursion (IsWithin (bound_after done)) store
    → AllByRecursion DeedWithin (deeds_from (done + 1) queries registers store)
deeds_within sc [] done registers store valid r s = tt
deeds_within sc (Read item into ∷ queries) done registers store valid r s =
    let parts = and_parts (is_valid_query sc (Read item into)) (list_all (is_valid_query sc) queries) valid in
    let value = number_at store item.0 in
    let small = wider (bound_after done) (bound_after (done + 1)) value (bound_rises done) (number_within (bound_after done) store item.0 s) in
    let kept = set_within (bound_after (done + 1)) registers into value (all_wider (bound_after done) (bound_after (done + 1)) registers (bound_rises done) r) small in
    (small, deeds_within sc queries (done + 1) (slice_set registers into value) store parts.1 kept (all_wider (bound_after done) (bound_after (done + 1)) store (bound_rises done) s))
deeds_within sc (Write item expr ∷ queries) done registers store valid r s =
    let parts = and_parts (is_valid_query sc (Write item expr)) (list_all (is_valid_query sc) queries) valid in
    let sum = (and_parts (is_item sc item) (is_valid_sum expr) parts.0).1 in
    let value = sum_in registers expr in
    let more = bound_more done in
    let small = wider (5 * bound_after done) (bound_after (done + 1)) value (omega arith) (sum_within (bound_after done) registers expr (bound_starts done) sum r) in
    let kept = set_within (bound_after (done + 1)) store item.0 value (all_wider (bound_after done) (bound_after (done + 1)) store (bound_rises done) s) small in
    (small, deeds_within sc queries (done + 1) registers (slice_set store item.0 value) parts.1 (all_wider (bound_after done) (bound_after (done + 1)) registers (bound_rises done) r) kept)

few_queries : (queries : List Query) → has_count 1 16 queries ≡ true → length queries ≤ 16
few_queries queries e = grind (arith, nat_tests)

has_valid_queries : (sc : Scenario) (txn : Transaction) → is_valid_txn sc txn ≡ true → (list_all (is_valid_query sc) txn.queries ≡ true) × (length txn.queries ≤ 16)
has_valid_queries sc txn valid =
    let work = (and_parts (has_valid_creds sc txn && is_from_to 1 16 txn.rounds) _ valid).1 in
    let parts = three_parts (has_count 1 16 txn.queries) (list_all (is_valid_query sc) txn.queries) (not (list_any (is_name_of_server txn) sc.servers)) work in
    (parts.1, few_queries txn.queries parts.0)

-- each value of a run on a store of items' values is within the bound of its query
pub run_within : (sc : Scenario) (txn : Transaction) (store : List ℤ) → is_valid_txn sc txn ≡ true → AllByRecursion (IsWithin (10 ^ 15)) store
    → AllByRecursion DeedWithin (serial_run txn store)
run_within sc txn store valid s =
    deeds_within sc txn.queries 0 cleared_registers store (has_valid_queries sc txn valid).0
    (recursion_from_All (IsWithin (10 ^ 15)) cleared_registers (All-replicate (IsWithin (10 ^ 15)) 10 (pos 0) (zero_within (10 ^ 15))))
    s

fewer : (few most : ℕ) (deeds : List Deed) → few ≤ most → AllByRecursion (λ (deed : Deed). deed.query ≤ few) deeds → AllByRecursion (λ (deed : Deed). deed.query ≤ most) deeds
fewer few most [] h all = tt
fewer few most (deed ∷ deeds) h all = let first = all.0 in (omega arith, fewer few most deeds h all.1)

-- the numbers of deeds go up to that of the last query
numbered : (queries : List Query) (done : ℕ) (registers store : List ℤ) → AllByRecursion (λ (deed : Deed). deed.query ≤ done + length queries) (deeds_from (done + 1) queries registers store)
numbered [] done registers store = tt
numbered (Read item into ∷ queries) done registers store =
    (omega arith, fewer (done + 1 + length queries) (done + suc (length queries)) _ (omega arith) (numbered queries (done + 1) (slice_set registers into (number_at store item.0)) store))
numbered (Write item expr ∷ queries) done registers store =
    (omega arith, fewer (done + 1 + length queries) (done + suc (length queries)) _ (omega arith) (numbered queries (done + 1) registers (slice_set store item.0 (sum_in registers expr))))

all_most : (deeds : List Deed) (most : ℕ) → AllByRecursion (λ (deed : Deed). deed.query ≤ most) deeds → AllByRecursion DeedWithin deeds
    → AllByRecursion (λ (deed : Deed). IsWithin (bound_after most) deed.value) deeds
all_most [] most few all = tt
all_most (deed ∷ deeds) most few all =
    (wider (bound_after deed.query) (bound_after most) deed.value (bound_most deed.query most few.0) all.0, all_most deeds most few.1 all.1)

-- each value of such a run is within the bound of 16 queries
pub run_within_most : (sc : Scenario) (txn : Transaction) (store : List ℤ) → is_valid_txn sc txn ≡ true → AllByRecursion (IsWithin (10 ^ 15)) store
    → AllByRecursion (λ (deed : Deed). IsWithin (bound_after 16) deed.value) (serial_run txn store)
run_within_most sc txn store valid s =
    let few = (has_valid_queries sc txn valid).1 in
    all_most (serial_run txn store) 16 (fewer (0 + length txn.queries) 16 (serial_run txn store) (omega arith) (numbered txn.queries 0 cleared_registers store))
    (run_within sc txn store valid s)

one_found : (bound : ℕ) (deed : Deed) (others : Option Deed) (here : Bool) (value : ℤ) → IsWithin bound deed.value → (option_map deed_value others ≡ Some value → IsWithin bound value)
    → option_map deed_value (cond here (Some deed) others) ≡ Some value → IsWithin bound value
one_found bound deed others true value h later e = let same : deed.value ≡ value = cc in subst (IsWithin bound) same h
one_found bound deed others false value h later e = later e

found_within : (bound : ℕ) (number : ℕ) (deeds : List Deed) (value : ℤ) → AllByRecursion (λ (deed : Deed). IsWithin bound deed.value) deeds
    → option_map deed_value (find (is_deed_of number) deeds) ≡ Some value → IsWithin bound value
found_within bound number [] value all e = absurd (cc)
found_within bound number (deed ∷ deeds) value all e =
    one_found bound deed (find (is_deed_of number) deeds) (is_deed_of number deed) value all.0 (found_within bound number deeds value all.1) e

-- so is the value of a query in such a run
pub run_value_within : (sc : Scenario) (txn : Transaction) (store : List ℤ) (number : ℕ) (value : ℤ) → is_valid_txn sc txn ≡ true → AllByRecursion (IsWithin (10 ^ 15)) store
    → run_value txn store number ≡ Some value → IsWithin (bound_after 16) value
run_value_within sc txn store number value valid s e = found_within (bound_after 16) number (serial_run txn store) value (run_within_most sc txn store valid s) e
