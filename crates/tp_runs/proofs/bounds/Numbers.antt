-- Bounds of numbers: what a query asks for after deeds that are bounded, and that its sum is exact.
use Rattle.std.specs.List.{AllByRecursion, list_all}
use Rattle.std.proofs.Common.{List, None, Option, Some, [], arith, length, option_and_then, pos, refl, slice_get, subst, suc, sym, true, zero, ℕ, ℤ, ◌*◌, ◌+◌, ◌<◌, ◌^◌, ◌∷◌, ◌≡◌, ◌≤◌}
use Rattle.std.proofs.Math.Nat.{one-le-pow, pow-le-pow_right}
use Rattle.std.proofs.lemmas.Bool.{and_parts}
use Rattle.std.proofs.lemmas.Grind.{pow_more}
use Rattle.std.proofs.lemmas.Int.{ints}
use Rattle.std.proofs.lemmas.List.Elements.{All-replicate, recursion_from_All}
use Rattle.std.proofs.lemmas.Option.{same_Some, slice_get_within}
use Rattle.tp_model.proofs.RunBounds.{IsWithin, set_within, sum_within, wider}
use Rattle.tp_model.specs.Queries.{query_at}
use Rattle.tp_model.specs.SerialRun.{are_in_range, cleared_registers, sum_in}
use Rattle.tp_model.specs.Valid.{is_item, is_valid_query, is_valid_sum, is_valid_txn}
use Rattle.tp_model.specs.Words.query
use Rattle.tp_model.specs.Words.{Deed, ItemId, Query, Scenario, Term, Transaction}
use Rattle.tp_types.proofs.EachLemmas.{each_as}
use Rattle.tp_runs.proofs.ids.Valid.{IsValid}
use Rattle.tp_runs.proofs.deeds.Clamped.{clamped_is}
use Rattle.tp_runs.proofs.deeds.Ranges.{store_within}
use Rattle.tp_runs.proofs.deeds.Reads.{valid_queries}
use Rattle.tp_runs.specs.Bounded.{AreBoundedDeeds, AreExact, IsAtMost, IsBounded, bound_of}
use Rattle.tp_types.specs.Each.{Each}
use Rattle.tp_coord.specs.Sums.{asked_value, clamped_sum, registers_after, registers_from, registers_with, sum_asked}

-- ---- bounds

-- the bound of values is that of serial runs
pub within_from : (bound : ℕ) (value : ℤ) → IsAtMost bound value → IsWithin bound value
within_from bound value h = record { low = h.low; high = h.high }

pub most_from : (bound : ℕ) (value : ℤ) → IsWithin bound value → IsAtMost bound value
most_from bound value h = record { low = h.low; high = h.high }

-- each query's bound is at least an item's
pub bound_least : (number : ℕ) → 10 ^ 15 ≤ bound_of number
bound_least number = let least = one-le-pow number 5 (omega arith) in omega arith

pub bound_rises : (number later : ℕ) → number ≤ later → bound_of number ≤ bound_of later
bound_rises number later h = let powers = pow-le-pow_right {n = 5} (omega arith) h in omega arith

-- and five times that of the query before it
pub bound_next : (number : ℕ) → bound_of (number + 1) ≡ 5 * bound_of number
bound_next number = let more = pow_more 5 number in omega arith

-- what is within the bound of a query is within that of a later one
pub bounded_later : (number later : ℕ) (value : ℤ) → number ≤ later → IsBounded number value → IsBounded later value
bounded_later number later value h k =
    most_from (bound_of later) value (wider (bound_of number) (bound_of later) value (bound_rises number later h) (within_from (bound_of number) value k))

-- an item's value is within the bound of every query
pub bounded_item : (number : ℕ) (value : ℤ) → IsAtMost (10 ^ 15) value → IsBounded number value
bounded_item number value h = most_from (bound_of number) value (wider (10 ^ 15) (bound_of number) value (bound_least number) (within_from (10 ^ 15) value h))

-- ---- deeds before a query

-- the deeds are of queries before this one
abbrev pub AreBefore : ℕ → List Deed → Type 0
AreBefore number deeds = Each (λ (deed : Deed). deed.query < number) deeds

-- the value is within a bound of all
abbrev DeedAtMost : ℕ → Deed → Type 0
DeedAtMost bound deed = IsWithin bound deed.value

deeds_most : (before : ℕ) (deeds : List Deed) → AreBefore (before + 1) deeds → AreBoundedDeeds deeds → Each (DeedAtMost (bound_of before)) deeds
deeds_most before [] low h = tt
deeds_most before (deed ∷ deeds) low h =
    let first = low.0 in
    (within_from (bound_of before) deed.value (bounded_later deed.query before deed.value (omega (arith, first)) h.0), deeds_most before deeds low.1 h.1)

-- ---- registers

register_within : (bound : ℕ) (query : Query) (value : ℤ) (registers : List ℤ) → IsWithin bound value → AllByRecursion (IsWithin bound) registers → AllByRecursion (IsWithin bound) (registers_with query value registers)
register_within bound (query.Read item into) value registers h all = set_within bound registers into value all h
register_within bound (query.Write item expr) value registers h all = all

registers_within : (bound : ℕ) (queries : List Query) (deeds : List Deed) (registers : List ℤ) → Each (DeedAtMost bound) deeds → AllByRecursion (IsWithin bound) registers
    → AllByRecursion (IsWithin bound) (registers_from queries deeds registers)
registers_within bound [] deeds registers h all = all
registers_within bound (query ∷ queries) [] registers h all = all
registers_within bound (query ∷ queries) (deed ∷ deeds) registers h all =
    registers_within bound queries deeds (registers_with query deed.value registers) h.1 (register_within bound query deed.value registers h.0 all)

cleared_within_in_bounds : (bound : ℕ) → AllByRecursion (IsWithin bound) cleared_registers
cleared_within_in_bounds bound =
    let zero_within : IsWithin bound (pos 0) = record { low = omega (arith, ints); high = omega (arith, ints) } in
    recursion_from_All (IsWithin bound) cleared_registers (All-replicate (IsWithin bound) 10 (pos 0) zero_within)

-- ---- sums

-- a query's sum is valid, and its number is small
pub record IsSum (declared : Transaction) (number : ℕ) (expr : List Term) : Type 0 where
  pub valid : is_valid_sum expr ≡ true
  pub few : number ≤ 16

query_valid : (sc : Scenario) (queries : List Query) (before : ℕ) (query : Query) → list_all (is_valid_query sc) queries ≡ true → slice_get queries before ≡ Some query → is_valid_query sc query ≡ true
query_valid sc [] before query all e = absurd (cc)
query_valid sc (first ∷ queries) zero query all e =
    let parts = and_parts (is_valid_query sc first) (list_all (is_valid_query sc) queries) all in
    subst (λ (q : Query). is_valid_query sc q ≡ true) (same_Some first query e) parts.0
query_valid sc (first ∷ queries) (suc before) query all e = query_valid sc queries before query (and_parts (is_valid_query sc first) (list_all (is_valid_query sc) queries) all).1 e

pub number_low : (declared : Transaction) (number : ℕ) (query : Query) → length declared.queries ≤ 16 → query_at declared number ≡ Some query → number ≤ 16
number_low declared zero query few e = omega arith
number_low declared (suc before) query few e = let within = slice_get_within declared.queries before query e in omega (arith, within, few)

sum_valid : (sc : Scenario) (declared : Transaction) (number : ℕ) (item : ItemId) (expr : List Term) → is_valid_txn sc declared ≡ true → query_at declared number ≡ Some (query.Write item expr) → is_valid_sum expr ≡ true
sum_valid sc declared zero item expr valid e = absurd (cc)
sum_valid sc declared (suc before) item expr valid e =
    (and_parts (is_item sc item) (is_valid_sum expr) (query_valid sc declared.queries before (query.Write item expr) (valid_queries sc declared valid) e)).1

sum_bounded : (before : ℕ) (registers : List ℤ) (expr : List Term) → before ≤ 16 → is_valid_sum expr ≡ true → AllByRecursion (IsWithin (bound_of before)) registers
    → (clamped_sum registers expr ≡ sum_in registers expr) × IsBounded (before + 1) (clamped_sum registers expr)
sum_bounded before registers expr low valid all =
    let least = bound_least before in
    let rises = bound_rises before 16 low in
    let next = bound_next before in
    let exact : clamped_sum registers expr ≡ sum_in registers expr = clamped_is (bound_of before) registers expr least (omega (arith, rises)) valid all in
    let sum : IsWithin (5 * bound_of before) (sum_in registers expr) = sum_within (bound_of before) registers expr least valid all in
    (exact, subst (IsBounded (before + 1)) (sym exact) (most_from (bound_of (before + 1)) (sum_in registers expr) (subst (λ (bound : ℕ). IsWithin bound (sum_in registers expr)) (sym next) sum)))

after_within : (before : ℕ) (declared : Transaction) (deeds : List Deed) → AreBefore (before + 1) deeds → AreBoundedDeeds deeds → AllByRecursion (IsWithin (bound_of before)) (registers_after declared deeds)
after_within before declared deeds low h = registers_within (bound_of before) declared.queries deeds cleared_registers (deeds_most before deeds low h) (cleared_within_in_bounds (bound_of before))

asked_of : (sc : Scenario) (declared : Transaction) (before : ℕ) (deeds : List Deed) (found : Option Query) (value : ℤ) → is_valid_txn sc declared ≡ true → length declared.queries ≤ 16 → query_at declared (before + 1) ≡ found
    → AreBefore (before + 1) deeds → AreBoundedDeeds deeds → option_and_then (sum_asked (registers_after declared deeds)) found ≡ Some value → IsBounded (before + 1) value
asked_of sc declared before deeds None value valid few e low h is = absurd (cc)
asked_of sc declared before deeds (Some (query.Read item into)) value valid few e low h is = absurd (cc)
asked_of sc declared before deeds (Some (query.Write item expr)) value valid few e low h is =
    let number = number_low declared (before + 1) (query.Write item expr) few e in
    subst (IsBounded (before + 1)) (same_Some (clamped_sum (registers_after declared deeds) expr) value is)
    (sum_bounded before (registers_after declared deeds) expr (omega (arith, number)) (sum_valid sc declared (before + 1) item expr valid e) (after_within before declared deeds low h)).1

-- what a query is asked with after the bounded deeds of queries before it is bounded
pub asked_bounded : (sc : Scenario) (declared : Transaction) (number : ℕ) (deeds : List Deed) (value : ℤ) → is_valid_txn sc declared ≡ true → length declared.queries ≤ 16 → AreBefore number deeds → AreBoundedDeeds deeds
    → asked_value declared deeds number ≡ Some value → IsBounded number value
asked_bounded sc declared zero deeds value valid few low h is = absurd (cc)
asked_bounded sc declared (suc before) deeds value valid few low h is =
    let next : suc before ≡ before + 1 = omega arith in
    subst (λ (n : ℕ). AreBefore n deeds → asked_value declared deeds n ≡ Some value → IsBounded n value) (sym next)
    (λ below e. asked_of sc declared before deeds (query_at declared (before + 1)) value valid few refl below h e) low is

-- sums over bounded deeds of the transaction's queries are exact
pub sums_exact : (sc : Scenario) (declared : Transaction) (deeds : List Deed) → is_valid_txn sc declared ≡ true → AreBefore (16 + 1) deeds → AreBoundedDeeds deeds → AreExact declared deeds
sums_exact sc declared deeds valid low h number item expr e =
    (sum_bounded 16 (registers_after declared deeds) expr (omega arith) (sum_valid sc declared number item expr valid e) (after_within 16 declared deeds low h)).0

-- ---- values of items

each_of : (P : ℤ → Type 0) (values : List ℤ) → AllByRecursion P values → Each P values
each_of P [] h = tt
each_of P (value ∷ values) h = (h.0, each_of P values h.1)

-- items' values in range are within 10^15
pub values_most : (sc : Scenario) (values : List ℤ) → IsValid sc → length values ≡ length sc.items → are_in_range sc.items values ≡ true → Each (IsAtMost (10 ^ 15)) values
values_most sc values valid count range =
    each_as (IsWithin (10 ^ 15)) (IsAtMost (10 ^ 15)) (λ value h. most_from (10 ^ 15) value h) values (each_of (IsWithin (10 ^ 15)) values (store_within sc values valid count range))
