-- The scenario keeps every rule.
use Rattle.std.proofs.Common.{◌≡◌, ◌≢◌, ◌<◌, ◌≤◌, ℕ, ◌+◌, ◌/◌, ◌%◌, ◌^◌, ◌==◌, ◌&&◌, ◌||◌, nat_lt, nat_le, not, Bool, true, false, List, [], ◌∷◌, ◌++◌, length, map, zero, suc, refl, sym, ap, subst, ◌∙◌, arith, codes, decimal, pos}
use Rattle.std.specs.Cmp.Lexicographic.{pointwise}
use Rattle.std.specs.Fmt.{digits}
use Rattle.std.specs.List.{list_all, list_any, range_with_len}
use Rattle.std.proofs.lemmas.Bool.{and_from, and_parts, lt-ltb}
use Rattle.std.proofs.lemmas.Bool.Decides.{nat_tests}
use Rattle.std.proofs.lemmas.Fmt.{decimal_injective}
use Rattle.std.proofs.lemmas.List.{length-map}
use Rattle.std.proofs.lemmas.List.FromFn.{length-range_with_len}
use Rattle.tp_model.specs.Ids.{same_name}
use Rattle.tp_model.specs.Limits.{clock_limit, has_count, is_from_to}
use Rattle.tp_model.specs.Valid.{are_distinct, are_submitted_once, are_valid_admins, are_valid_clients, are_valid_creds, are_valid_items, are_valid_officers, are_valid_publishers, are_valid_servers, are_valid_steps, are_valid_txns, has_valid_creds, has_valid_data, has_valid_policies, has_valid_scripts, is_name_of_server, is_valid, is_valid_operand, is_valid_query, is_valid_step, is_valid_sum, is_valid_txn, same_txn_name}
use Rattle.tp_model.specs.Words.{Scenario, Step, Transaction}
use Rattle.tp_model.specs.Words.step
use Rattle.tp_types.specs.declared.scenario.Operand.TheVariants.{Constant, Register}
use Rattle.tp_bulk.specs.Bulk.{drawn_below, next_state, queries_at, queries_by, scenario_of, sum_of, txn_at, txns_from}

policies_valid : (count : ℕ) → has_valid_policies (scenario_of count) ≡ true
unfolding scenario_of digits
policies_valid count = refl

servers_valid : (count : ℕ) → are_valid_servers (scenario_of count) ≡ true
unfolding scenario_of digits
servers_valid count = refl

items_valid : (count : ℕ) → are_valid_items (scenario_of count) ≡ true
unfolding scenario_of digits
items_valid count = refl

-- ---- transactions

txns_count : (left number x : ℕ) → length (txns_from left number x) ≡ left
txns_count zero number x = refl
txns_count (suc left) number x = ap suc (txns_count left (number + 1) (next_state (next_state (next_state x))))

below : (n bound : ℕ) → n < bound → nat_lt n bound ≡ true
below n bound h = lt-ltb n bound h

-- ---- each is valid

constant_valid : (c : ℕ) → c < 10 → is_valid_operand (Constant (pos c)) ≡ true
constant_valid c h = grind (arith, nat_tests)

sum_valid : (c : ℕ) → c < 10 → is_valid_sum (sum_of c) ≡ true
sum_valid c h = ap (λ (b : Bool). b && true && true && true) (constant_valid c h)

queries_valid : (count read written constant : ℕ) → read < 16 → written < 16 → constant < 10 → list_all (is_valid_query (scenario_of count)) (queries_by read written constant) ≡ true
unfolding scenario_of
queries_valid count read written constant r w c =
    and_from (nat_lt read 16 && true) ((nat_lt written 16 && is_valid_sum (sum_of constant)) && true)
    (and_from (nat_lt read 16) true (below read 16 r) refl) (and_from (nat_lt written 16 && is_valid_sum (sum_of constant)) true (and_from (nat_lt written 16) (is_valid_sum (sum_of constant)) (below written 16 w) (sum_valid constant c)) refl)

txn_valid : (count number x : ℕ) → is_valid_txn (scenario_of count) (txn_at number x) ≡ true
unfolding scenario_of digits
txn_valid count number x =
    let first = next_state x in
    let second = next_state first in
    let third = next_state second in
    and_from true _ refl (and_from (list_all (is_valid_query (scenario_of count)) (queries_at x)) true (queries_valid count (drawn_below first 16) (drawn_below second 16) (drawn_below third 10) (omega arith) (omega arith) (omega arith)) refl)

each_valid : (count left number x : ℕ) → list_all (is_valid_txn (scenario_of count)) (txns_from left number x) ≡ true
each_valid count zero number x = refl
each_valid count (suc left) number x = and_from (is_valid_txn (scenario_of count) (txn_at number x)) (list_all (is_valid_txn (scenario_of count)) (txns_from left (number + 1) (next_state (next_state (next_state x))))) (txn_valid count number x) (each_valid count left (number + 1) (next_state (next_state (next_state x))))

-- ---- names are apart

same_is : (one other : List ℕ) → pointwise ◌==◌ one other ≡ true → one ≡ other
same_is [] [] e = refl
same_is [] (byte ∷ bytes) e = absurd (cc)
same_is (byte ∷ bytes) [] e = absurd (cc)
same_is (byte ∷ bytes) (next ∷ nexts) e =
    let both = and_parts (byte == next) (pointwise ◌==◌ bytes nexts) e in
    let first : byte ≡ next = grind (arith, nat_tests) in
    cc (first, same_is bytes nexts both.1)

names_differ : (m n x y : ℕ) → m < n → n < 2 ^ 64 → same_txn_name (txn_at m x) (txn_at n y) ≡ false
names_differ m n x y low small = by_test (pointwise ◌==◌ (decimal m) (decimal n)) refl
  where
    by_test : (b : Bool) → pointwise ◌==◌ (decimal m) (decimal n) ≡ b → same_txn_name (txn_at m x) (txn_at n y) ≡ false
    by_test true e = absurd (omega (arith, low, decimal_injective m n (omega (arith, low, small)) small (same_is (decimal m) (decimal n) e)))
    by_test false e = e

none_alike : (m left number x y : ℕ) → m < number → number + left ≤ 2 ^ 32 → list_any (same_txn_name (txn_at m x)) (txns_from left number y) ≡ false
none_alike m zero number x y low small = refl
none_alike m (suc left) number x y low small =
    ap (λ (b : Bool). b || list_any (same_txn_name (txn_at m x)) (txns_from left (number + 1) (next_state (next_state (next_state y))))) (names_differ m number x y low (omega (arith, small)))
    ∙ none_alike m left (number + 1) x (next_state (next_state (next_state y))) (omega (arith, low)) (omega (arith, small))

names_apart : (left number x : ℕ) → number + left ≤ 2 ^ 32 → are_distinct same_txn_name (txns_from left number x) ≡ true
names_apart zero number x small = refl
names_apart (suc left) number x small =
    let next = next_state (next_state (next_state x)) in
    and_from (not (list_any (same_txn_name (txn_at number x)) (txns_from left (number + 1) next))) (are_distinct same_txn_name (txns_from left (number + 1) next))
    (ap not (none_alike number left (number + 1) x next (omega arith) (omega (arith, small))))
    (names_apart left (number + 1) next (omega (arith, small)))

-- ---- steps

step_valid : (count number : ℕ) → number < count → is_valid_step (scenario_of count) (step.Submit (record { 0 = number })) ≡ true
unfolding scenario_of
step_valid count number low = below number (length (txns_from count 0 count)) (subst (λ (n : ℕ). number < n) (sym (txns_count count 0 count)) low)

steps_valid_from : (count left number : ℕ) → number + left ≤ count → list_all (is_valid_step (scenario_of count)) (map (λ (n : ℕ). step.Submit (record { 0 = n })) (range_with_len number left)) ≡ true
steps_valid_from count zero number h = refl
steps_valid_from count (suc left) number h =
    and_from (is_valid_step (scenario_of count) (step.Submit (record { 0 = number }))) (list_all (is_valid_step (scenario_of count)) (map (λ (n : ℕ). step.Submit (record { 0 = n })) (range_with_len (number + 1) left)))
    (step_valid count number (omega (arith, h))) (steps_valid_from count left (number + 1) (omega (arith, h)))

submitted_once : (left number x at : ℕ) → are_submitted_once [] at (txns_from left number x) ≡ true
submitted_once zero number x at = refl
submitted_once (suc left) number x at = submitted_once left (number + 1) (next_state (next_state (next_state x))) (at + 1)

-- ---- all rules

at_most : (n bound : ℕ) → n ≤ bound → nat_le n bound ≡ true
at_most n bound h = grind (arith, nat_tests)

counted : (low high n : ℕ) → low ≤ n → n ≤ high → is_from_to low high n ≡ true
counted low high n l h = grind (arith, nat_tests)

txns_valid : (count : ℕ) → count ≤ 128 → are_valid_txns (scenario_of count) ≡ true
unfolding scenario_of
txns_valid count most =
    and_from (has_count 0 128 (txns_from count 0 count) && list_all (is_valid_txn (scenario_of count)) (txns_from count 0 count)) (are_distinct same_txn_name (txns_from count 0 count))
    (and_from (has_count 0 128 (txns_from count 0 count)) (list_all (is_valid_txn (scenario_of count)) (txns_from count 0 count))
    (counted 0 128 (length (txns_from count 0 count)) (omega arith) (omega (arith, most, txns_count count 0 count))) (each_valid count count 0 count))
    (names_apart count 0 count (omega (arith, most)))

steps_valid : (count : ℕ) → count ≤ 128 → are_valid_steps (scenario_of count) (scenario_of count).steps ≡ true
unfolding scenario_of
steps_valid count most =
    let steps = map (λ (n : ℕ). step.Submit (record { 0 = n })) (range_with_len 0 count) in
    and_from (has_count 0 100000 steps) (list_all (is_valid_step (scenario_of count)) steps)
    (counted 0 100000 (length steps) (omega arith) (omega (arith, most, length-map (range_with_len 0 count) (λ (n : ℕ). step.Submit (record { 0 = n })), length-range_with_len 0 count)))
    (steps_valid_from count count 0 (omega arith))

clients_valid : (count : ℕ) → are_valid_clients (scenario_of count) ≡ true
unfolding scenario_of
clients_valid count = submitted_once count 0 count 0

publishers_valid : (count : ℕ) → are_valid_publishers (scenario_of count) ≡ true
unfolding scenario_of
publishers_valid count = refl

officers_valid : (count : ℕ) → are_valid_officers (scenario_of count) ≡ true
unfolding scenario_of
officers_valid count = refl

pub valid : (count : ℕ) → 1 ≤ count → count ≤ 128 → is_valid (scenario_of count) ≡ true
unfolding is_valid
valid count least most =
    let sc = scenario_of count in
    and_from (has_valid_policies sc && has_valid_data sc) (has_valid_scripts sc)
    (and_from (has_valid_policies sc) (has_valid_data sc) (policies_valid count) (and_from (are_valid_servers sc && are_valid_items sc) (are_valid_txns sc) (and_from (are_valid_servers sc) (are_valid_items sc) (servers_valid count) (items_valid count)) (txns_valid count most)))
    (and_from (are_valid_steps sc sc.steps && are_valid_clients sc) (are_valid_publishers sc && are_valid_officers sc)
    (and_from (are_valid_steps sc sc.steps) (are_valid_clients sc) (steps_valid count most) (clients_valid count)) (and_from (are_valid_publishers sc) (are_valid_officers sc) (publishers_valid count) (officers_valid count)))
