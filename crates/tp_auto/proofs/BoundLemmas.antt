-- What the numbers of the bound are at most.
use Rattle.std.proofs.Common.{◌≡◌, ℕ, ◌+◌, ◌*◌, ◌≤◌, max, fold, List, [], ◌∷◌, length, not, true, arith}
use Rattle.std.specs.List.{list_all, list_any}
use Rattle.std.proofs.lemmas.Bool.{and_parts}
use Rattle.std.proofs.lemmas.Nat.{mul-le}
use Rattle.tp_types.proofs.ListLemmas.{three_parts}
use Rattle.tp_model.specs.Words.{Scenario, Transaction}
use Rattle.tp_model.specs.Limits.{has_count, is_from_to}
use Rattle.tp_model.specs.Valid.{are_distinct, has_valid_creds, is_name_of_server, is_valid, is_valid_query, is_valid_txn, same_txn_name}
use Rattle.tp_model.proofs.RuleLemmas.{count_most, few_servers, few_txns, rules_of}
use Rattle.tp_auto.specs.Auto.{most_queries, greatest_rounds}

-- a valid scenario has few transactions and few servers
pub few_txns_valid : (sc : Scenario) → is_valid sc ≡ true → length sc.txns ≤ 128
few_txns_valid sc h = few_txns sc (rules_of sc h)

pub few_servers_valid : (sc : Scenario) → is_valid sc ≡ true → length sc.servers ≤ 16
few_servers_valid sc h = few_servers sc (rules_of sc h)

-- of each transaction there are at most so many queries, and so many rounds
record IsFew (txn : Transaction) : Type 0 where
  pub queries : length txn.queries ≤ 16
  pub rounds : txn.rounds ≤ 16

few_parts : (sc : Scenario) (txn : Transaction) → is_valid_txn sc txn ≡ true → IsFew txn
few_parts sc txn h =
    let rules = three_parts (has_valid_creds sc txn) (is_from_to 1 16 txn.rounds) _ h in
    let work = three_parts (has_count 1 16 txn.queries) (list_all (is_valid_query sc) txn.queries) (not (list_any (is_name_of_server txn) sc.servers)) rules.2 in
    record { queries = count_most 1 16 (length txn.queries) work.0; rounds = count_most 1 16 txn.rounds rules.1 }

fold_queries : (sc : Scenario) (txns : List Transaction) (most : ℕ) → list_all (is_valid_txn sc) txns ≡ true → most ≤ 16
    → fold (λ (most : ℕ) (txn : Transaction). max most (length txn.queries)) most txns ≤ 16
fold_queries sc [] most h low = low
fold_queries sc (txn ∷ txns) most h low =
    let parts = and_parts (is_valid_txn sc txn) (list_all (is_valid_txn sc) txns) h in
    let few = few_parts sc txn parts.0 in
    fold_queries sc txns (max most (length txn.queries)) parts.1 (omega (arith, low, few.queries))

fold_rounds : (sc : Scenario) (txns : List Transaction) (most : ℕ) → list_all (is_valid_txn sc) txns ≡ true → most ≤ 16
    → fold (λ (most : ℕ) (txn : Transaction). max most txn.rounds) most txns ≤ 16
fold_rounds sc [] most h low = low
fold_rounds sc (txn ∷ txns) most h low =
    let parts = and_parts (is_valid_txn sc txn) (list_all (is_valid_txn sc) txns) h in
    let few = few_parts sc txn parts.0 in
    fold_rounds sc txns (max most txn.rounds) parts.1 (omega (arith, low, few.rounds))

txns_valid : (sc : Scenario) → is_valid sc ≡ true → list_all (is_valid_txn sc) sc.txns ≡ true
txns_valid sc h = (three_parts (has_count 0 128 sc.txns) (list_all (is_valid_txn sc) sc.txns) (are_distinct same_txn_name sc.txns) (rules_of sc h).txns).1

-- no transaction has more than 16 queries
pub most_queries_valid : (sc : Scenario) → is_valid sc ≡ true → most_queries sc.txns ≤ 16
most_queries_valid sc h = fold_queries sc sc.txns 0 (txns_valid sc h) (omega arith)

-- nor a greater round limit
pub most_rounds_valid : (sc : Scenario) → is_valid sc ≡ true → greatest_rounds sc.txns ≤ 16
most_rounds_valid sc h = fold_rounds sc sc.txns 2 (txns_valid sc h) (omega arith)

-- within the limits of a scenario the product fits 32 bits
pub work_is_small : (txns queries rounds servers : ℕ) → txns ≤ 128 → queries ≤ 16 → rounds ≤ 16 → servers ≤ 16
    → (txns * ((queries + 1) * (3 * rounds + 3) + servers + 2) + 1) * (16 * (txns + 1) * (servers + 1)) ≤ 113281 * 35088
work_is_small txns queries rounds servers t q r s =
    let of_query = mul-le (queries + 1) (3 * rounds + 3) 17 51 (omega arith) (omega arith) in
    let of_txns = mul-le txns ((queries + 1) * (3 * rounds + 3) + servers + 2) 128 885 t (omega arith) in
    let mails = mul-le (16 * (txns + 1)) (servers + 1) 2064 17 (omega arith) (omega arith) in
    mul-le (txns * ((queries + 1) * (3 * rounds + 3) + servers + 2) + 1) (16 * (txns + 1) * (servers + 1)) 113281 35088 (omega arith) (omega arith)
