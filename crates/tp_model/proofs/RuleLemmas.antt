-- The rules of a valid scenario, one by one.
use Rattle.std.proofs.Common.{◌≡◌, ℕ, ◌≤◌, true, ◌&&◌, nat_le, length, arith}
use Rattle.std.proofs.lemmas.Bool.{and_parts}
use Rattle.std.proofs.lemmas.Bool.Decides.{nat_tests}
use Rattle.std.specs.List.{list_all}
use Rattle.tp_types.proofs.ListLemmas.{three_parts}
use Rattle.tp_model.specs.Words.{Scenario}
use Rattle.tp_model.specs.Limits.{clock_limit, has_count, is_from_to}
use Rattle.tp_model.specs.Valid.{IsValid, are_distinct, are_valid_from, is_valid_txn, same_server_name, same_txn_name, are_valid_admins, are_valid_clients, are_valid_creds, are_valid_items, are_valid_officers, are_valid_publishers, are_valid_servers, are_valid_steps, are_valid_txns, has_valid_data, has_valid_policies, has_valid_scripts, is_valid}

-- what a valid scenario keeps
pub rules_of : (sc : Scenario) → is_valid sc ≡ true → IsValid sc
unfolding is_valid
rules_of sc h =
    let whole = three_parts (has_valid_policies sc) (has_valid_data sc) (has_valid_scripts sc) h in
    let policies = three_parts (are_valid_admins sc.admins) (nat_le sc.clock clock_limit) (are_valid_creds sc.creds) whole.0 in
    let data_kept = three_parts (are_valid_servers sc) (are_valid_items sc) (are_valid_txns sc) whole.1 in
    let scripts = three_parts (are_valid_steps sc sc.steps) (are_valid_clients sc) (are_valid_publishers sc && are_valid_officers sc) whole.2 in
    let race = and_parts (are_valid_publishers sc) (are_valid_officers sc) scripts.2 in
    record {
      admins = policies.0;
      clock = policies.1;
      creds = policies.2;
      servers = data_kept.0;
      items = data_kept.1;
      txns = data_kept.2;
      steps = scripts.0;
      clients = scripts.1;
      publishers = race.0;
      officers = race.1;
    }

pub count_most : (least most n : ℕ) → is_from_to least most n ≡ true → n ≤ most
count_most least most n h = grind (arith, nat_tests)

-- there are few servers and few transactions
pub few_servers : (sc : Scenario) → IsValid sc → length sc.servers ≤ 16
few_servers sc h = count_most 1 16 (length sc.servers) (three_parts (has_count 1 16 sc.servers) (are_valid_from sc 0 sc.servers) (are_distinct same_server_name sc.servers) h.servers).0

pub few_txns : (sc : Scenario) → IsValid sc → length sc.txns ≤ 128
few_txns sc h = count_most 0 128 (length sc.txns) (three_parts (has_count 0 128 sc.txns) (list_all (is_valid_txn sc) sc.txns) (are_distinct same_txn_name sc.txns) h.txns).0
