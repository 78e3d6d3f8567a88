-- The items of a valid scenario's queries exist.
use Rattle.std.specs.List.{list_all, list_any}
use Rattle.std.proofs.Common.{List, Some, arith, length, not, slice_get, true, ℕ, ◌&&◌, ◌<◌, ◌≡◌, ◌≤◌}
use Rattle.std.proofs.lemmas.Bool.Decides.{nat_tests}
use Rattle.std.proofs.lemmas.Bool.{and_parts}
use Rattle.tp_types.specs.declared.scenario.Query.TheVariants.{Read, Write}
use Rattle.tp_model.specs.Limits.{has_count, is_from_to}
use Rattle.tp_model.specs.Queries.{item_of}
use Rattle.tp_model.specs.Valid.{has_valid_creds, is_item, is_name_of_server, is_register, is_valid_query, is_valid_sum, is_valid_txn}
use Rattle.tp_model.specs.Words.{ItemId, Query, Scenario, Transaction}
use Rattle.tp_types.proofs.EachLemmas.{each_from_all}
use Rattle.tp_runs.proofs.basics.Homes.{HaveHomes}
use Rattle.tp_runs.proofs.ids.Valid.{IsValid}
use Rattle.tp_types.proofs.EachLemmas.{each_as, each_get}
use Rattle.tp_types.specs.Each.{Each}

-- the item of each query exists
abbrev pub AreOnItems : Scenario → List Query → Type 0
AreOnItems sc queries = Each (λ (query : Query). (item_of query).0 < length sc.items) queries

item_there_in_ids : (sc : Scenario) (item : ItemId) → is_item sc item ≡ true → item.0 < length sc.items
item_there_in_ids sc item e = grind (arith, nat_tests)

query_there_in_ids : (sc : Scenario) (query : Query) → is_valid_query sc query ≡ true → (item_of query).0 < length sc.items
query_there_in_ids sc (Read item into) e = item_there_in_ids sc item (and_parts (is_item sc item) (is_register into) e).0
query_there_in_ids sc (Write item expr) e = item_there_in_ids sc item (and_parts (is_item sc item) (is_valid_sum expr) e).0

txn_there : (sc : Scenario) (txn : Transaction) → is_valid_txn sc txn ≡ true → AreOnItems sc txn.queries
txn_there sc txn e =
    let queries = and_parts (has_count 1 16 txn.queries && list_all (is_valid_query sc) txn.queries) (not (list_any (is_name_of_server txn) sc.servers)) (and_parts (has_valid_creds sc txn && is_from_to 1 16 txn.rounds) _ e).1 in
    each_as (λ (query : Query). is_valid_query sc query ≡ true) (λ (query : Query). (item_of query).0 < length sc.items) (query_there_in_ids sc) txn.queries
    (each_from_all (is_valid_query sc) txn.queries (and_parts (has_count 1 16 txn.queries) (list_all (is_valid_query sc) txn.queries) queries.0).1)

-- of each transaction
pub queries_on_items : (sc : Scenario) (n : ℕ) (declared : Transaction) → IsValid sc → slice_get sc.txns n ≡ Some declared → AreOnItems sc declared.queries
queries_on_items sc n declared valid found = txn_there sc declared (each_get (λ (txn : Transaction). is_valid_txn sc txn ≡ true) sc.txns n declared valid.txns found)

-- and there are some, but few
pub record AreSome (queries : List Query) : Type 0 where
  pub some : 0 < length queries
  pub few : length queries ≤ 16

queries_some : (sc : Scenario) (n : ℕ) (declared : Transaction) → IsValid sc → slice_get sc.txns n ≡ Some declared → AreSome declared.queries
queries_some sc n declared valid found =
    let kept : is_valid_txn sc declared ≡ true = each_get (λ (txn : Transaction). is_valid_txn sc txn ≡ true) sc.txns n declared valid.txns found in
    let queries = and_parts (has_count 1 16 declared.queries && list_all (is_valid_query sc) declared.queries) (not (list_any (is_name_of_server declared) sc.servers)) (and_parts (has_valid_creds sc declared && is_from_to 1 16 declared.rounds) _ kept).1 in
    let count : is_from_to 1 16 (length declared.queries) ≡ true = (and_parts (has_count 1 16 declared.queries) (list_all (is_valid_query sc) declared.queries) queries.0).0 in
    record { some = least_of (length declared.queries) count; few = most_of (length declared.queries) count }
  where
    least_of : (count : ℕ) → is_from_to 1 16 count ≡ true → 0 < count
    least_of count e = grind (arith, nat_tests)

    most_of : (count : ℕ) → is_from_to 1 16 count ≡ true → count ≤ 16
    most_of count e = grind (arith, nat_tests)

pub have_homes : (sc : Scenario) → IsValid sc → HaveHomes sc
have_homes sc valid =
    record {
      on_items = λ n declared found. queries_on_items sc n declared valid found;
      few = λ n declared found. (queries_some sc n declared valid found).few;
      some = λ n declared found. (queries_some sc n declared valid found).some;
    }
