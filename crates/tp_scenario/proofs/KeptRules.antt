-- What the walk gives keeps every rule of a scenario.
use Rattle.std.proofs.Common.{◌≡◌, ℕ, nat_le, true, List, [], ◌∷◌, map, Ok, refl, subst, ◌∙◌, arith}
use Rattle.std.specs.List.{list_all}
use Rattle.std.proofs.lemmas.Bool.{and_parts, and_from}
use Rattle.std.proofs.lemmas.Bool.Decides.{nat_tests}
use Rattle.std.proofs.lemmas.List.{length-map}
use Rattle.serde_json.specs.Data.{Data}
use Rattle.tp_model.specs.Words.{Admin, Scenario}
use Rattle.tp_model.specs.Limits.{clock_limit, is_from_to}
use Rattle.tp_model.specs.SpelledNames.{is_spelled}
use Rattle.tp_model.specs.Valid.{IsValid, are_valid_admins, are_valid_items, are_valid_servers, has_valid_data, has_valid_policies, is_valid, is_valid_admin}
use Rattle.tp_scenario.specs.declared.path.Key.TheVariants.{Admins, Clients, Clock, Credentials, Officers, Publishers, Servers, Steps, Transactions}
use Rattle.tp_scenario.specs.declared.path.Path.TheVariants.{Top, Whole}
use Rattle.tp_scenario.specs.declared.servers.Served.{Served}
use Rattle.tp_scenario.specs.Admins.{admin_name, admins_at}
use Rattle.tp_scenario.specs.Creds.{cred_name, creds_at}
use Rattle.tp_scenario.specs.Scripts.{clients_at, officers_at, publishers_at}
use Rattle.tp_scenario.specs.Servers.{item_name, server_name, servers_at}
use Rattle.tp_scenario.specs.Steps.{steps_at}
use Rattle.tp_scenario.specs.Txns.{txn_name, txns_at}
use Rattle.tp_scenario.specs.Values.{count_or, field, object_at}
use Rattle.tp_scenario.specs.Walk.{all_names, names_before, walk_of}
use Rattle.tp_scenario.proofs.Inverses.{count_or_ok, ok_same, then_ok}
use Rattle.tp_scenario.proofs.KeptNames.{admins_spelled, creds_spelled, served_spelled, txns_spelled}
use Rattle.tp_scenario.proofs.KeptPolicies.{admins_kept, creds_kept}
use Rattle.tp_scenario.proofs.KeptScripts.{clients_kept, officers_kept, publishers_kept}
use Rattle.tp_scenario.proofs.KeptServers.{served_valid, servers_kept}
use Rattle.tp_scenario.proofs.KeptSteps.{IsNamesOf, steps_kept}
use Rattle.tp_scenario.proofs.KeptTxns.{txns_kept}

-- what each part of the walk gave
record IsWalked (sc : Scenario) : Type 0 where
  fields : Data
  admins : admins_at (field Admins fields) ≡ Ok sc.admins
  clock : count_or (Top Clock) 0 clock_limit 0 (field Clock fields) ≡ Ok sc.clock
  creds : creds_at (field Credentials fields) ≡ Ok sc.creds
  served : servers_at sc.admins (field Servers fields) ≡ Ok (record { servers = sc.servers; items = sc.items })
  txns : txns_at (names_before sc.admins sc.creds (record { servers = sc.servers; items = sc.items })) (field Transactions fields) ≡ Ok sc.txns
  steps : steps_at (all_names sc.admins sc.creds (record { servers = sc.servers; items = sc.items }) sc.txns) (field Steps fields) ≡ Ok sc.steps
  clients : clients_at (map txn_name sc.txns) (field Clients fields) ≡ Ok sc.clients
  publishers : publishers_at (all_names sc.admins sc.creds (record { servers = sc.servers; items = sc.items }) sc.txns) sc.admins (field Publishers fields) ≡ Ok sc.publishers
  officers : officers_at (all_names sc.admins sc.creds (record { servers = sc.servers; items = sc.items }) sc.txns) (field Officers fields) ≡ Ok sc.officers

parts_of : (value : Data) (scenario : Scenario) → walk_of value ≡ Ok scenario → IsWalked scenario
unfolding walk_of
parts_of value scenario e =
    let fields = then_ok (object_at Whole (Admins ∷ Servers ∷ Transactions ∷ []) (Clock ∷ Credentials ∷ Steps ∷ Clients ∷ Publishers ∷ Officers ∷ []) value) _ _ e in
    let admins = then_ok (admins_at (field Admins fields.0)) _ _ fields.2 in
    let clock = then_ok (count_or (Top Clock) 0 clock_limit 0 (field Clock fields.0)) _ _ admins.2 in
    let creds = then_ok (creds_at (field Credentials fields.0)) _ _ clock.2 in
    let served = then_ok (servers_at admins.0 (field Servers fields.0)) _ _ creds.2 in
    let txns = then_ok (txns_at (names_before admins.0 creds.0 served.0) (field Transactions fields.0)) _ _ served.2 in
    let names = all_names admins.0 creds.0 served.0 txns.0 in
    let steps = then_ok (steps_at names (field Steps fields.0)) _ _ txns.2 in
    let clients = then_ok (clients_at (map txn_name txns.0) (field Clients fields.0)) _ _ steps.2 in
    let publishers = then_ok (publishers_at names admins.0 (field Publishers fields.0)) _ _ clients.2 in
    let officers = then_ok (officers_at names (field Officers fields.0)) _ _ publishers.2 in
    subst IsWalked (ok_same _ scenario officers.2) (record {
      fields = fields.0;
      admins = admins.1;
      clock = clock.1;
      creds = creds.1;
      served = served.1;
      txns = txns.1;
      steps = steps.1;
      clients = clients.1;
      publishers = publishers.1;
      officers = officers.1;
    })

each_admin_valid : (admins : List Admin) → are_valid_admins admins ≡ true → list_all is_valid_admin admins ≡ true
each_admin_valid admins h = (and_parts _ _ (and_parts _ _ h).0).1

clock_fits : (n : ℕ) → is_from_to 0 clock_limit n ≡ true → nat_le n clock_limit ≡ true
clock_fits n h = grind (arith, nat_tests)

of_names : (sc : Scenario) → IsNamesOf sc (all_names sc.admins sc.creds (record { servers = sc.servers; items = sc.items }) sc.txns)
of_names sc = record {
  admins = length-map sc.admins admin_name;
  creds = length-map sc.creds cred_name;
  servers = length-map sc.servers server_name;
  txns = length-map sc.txns txn_name;
}

servers_valid : (sc : Scenario) → list_all is_valid_admin sc.admins ≡ true → IsWalked sc → (are_valid_servers sc ≡ true) × (are_valid_items sc ≡ true)
servers_valid sc admins walk =
    let kept = servers_kept sc.admins (field Servers walk.fields) (record { servers = sc.servers; items = sc.items }) admins walk.served in
    (and_from _ _ (and_from _ _ kept.1 (served_valid sc 0 sc.servers ∙ kept.0.servers)) kept.0.apart, and_from _ _ (and_from _ _ kept.0.items kept.0.ordered) kept.0.items_apart)

-- the rules one by one
rules_kept : (sc : Scenario) → IsWalked sc → IsValid sc
rules_kept sc walk =
    let admins = admins_kept (field Admins walk.fields) sc.admins walk.admins in
    let each_admin = each_admin_valid sc.admins admins in
    let servers = servers_valid sc each_admin walk in
    let names = of_names sc in
    record {
      admins = admins;
      clock = clock_fits sc.clock (count_or_ok (Top Clock) 0 clock_limit 0 (field Clock walk.fields) sc.clock refl walk.clock);
      creds = creds_kept (field Credentials walk.fields) sc.creds walk.creds;
      servers = servers.0;
      items = servers.1;
      txns = txns_kept sc (names_before sc.admins sc.creds (record { servers = sc.servers; items = sc.items })) (field Transactions walk.fields) refl names.creds (length-map sc.items item_name) walk.txns;
      steps = steps_kept sc _ (field Steps walk.fields) sc.steps names walk.steps;
      clients = clients_kept sc (map txn_name sc.txns) (field Clients walk.fields) names.txns walk.clients;
      publishers = publishers_kept sc _ (field Publishers walk.fields) names each_admin walk.publishers;
      officers = officers_kept sc _ (field Officers walk.fields) names walk.officers;
    }

-- all rules together
all_kept : (sc : Scenario) → IsValid sc → is_valid sc ≡ true
unfolding is_valid
all_kept sc rules =
    and_from _ _
    (and_from (has_valid_policies sc) (has_valid_data sc) (and_from _ _ (and_from _ _ rules.admins rules.clock) rules.creds) (and_from _ _ (and_from _ _ rules.servers rules.items) rules.txns))
    (and_from _ _ (and_from _ _ rules.steps rules.clients) (and_from _ _ rules.publishers rules.officers))

-- the names of each kind
names_kept : (sc : Scenario) → IsWalked sc → is_spelled sc ≡ true
names_kept sc walk =
    let served : Served = record { servers = sc.servers; items = sc.items } in
    let names = of_names sc in
    let named = served_spelled sc.admins (field Servers walk.fields) served walk.served in
    and_from _ _ (and_from _ _ (and_from _ _ (and_from _ _ (admins_spelled (field Admins walk.fields) sc.admins walk.admins)
    (creds_spelled (field Credentials walk.fields) sc.creds walk.creds)) named.servers) named.items)
    (txns_spelled sc (names_before sc.admins sc.creds served) (field Transactions walk.fields) refl names.creds (length-map sc.items item_name) walk.txns)

pub walked_valid : (value : Data) (scenario : Scenario) → walk_of value ≡ Ok scenario → is_valid scenario ≡ true
walked_valid value scenario e = all_kept scenario (rules_kept scenario (parts_of value scenario e))

pub walked_spelled : (value : Data) (scenario : Scenario) → walk_of value ≡ Ok scenario → is_spelled scenario ≡ true
walked_spelled value scenario e = names_kept scenario (parts_of value scenario e)
