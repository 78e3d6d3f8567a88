-- The scenario that a JSON value is, or the first fault in it. The keys go in this order, and each value is walked in full before the
-- next one.
use Rattle.std.specs.Prelude.{List, [], ◌∷◌, Result, Ok, map}
use Rattle.serde_json.specs.Data.{Data}
use Rattle.tp_model.specs.Words.{Admin, Credential, Scenario, Transaction}
use Rattle.tp_model.specs.Limits.{clock_limit}
use Rattle.tp_scenario.specs.declared.fault.Fault.{Fault}
use Rattle.tp_scenario.specs.declared.names.Declared.{Declared}
use Rattle.tp_scenario.specs.declared.path.Key.TheVariants.{Admins, Clock, Credentials, Servers, Transactions, Steps, Clients, Publishers, Officers}
use Rattle.tp_scenario.specs.declared.path.Path.TheVariants.{Whole, Top}
use Rattle.tp_scenario.specs.declared.servers.Served.{Served}
use Rattle.tp_scenario.specs.Admins.{admin_name, admins_at}
use Rattle.tp_scenario.specs.Chain.{◌>>=◌}
use Rattle.tp_scenario.specs.Creds.{cred_name, creds_at}
use Rattle.tp_scenario.specs.Scripts.{clients_at, officers_at, publishers_at}
use Rattle.tp_scenario.specs.Servers.{item_name, server_name, servers_at}
use Rattle.tp_scenario.specs.Steps.{steps_at}
use Rattle.tp_scenario.specs.Txns.{txn_name, txns_at}
use Rattle.tp_scenario.specs.Values.{count_or, field, object_at}

-- the names that are declared before the transactions
abbrev pub names_before : List Admin → List Credential → Served → Declared
names_before admins creds served = record {
  admins = map admin_name admins;
  creds = map cred_name creds;
  servers = map server_name served.servers;
  items = map item_name served.items;
  txns = [];
}

abbrev pub no_names : Declared
no_names = record { admins = []; creds = []; servers = []; items = []; txns = [] }

-- all names
abbrev pub all_names : List Admin → List Credential → Served → List Transaction → Declared
all_names admins creds served txns =
    record (names_before admins creds served) { txns = map txn_name txns }

-- the names that a scenario declares
abbrev pub names_of : Scenario → Declared
names_of sc = all_names sc.admins sc.creds (record { servers = sc.servers; items = sc.items }) sc.txns

unfoldable pub walk_of : Data → Result Scenario Fault
walk_of d = do
  fields ← object_at Whole (Admins ∷ Servers ∷ Transactions ∷ [])
      (Clock ∷ Credentials ∷ Steps ∷ Clients ∷ Publishers ∷ Officers ∷ []) d
  admins ← admins_at (field Admins fields)
  clock ← count_or (Top Clock) 0 clock_limit 0 (field Clock fields)
  creds ← creds_at (field Credentials fields)
  served ← servers_at admins (field Servers fields)
  txns ← txns_at (names_before admins creds served) (field Transactions fields)
  steps ← steps_at (all_names admins creds served txns) (field Steps fields)
  clients ← clients_at (map txn_name txns) (field Clients fields)
  publishers ← publishers_at (all_names admins creds served txns) admins (field Publishers fields)
  officers ← officers_at (all_names admins creds served txns) (field Officers fields)
  Ok (record {
    admins = admins;
    clock = clock;
    creds = creds;
    servers = served.servers;
    items = served.items;
    txns = txns;
    steps = steps;
    clients = clients;
    publishers = publishers;
    officers = officers;
  })
