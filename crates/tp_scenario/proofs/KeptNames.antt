-- What the walk gives has names that are spelled as names.
use Rattle.std.proofs.Common.{◌≡◌, ℕ, true, List, [], ◌∷◌, length, map, Option, Ok, refl, subst}
use Rattle.std.specs.List.{list_all}
use Rattle.tp_types.proofs.ListLemmas.{all_push}
use Rattle.serde_json.specs.Data.{Data}
use Rattle.tp_types.specs.Spelling.{is_name}
use Rattle.tp_model.specs.Words.{Admin, Credential, Item, Scenario, ServerDecl, Transaction}
use Rattle.tp_model.specs.Limits.{admins_limit, creds_limit, items_limit, servers_limit, txns_limit}
use Rattle.tp_scenario.specs.declared.names.Declared.{Declared}
use Rattle.tp_scenario.specs.declared.path.Key.TheVariants.{Admins, Credentials, Items as ItemsKey, Knows, Name, Servers, Transactions}
use Rattle.tp_scenario.specs.declared.path.Path.TheVariants.{Field, Member, Top}
use Rattle.tp_scenario.specs.declared.servers.Served.{Served}
use Rattle.tp_scenario.specs.Admins.{admin_in, admin_name, admins_at}
use Rattle.tp_scenario.specs.Creds.{cred_in, cred_name, creds_at}
use Rattle.tp_scenario.specs.Names.{Names}
use Rattle.tp_scenario.specs.Servers.{item_in, item_name, items_in, knows_at, nothing_served, server_in, server_name, servers_at}
use Rattle.tp_scenario.specs.Txns.{txn_in, txn_name, txns_at}
use Rattle.tp_scenario.specs.Values.{field, items_at, items_or, new_name_at, object_at}
use Rattle.tp_scenario.proofs.Inverses.{each_keeps, new_name_spelled, ok_same, then_ok, through_keeps}
use Rattle.tp_scenario.proofs.KeptPolicies.{admin_kept, cred_kept}
use Rattle.tp_scenario.proofs.KeptServers.{item_kept}
use Rattle.tp_scenario.proofs.KeptTxns.{txn_kept}

pub admins_spelled : (value : Option Data) (admins : List Admin) → admins_at value ≡ Ok admins → list_all (λ (admin : Admin). is_name admin.name) admins ≡ true
unfolding admins_at
admins_spelled value admins e =
    let values = then_ok (items_at (Top Admins) 1 admins_limit value) _ _ e in
    each_keeps admin_in (λ made. list_all (λ (admin : Admin). is_name admin.name) made ≡ true)
    (λ made x d kept h. all_push (λ (admin : Admin). is_name admin.name) made x kept (admin_kept (map admin_name made) (length made) d x h).spelled)
    values.0 [] admins refl values.2

pub creds_spelled : (value : Option Data) (creds : List Credential) → creds_at value ≡ Ok creds → list_all (λ (cred : Credential). is_name cred.name) creds ≡ true
unfolding creds_at
creds_spelled value creds e =
    let values = then_ok (items_or (Top Credentials) creds_limit value) _ _ e in
    each_keeps cred_in (λ made. list_all (λ (cred : Credential). is_name cred.name) made ≡ true)
    (λ made x d kept h. all_push (λ (cred : Credential). is_name cred.name) made x kept (cred_kept (map cred_name made) (length made) d x h).spelled)
    values.0 [] creds refl values.2

pub txns_spelled : (sc : Scenario) (names : Declared) (value : Option Data) → names.servers ≡ map server_name sc.servers → length names.creds ≡ length sc.creds → length names.items ≡ length sc.items
    → txns_at names value ≡ Ok sc.txns → list_all (λ (txn : Transaction). is_name txn.name) sc.txns ≡ true
unfolding txns_at
txns_spelled sc names value servers creds items e =
    let values = then_ok (items_at (Top Transactions) 0 txns_limit value) _ _ e in
    each_keeps (txn_in names) (λ made. list_all (λ (txn : Transaction). is_name txn.name) made ≡ true)
    (λ made txn d kept h.
    let here = txn_kept sc (record names { txns = map txn_name made }) (length made) d txn servers creds items h in
    all_push (λ (t : Transaction). is_name t.name) made txn kept here.spelled)
    values.0 [] sc.txns refl values.2

-- ---- servers and their items

-- the servers and items so far
pub record AreSpelled (served : Served) : Type 0 where
  pub servers : list_all (λ (server : ServerDecl). is_name server.name) served.servers ≡ true
  pub items : list_all (λ (item : Item). is_name item.name) served.items ≡ true

items_spelled : (admins : Names) (server : ℕ) (before : List Item) (value : Option Data) (made : List Item) → list_all (λ (item : Item). is_name item.name) before ≡ true → items_in admins server before value ≡ Ok made
    → list_all (λ (item : Item). is_name item.name) made ≡ true
unfolding items_in
items_spelled admins server before value made kept e =
    let values = then_ok (items_at (Field Servers server ItemsKey) 0 items_limit value) _ _ e in
    each_keeps (item_in admins server (length before)) (λ all. list_all (λ (item : Item). is_name item.name) all ≡ true)
    (λ all item d earlier h. all_push (λ (i : Item). is_name i.name) all item earlier (item_kept admins (map item_name all) server _ d item h).spelled)
    values.0 before made kept values.2

server_spelled : (admins : List Admin) (served next : Served) (d : Data) → AreSpelled served → server_in admins served d ≡ Ok next → AreSpelled next
unfolding server_in
server_spelled admins served next d before e =
    let fields = then_ok (object_at (Member Servers (length served.servers)) (Name ∷ ItemsKey ∷ []) (Knows ∷ []) d) _ _ e in
    let name = then_ok (new_name_at (Field Servers (length served.servers) Name) (map server_name served.servers) (field Name fields.0)) _ _ fields.2 in
    let knows = then_ok (knows_at admins (length served.servers) (field Knows fields.0)) _ _ name.2 in
    let items = then_ok (items_in (map admin_name admins) (length served.servers) served.items (field ItemsKey fields.0)) _ _ knows.2 in
    let spelled = new_name_spelled _ (map server_name served.servers) _ name.0 name.1 in
    subst AreSpelled (ok_same _ next items.2) (record {
      servers = all_push (λ (server : ServerDecl). is_name server.name) served.servers _ before.servers spelled;
      items = items_spelled (map admin_name admins) (length served.servers) served.items _ items.0 before.items items.1;
    })

pub served_spelled : (admins : List Admin) (value : Option Data) (served : Served) → servers_at admins value ≡ Ok served → AreSpelled served
unfolding servers_at
served_spelled admins value served e =
    let values = then_ok (items_at (Top Servers) 1 servers_limit value) _ _ e in
    through_keeps (server_in admins) AreSpelled (λ state next d kept h. server_spelled admins state next d kept h) values.0 nothing_served served (record { servers = refl; items = refl }) values.2
