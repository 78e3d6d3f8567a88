-- The JSON value of a scenario is read anew with other steps.
use Rattle.std.proofs.Common.{◌≡◌, ◌≢◌, ◌∙◌, ℕ, List, [], ◌∷◌, map, Result, Ok, Err, Some, Bool, true, false, if◌then◌else◌, ◌&&◌, ◌++◌, sym, ap, subst}
use Rattle.std.specs.List.{list_all}
use Rattle.serde_json.specs.Data.{Data}
use Rattle.serde_json.specs.Find.{as_object}
use Rattle.tp_model.specs.Words.{Scenario, Step}
use Rattle.tp_model.specs.Limits.{clock_limit}
use Rattle.tp_scenario.specs.declared.fault.Fault.{Fault}
use Rattle.tp_scenario.specs.declared.path.Key.{Key}
use Rattle.tp_scenario.specs.declared.path.Key.TheVariants.{Admins, Clients, Clock, Credentials, Officers, Publishers, Servers, Steps, Transactions}
use Rattle.tp_scenario.specs.declared.path.Path.{Path}
use Rattle.tp_scenario.specs.declared.path.Path.TheVariants.{Top, Whole}
use Rattle.tp_scenario.specs.Admins.{admins_at}
use Rattle.tp_scenario.specs.Chain.{◌>>=◌}
use Rattle.tp_scenario.specs.Creds.{creds_at}
use Rattle.tp_scenario.specs.Faults.{shape}
use Rattle.tp_scenario.specs.Scripts.{clients_at, officers_at, publishers_at}
use Rattle.tp_scenario.specs.Servers.{servers_at}
use Rattle.tp_scenario.specs.Steps.{steps_at}
use Rattle.tp_scenario.specs.Txns.{txn_name, txns_at}
use Rattle.tp_scenario.specs.Values.{array_of, count_or, field, has, has_only, object_at}
use Rattle.tp_scenario.specs.Walk.{all_names, names_before, names_of, walk_of}
use Rattle.tp_scenario.proofs.Inverses.{ok_same, then_ok}
use Rattle.tp_race.specs.Replayed.{IsScenarioObject, SetsSteps, listing}

-- each other key is not that of the steps
no_admins : Admins ≢ Steps
no_admins e = cc

no_clock : Clock ≢ Steps
no_clock e = cc

no_credentials : Credentials ≢ Steps
no_credentials e = cc

no_servers : Servers ≢ Steps
no_servers e = cc

no_transactions : Transactions ≢ Steps
no_transactions e = cc

no_clients : Clients ≢ Steps
no_clients e = cc

no_publishers : Publishers ≢ Steps
no_publishers e = cc

no_officers : Officers ≢ Steps
no_officers e = cc

-- what comes after a part that is read
ok_then : {A B : Type 0} (walked : Result A Fault) (next : A → Result B Fault) (a : A) → walked ≡ Ok a → (walked >>= next) ≡ next a
ok_then {A = A} walked next a e = ap (λ (w : Result A Fault). w >>= next) e

given_if : {A : Type 0} (b : Bool) (d f : A) (fault : Fault) → ◌≡◌ {A = Result A Fault} (if b then Ok d else Err fault) (Ok f) → f ≡ d
given_if true d f fault e = sym (ok_same d f e)
given_if false d f fault e = absurd (cc)

object_same : (path : Path) (needed others : List Key) (d fields : Data) → object_at path needed others d ≡ Ok fields → fields ≡ d
unfolding object_at
object_same path needed others d fields e =
    given_if (has_only (needed ++ others) (as_object d) && list_all (has d) needed) d fields (shape path) e

-- what each part of the walk over a value gives
record IsWalked (sc : Scenario) (d : Data) : Type 0 where
  admins : admins_at (field Admins d) ≡ Ok sc.admins
  clock : count_or (Top Clock) 0 clock_limit 0 (field Clock d) ≡ Ok sc.clock
  creds : creds_at (field Credentials d) ≡ Ok sc.creds
  served : servers_at sc.admins (field Servers d) ≡ Ok (record { servers = sc.servers; items = sc.items })
  txns : txns_at (names_before sc.admins sc.creds (record { servers = sc.servers; items = sc.items })) (field Transactions d) ≡ Ok sc.txns
  steps : steps_at (names_of sc) (field Steps d) ≡ Ok sc.steps
  clients : clients_at (map txn_name sc.txns) (field Clients d) ≡ Ok sc.clients
  publishers : publishers_at (names_of sc) sc.admins (field Publishers d) ≡ Ok sc.publishers
  officers : officers_at (names_of sc) (field Officers d) ≡ Ok sc.officers

parts_of : (value : Data) (sc : Scenario) → walk_of value ≡ Ok sc → IsWalked sc value
unfolding walk_of
parts_of value sc e =
    let fields = then_ok (object_at Whole (Admins ∷ Servers ∷ Transactions ∷ []) (Clock ∷ Credentials ∷ Steps ∷ Clients ∷ Publishers ∷ Officers ∷ []) value) _ _ e in
    let admins = then_ok (admins_at (field Admins fields.0)) _ _ fields.2 in
    let clock = then_ok (count_or (Top Clock) 0 clock_limit 0 (field Clock fields.0)) _ _ admins.2 in
    let creds = then_ok (creds_at (field Credentials fields.0)) _ _ clock.2 in
    let served = then_ok (servers_at admins.0 (field Servers fields.0)) _ _ creds.2 in
    let txns = then_ok (txns_at (names_before admins.0 creds.0 served.0) (field Transactions fields.0)) _ _ served.2 in
    let names = all_names admins.0 creds.0 served.0 txns.0 in
    let steps = then_ok (steps_at names (field Steps fields.0)) _ _ txns.2 in
    let clients = then_ok (clients_at (map txn_name txns.0) (field Clients fields.0)) _ _ steps.2 in
    let publishers = then_ok (publishers_at names admins.0 (field Publishers fields.0)) _ _ clients.2 in
    let officers = then_ok (officers_at names (field Officers fields.0)) _ _ publishers.2 in
    subst (IsWalked sc) (object_same Whole (Admins ∷ Servers ∷ Transactions ∷ []) (Clock ∷ Credentials ∷ Steps ∷ Clients ∷ Publishers ∷ Officers ∷ []) value fields.0 fields.1)
    (subst (λ (of : Scenario). IsWalked of fields.0) (ok_same _ sc officers.2) (record {
      admins = admins.1;
      clock = clock.1;
      creds = creds.1;
      served = served.1;
      txns = txns.1;
      steps = steps.1;
      clients = clients.1;
      publishers = publishers.1;
      officers = officers.1;
    }))

-- and they give the whole
whole_of : (d : Data) (sc : Scenario) → IsScenarioObject d → IsWalked sc d → walk_of d ≡ Ok sc
unfolding walk_of
whole_of d sc form w =
    ok_then (object_at Whole (Admins ∷ Servers ∷ Transactions ∷ []) (Clock ∷ Credentials ∷ Steps ∷ Clients ∷ Publishers ∷ Officers ∷ []) d) _ d form
    ∙ (ok_then (admins_at (field Admins d)) _ sc.admins w.admins
    ∙ (ok_then (count_or (Top Clock) 0 clock_limit 0 (field Clock d)) _ sc.clock w.clock
    ∙ (ok_then (creds_at (field Credentials d)) _ sc.creds w.creds
    ∙ (ok_then (servers_at sc.admins (field Servers d)) _ (record { servers = sc.servers; items = sc.items }) w.served
    ∙ (ok_then (txns_at (names_before sc.admins sc.creds (record { servers = sc.servers; items = sc.items })) (field Transactions d)) _ sc.txns w.txns
    ∙ (ok_then (steps_at (names_of sc) (field Steps d)) _ sc.steps w.steps
    ∙ (ok_then (clients_at (map txn_name sc.txns) (field Clients d)) _ sc.clients w.clients
    ∙ (ok_then (publishers_at (names_of sc) sc.admins (field Publishers d)) _ sc.publishers w.publishers
    ∙ ok_then (officers_at (names_of sc) (field Officers d)) _ sc.officers w.officers))))))))

pub read_again : (sc : Scenario) (steps : List Step) (texts : List (List ℕ)) (value other : Data) → walk_of value ≡ Ok sc → SetsSteps texts value other → steps_at (names_of sc) (Some (array_of texts)) ≡ Ok steps
    → walk_of other ≡ Ok (listing sc steps)
read_again sc steps texts value other e s lists =
    let w = parts_of value sc e in
    whole_of other (listing sc steps) s.form (record {
      admins = ap admins_at (s.kept Admins no_admins) ∙ w.admins;
      clock = ap (count_or (Top Clock) 0 clock_limit 0) (s.kept Clock no_clock) ∙ w.clock;
      creds = ap creds_at (s.kept Credentials no_credentials) ∙ w.creds;
      served = ap (servers_at sc.admins) (s.kept Servers no_servers) ∙ w.served;
      txns = ap (txns_at (names_before sc.admins sc.creds (record { servers = sc.servers; items = sc.items }))) (s.kept Transactions no_transactions) ∙ w.txns;
      steps = ap (steps_at (names_of sc)) s.steps ∙ lists;
      clients = ap (clients_at (map txn_name sc.txns)) (s.kept Clients no_clients) ∙ w.clients;
      publishers = ap (publishers_at (names_of sc) sc.admins) (s.kept Publishers no_publishers) ∙ w.publishers;
      officers = ap (officers_at (names_of sc)) (s.kept Officers no_officers) ∙ w.officers;
    })
