-- The scripts of a valid scenario have commands alone, of which all that they name exists.
use Rattle.std.proofs.Common.{◌≡◌, ◌<◌, ℕ, List, [], ◌∷◌, ◌++◌, length, map, Bool, true, ◌&&◌, nat_lt, subst, sym, arith}
use Rattle.std.proofs.lemmas.Bool.Decides.{nat_tests}
use Rattle.std.specs.List.{list_all}
use Rattle.tp_model.specs.Limits.{clients_limit, has_count, officers_limit, publishers_limit, steps_limit}
use Rattle.tp_model.specs.Valid.{are_submitted_once, have_versions_left, is_officer_script, is_officer_step, is_publisher_script, is_publisher_step, is_script_of_txns, is_txn, is_valid, is_valid_step}
use Rattle.tp_model.specs.Words.step
use Rattle.tp_model.specs.Words.{Scenario, Step, TxnId}
use Rattle.tp_model.proofs.RuleLemmas.{rules_of}
use Rattle.tp_types.specs.Each.{Each}
use Rattle.tp_types.proofs.EachLemmas.{each_append, each_as, each_from_all, each_map}
use Rattle.tp_race.specs.Callers.{scripts_of, submissions}
use Rattle.tp_race.specs.Commands.{IsCommand}

below : (m n : ℕ) → nat_lt m n ≡ true → m < n
below m n e = grind (arith, nat_tests)

-- of two tests that both hold, each holds
first_holds : (a b : Bool) → (a && b) ≡ true → a ≡ true
first_holds a b e = grind arith

second_holds : (a b : Bool) → (a && b) ≡ true → b ≡ true
second_holds a b e = grind arith

publisher_command : (sc : Scenario) (s : Step) → is_publisher_step s ≡ true → is_valid_step sc s ≡ true → IsCommand sc s
publisher_command sc (step.Publish admin) kind valid = below admin.0 (length sc.admins) valid
publisher_command sc (step.Push admin server) kind valid =
    (below admin.0 (length sc.admins) (first_holds _ _ valid), below server.0 (length sc.servers) (second_holds _ _ valid))
publisher_command sc (step.Submit txn) kind valid = absurd (cc)
publisher_command sc (step.Revoke cred) kind valid = absurd (cc)
publisher_command sc (step.Tick by) kind valid = absurd (cc)
publisher_command sc (step.Deliver mail) kind valid = absurd (cc)
publisher_command sc (step.Lose mail) kind valid = absurd (cc)
publisher_command sc (step.Crash who cut) kind valid = absurd (cc)
publisher_command sc (step.Boot who) kind valid = absurd (cc)
publisher_command sc (step.Timer txn) kind valid = absurd (cc)

officer_command : (sc : Scenario) (s : Step) → is_officer_step s ≡ true → is_valid_step sc s ≡ true → IsCommand sc s
officer_command sc (step.Tick by) kind valid = tt
officer_command sc (step.Revoke cred) kind valid = below cred.0 (length sc.creds) valid
officer_command sc (step.Submit txn) kind valid = absurd (cc)
officer_command sc (step.Publish admin) kind valid = absurd (cc)
officer_command sc (step.Push admin server) kind valid = absurd (cc)
officer_command sc (step.Deliver mail) kind valid = absurd (cc)
officer_command sc (step.Lose mail) kind valid = absurd (cc)
officer_command sc (step.Crash who cut) kind valid = absurd (cc)
officer_command sc (step.Boot who) kind valid = absurd (cc)
officer_command sc (step.Timer txn) kind valid = absurd (cc)

-- what follows from two tests of each member
each_by : (P : Step → Type 0) (a b : Step → Bool) → ((s : Step) → a s ≡ true → b s ≡ true → P s) → (script : List Step) → list_all a script ≡ true → list_all b script ≡ true → Each P script
each_by P a b step [] h k = tt
each_by P a b step (s ∷ script) h k =
    (step s (first_holds _ _ h) (first_holds _ _ k), each_by P a b step script (second_holds _ _ h) (second_holds _ _ k))

client_commands : (sc : Scenario) (client : List TxnId) → is_script_of_txns sc client ≡ true → Each (IsCommand sc) (submissions client)
client_commands sc client e =
    each_map (λ (txn : TxnId). is_txn sc txn ≡ true) (IsCommand sc) (λ (txn : TxnId). step.Submit txn) (λ txn there. below txn.0 (length sc.txns) there) client
    (each_from_all (is_txn sc) client e)

publisher_commands : (sc : Scenario) (script : List Step) → is_publisher_script sc script ≡ true → Each (IsCommand sc) script
publisher_commands sc script e =
    each_by (IsCommand sc) is_publisher_step (is_valid_step sc) (publisher_command sc) script (first_holds _ _ e) (second_holds _ _ e)

officer_commands : (sc : Scenario) (script : List Step) → is_officer_script sc script ≡ true → Each (IsCommand sc) script
officer_commands sc script e =
    each_by (IsCommand sc) is_officer_step (is_valid_step sc) (officer_command sc) script (first_holds _ _ e)
    (second_holds (has_count 0 steps_limit script) (list_all (is_valid_step sc) script) (second_holds _ _ e))

pub all_commands : (sc : Scenario) → is_valid sc ≡ true → Each (Each (IsCommand sc)) (scripts_of sc)
all_commands sc valid =
    let rules = rules_of sc valid in
    let clients : list_all (is_script_of_txns sc) sc.clients ≡ true =
    second_holds (has_count 0 clients_limit sc.clients) _ (first_holds _ (are_submitted_once sc.clients 0 sc.txns) rules.clients) in
    let publishers : list_all (is_publisher_script sc) sc.publishers ≡ true =
    second_holds (has_count 0 publishers_limit sc.publishers) _ (first_holds _ (have_versions_left sc.publishers 0 sc.admins) rules.publishers) in
    let officers : list_all (is_officer_script sc) sc.officers ≡ true = second_holds (has_count 0 officers_limit sc.officers) _ rules.officers in
    each_append (Each (IsCommand sc)) (map submissions sc.clients) (sc.publishers ++ sc.officers)
    (each_map (λ (c : List TxnId). is_script_of_txns sc c ≡ true) (Each (IsCommand sc)) submissions (client_commands sc) sc.clients (each_from_all (is_script_of_txns sc) sc.clients clients))
    (each_append (Each (IsCommand sc)) sc.publishers sc.officers
    (each_as (λ (s : List Step). is_publisher_script sc s ≡ true) (Each (IsCommand sc)) (publisher_commands sc) sc.publishers (each_from_all (is_publisher_script sc) sc.publishers publishers))
    (each_as (λ (s : List Step). is_officer_script sc s ≡ true) (Each (IsCommand sc)) (officer_commands sc) sc.officers (each_from_all (is_officer_script sc) sc.officers officers)))

-- of a scenario that is told twice
pub told_commands : (told sc : Scenario) (scripts : List (List Step)) → told ≡ sc → is_valid told ≡ true → scripts ≡ scripts_of told → Each (Each (IsCommand sc)) scripts
told_commands told sc scripts about valid is =
    subst (λ (s : Scenario). Each (Each (IsCommand s)) scripts) about (subst (Each (Each (IsCommand told))) (sym is) (all_commands told valid))
