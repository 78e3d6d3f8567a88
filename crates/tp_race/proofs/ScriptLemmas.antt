-- What the scripts of a valid scenario allow: no transaction is submitted twice, no administrator publishes more than
-- it has, the clock stays low, and what steps name exists.
use Rattle.std.proofs.Common.{◌≡◌, ℕ, zero, suc, ◌+◌, ◌<◌, ◌≤◌, ◌*◌, nat_le, List, [], ◌∷◌, ◌++◌, length, map, slice_get, Bool, true, false, cond, Some, refl, ap, ◌∙◌, subst, arith}
use Rattle.std.proofs.lemmas.Bool.{and_parts}
use Rattle.std.proofs.lemmas.Bool.Decides.{nat_tests}
use Rattle.std.proofs.lemmas.List.Sums.{sum_by-append}
use Rattle.std.specs.List.{count_by, list_all, sum_by}
use Rattle.tp_model.proofs.RuleLemmas.{count_most}
use Rattle.tp_model.specs.Ids.{same_txn}
use Rattle.tp_model.specs.Limits.{clients_limit, has_count, officers_limit, publishers_limit, steps_limit}
use Rattle.tp_model.specs.Valid.{IsValid, are_submitted_once, are_valid_steps, have_versions_left, is_officer_script, is_officer_step, is_publication_of, is_publisher_script, is_publisher_step, is_script_of_txns, is_txn, is_valid_step, publications_of, submissions_of}
use Rattle.tp_model.specs.Words.step
use Rattle.tp_model.specs.Words.{Admin, AdminId, Scenario, Step, Transaction, TxnId}
use Rattle.tp_types.proofs.EachLemmas.{each_append, each_as, each_from_all, each_map}
use Rattle.tp_types.proofs.ListLemmas.{three_parts}
use Rattle.tp_types.specs.Each.{Each}
use Rattle.tp_race.proofs.ListLemmas.{one_by, sum_map, sum_most, sum_none, sum_same, sum_zero}
use Rattle.tp_race.specs.Callers.{scripts_of, submissions}
use Rattle.tp_race.specs.WholeRace.{submits}

-- ---- what scripts have

-- a step of a client, a publisher or an officer
abbrev pub is_command : Step → Bool
is_command (step.Submit txn) = true
is_command (step.Publish admin) = true
is_command (step.Push admin server) = true
is_command (step.Revoke cred) = true
is_command (step.Tick by) = true
is_command _ = false

-- and it is a valid one
pub record IsCommand (sc : Scenario) (taken : Step) : Type 0 where
  pub command : is_command taken ≡ true
  pub valid : is_valid_step sc taken ≡ true

publishes_command : (taken : Step) → is_publisher_step taken ≡ true → is_command taken ≡ true
publishes_command (step.Publish admin) e = refl
publishes_command (step.Push admin server) e = refl
publishes_command (step.Submit txn) e = refl
publishes_command (step.Revoke cred) e = refl
publishes_command (step.Tick by) e = refl
publishes_command (step.Deliver mail) e = absurd (cc)
publishes_command (step.Lose mail) e = absurd (cc)
publishes_command (step.Crash who cut) e = absurd (cc)
publishes_command (step.Boot who) e = absurd (cc)
publishes_command (step.Timer txn) e = absurd (cc)

officer_command : (taken : Step) → is_officer_step taken ≡ true → is_command taken ≡ true
officer_command (step.Publish admin) e = refl
officer_command (step.Push admin server) e = refl
officer_command (step.Submit txn) e = refl
officer_command (step.Revoke cred) e = refl
officer_command (step.Tick by) e = refl
officer_command (step.Deliver mail) e = absurd (cc)
officer_command (step.Lose mail) e = absurd (cc)
officer_command (step.Crash who cut) e = absurd (cc)
officer_command (step.Boot who) e = absurd (cc)
officer_command (step.Timer txn) e = absurd (cc)

-- of a publisher's script, and of an officer's
pub record IsOf (sc : Scenario) (own : Step → Bool) (taken : Step) : Type 0 where
  pub kind : own taken ≡ true
  pub valid : is_valid_step sc taken ≡ true

steps_of : (sc : Scenario) (own : Step → Bool) (script : List Step) → list_all own script ≡ true → list_all (is_valid_step sc) script ≡ true → Each (IsOf sc own) script
steps_of sc own [] k v = tt
steps_of sc own (taken ∷ script) k v =
    let kinds = and_parts (own taken) (list_all own script) k in
    let valids = and_parts (is_valid_step sc taken) (list_all (is_valid_step sc) script) v in
    (record { kind = kinds.0; valid = valids.0 }, steps_of sc own script kinds.1 valids.1)

pub publishers : (sc : Scenario) → IsValid sc → Each (λ (script : List Step). Each (IsOf sc is_publisher_step) script) sc.publishers
publishers sc h =
    let parts = three_parts (has_count 0 publishers_limit sc.publishers) (list_all (is_publisher_script sc) sc.publishers) (have_versions_left sc.publishers 0 sc.admins) h.publishers in
    each_as (λ (script : List Step). is_publisher_script sc script ≡ true) (λ (script : List Step). Each (IsOf sc is_publisher_step) script)
    (λ script e. let both = and_parts (list_all is_publisher_step script) (list_all (is_valid_step sc) script) e in steps_of sc is_publisher_step script both.0 both.1)
    sc.publishers (each_from_all (is_publisher_script sc) sc.publishers parts.1)

-- an officer's script is short too
pub record IsOfficer (sc : Scenario) (script : List Step) : Type 0 where
  pub steps : Each (IsOf sc is_officer_step) script
  pub few : length script ≤ 100000

officer : (sc : Scenario) (script : List Step) → is_officer_script sc script ≡ true → IsOfficer sc script
officer sc script e =
    let parts = and_parts (list_all is_officer_step script) (are_valid_steps sc script) e in
    let valid = and_parts (has_count 0 steps_limit script) (list_all (is_valid_step sc) script) parts.1 in
    record { steps = steps_of sc is_officer_step script parts.0 valid.1; few = count_most 0 100000 (length script) valid.0 }

pub officers : (sc : Scenario) → IsValid sc → Each (IsOfficer sc) sc.officers
officers sc h =
    let parts = and_parts (has_count 0 officers_limit sc.officers) (list_all (is_officer_script sc) sc.officers) h.officers in
    each_as (λ (script : List Step). is_officer_script sc script ≡ true) (IsOfficer sc) (officer sc) sc.officers (each_from_all (is_officer_script sc) sc.officers parts.1)

few_officers : (sc : Scenario) → IsValid sc → length sc.officers ≤ 8
few_officers sc h =
    count_most 0 8 (length sc.officers) (and_parts (has_count 0 officers_limit sc.officers) (list_all (is_officer_script sc) sc.officers) h.officers).0

-- all scripts have commands alone
pub all_commands : (sc : Scenario) → IsValid sc → Each (λ (script : List Step). Each (IsCommand sc) script) (scripts_of sc)
all_commands sc h =
    let clients = three_parts (has_count 0 clients_limit sc.clients) (list_all (is_script_of_txns sc) sc.clients) (are_submitted_once sc.clients 0 sc.txns) h.clients in
    each_append (λ (script : List Step). Each (IsCommand sc) script) (map submissions sc.clients) (sc.publishers ++ sc.officers)
    (each_map (λ (script : List TxnId). is_script_of_txns sc script ≡ true) (λ (script : List Step). Each (IsCommand sc) script) submissions
    (λ script e.
    each_map (λ (txn : TxnId). is_txn sc txn ≡ true) (IsCommand sc) (λ (txn : TxnId). step.Submit txn) (λ txn exists. record { command = refl; valid = exists }) script (each_from_all (is_txn sc) script e))
    sc.clients (each_from_all (is_script_of_txns sc) sc.clients clients.1))
    (each_append (λ (script : List Step). Each (IsCommand sc) script) sc.publishers sc.officers
    (each_as (λ (script : List Step). Each (IsOf sc is_publisher_step) script) (λ (script : List Step). Each (IsCommand sc) script)
    (λ script each. each_as (IsOf sc is_publisher_step) (IsCommand sc) (λ taken o. record { command = publishes_command taken o.kind; valid = o.valid }) script each) sc.publishers (publishers sc h))
    (each_as (IsOfficer sc) (λ (script : List Step). Each (IsCommand sc) script)
    (λ script o. each_as (IsOf sc is_officer_step) (IsCommand sc) (λ taken k. record { command = officer_command taken k.kind; valid = k.valid }) script o.steps) sc.officers (officers sc h)))

-- ---- sums over all scripts

-- what weighs nothing of a kind weighs nothing in scripts of that kind
silent_scripts : (sc : Scenario) (own : Step → Bool) (f : Step → ℕ) → ((taken : Step) → own taken ≡ true → f taken ≡ 0) → (scripts : List (List Step))
    → Each (λ (script : List Step). Each (IsOf sc own) script) scripts → sum_by (sum_by f) scripts ≡ 0
silent_scripts sc own f none scripts h =
    sum_none (sum_by f) scripts
    (each_as (λ (script : List Step). Each (IsOf sc own) script) (λ (script : List Step). sum_by f script ≡ 0)
    (λ script each. sum_none f script (each_as (IsOf sc own) (λ (taken : Step). f taken ≡ 0) (λ taken o. none taken o.kind) script each)) scripts h)

all_scripts : (sc : Scenario) (f : Step → ℕ)
    → sum_by (sum_by f) (scripts_of sc) ≡ sum_by (λ (script : List TxnId). sum_by (λ (txn : TxnId). f (step.Submit txn)) script) sc.clients + (sum_by (sum_by f) sc.publishers + sum_by (sum_by f) sc.officers)
all_scripts sc f =
    let clients : sum_by (sum_by f) (map submissions sc.clients) ≡ sum_by (λ (script : List TxnId). sum_by (λ (txn : TxnId). f (step.Submit txn)) script) sc.clients =
    sum_map (sum_by f) submissions sc.clients ∙ sum_same (λ (script : List TxnId). sum_by f (submissions script)) (λ (script : List TxnId). sum_by (λ (txn : TxnId). f (step.Submit txn)) script)
    (λ script. sum_map f (λ (txn : TxnId). step.Submit txn) script) sc.clients in
    omega (arith, clients, sum_by-append (sum_by f) (map submissions sc.clients) (sc.publishers ++ sc.officers), sum_by-append (sum_by f) sc.publishers sc.officers)

officer_scripts : (sc : Scenario) → IsValid sc → Each (λ (script : List Step). Each (IsOf sc is_officer_step) script) sc.officers
officer_scripts sc h = each_as (IsOfficer sc) (λ (script : List Step). Each (IsOf sc is_officer_step) script) (λ script o. o.steps) sc.officers (officers sc h)

-- neither does a client's script of which no submission weighs anything
silent_clients : (sc : Scenario) (f : Step → ℕ) → ((txn : TxnId) → f (step.Submit txn) ≡ 0) → sum_by (λ (script : List TxnId). sum_by (λ (txn : TxnId). f (step.Submit txn)) script) sc.clients ≡ 0
silent_clients sc f none =
    sum_zero (λ (script : List TxnId). sum_by (λ (txn : TxnId). f (step.Submit txn)) script) (λ script. sum_zero (λ (txn : TxnId). f (step.Submit txn)) none script) sc.clients

-- ---- each transaction is submitted at most once

once_at : (clients : List (List TxnId)) (number n : ℕ) (txns : List Transaction) → are_submitted_once clients number txns ≡ true → n < length txns → submissions_of (record { 0 = number + n }) clients ≤ 1
once_at clients number n [] e within = absurd (omega (arith, within))
once_at clients number zero (txn ∷ txns) e within =
    let parts = and_parts (nat_le (submissions_of (record { 0 = number }) clients) 1) (are_submitted_once clients (number + 1) txns) e in
    let same : number ≡ number + 0 = omega arith in
    let few : submissions_of (record { 0 = number }) clients ≤ 1 = grind (arith, nat_tests) in
    subst (λ (k : ℕ). submissions_of (record { 0 = k }) clients ≤ 1) same few
once_at clients number (suc n) (txn ∷ txns) e within =
    let parts = and_parts (nat_le (submissions_of (record { 0 = number }) clients) 1) (are_submitted_once clients (number + 1) txns) e in
    let same : number + 1 + n ≡ number + suc n = omega arith in
    subst (λ (k : ℕ). submissions_of (record { 0 = k }) clients ≤ 1) same (once_at clients (number + 1) n txns parts.1 (omega (arith, within)))

same_turned : (one other : TxnId) → same_txn one other ≡ same_txn other one
same_turned one other = grind (arith, nat_tests)

unsubmitted_of : (own : Step → Bool) (txn : TxnId) → ((other : TxnId) → own (step.Submit other) ≡ false) → (taken : Step) → own taken ≡ true → one_by (submits txn taken) ≡ 0
unsubmitted_of own txn off (step.Submit other) e = let no = off other in absurd (cc)
unsubmitted_of own txn off _ e = refl

pub submitted_once : (sc : Scenario) (txn : TxnId) → IsValid sc → txn.0 < length sc.txns → sum_by (count_by (submits txn)) (scripts_of sc) ≤ 1
submitted_once sc txn h exists =
    let f : Step → ℕ = λ taken. cond (submits txn taken) 1 0 in
    let parts = three_parts (has_count 0 clients_limit sc.clients) (list_all (is_script_of_txns sc) sc.clients) (are_submitted_once sc.clients 0 sc.txns) h.clients in
    let place : 0 + txn.0 ≡ txn.0 = omega arith in
    let once : submissions_of txn sc.clients ≤ 1 = subst (λ (k : ℕ). submissions_of (record { 0 = k }) sc.clients ≤ 1) place (once_at sc.clients 0 txn.0 sc.txns parts.2 exists) in
    let clients : sum_by (λ (script : List TxnId). count_by (λ (other : TxnId). same_txn other txn) script) sc.clients ≡ submissions_of txn sc.clients =
    sum_same (λ (script : List TxnId). count_by (λ (other : TxnId). same_txn other txn) script) (count_by (same_txn txn))
    (λ script. sum_same (λ (other : TxnId). cond (same_txn other txn) 1 0) (λ (other : TxnId). cond (same_txn txn other) 1 0) (λ other. ap (λ (b : Bool). cond b 1 0) (same_turned other txn)) script) sc.clients in
    let none = silent_scripts sc is_publisher_step f (unsubmitted_of is_publisher_step txn (λ other. refl)) sc.publishers (publishers sc h) in
    let neither = silent_scripts sc is_officer_step f (unsubmitted_of is_officer_step txn (λ other. refl)) sc.officers (officer_scripts sc h) in
    omega (arith, all_scripts sc f, once, clients, none, neither)

-- ---- an administrator has a version for each publication

left_at : (publishers : List (List Step)) (number n : ℕ) (admins : List Admin) (declared : Admin) → have_versions_left publishers number admins ≡ true → slice_get admins n ≡ Some declared
    → declared.opening.0 + publications_of (record { 0 = number + n }) publishers ≤ length declared.library
left_at publishers number n [] declared e found = absurd (cc)
left_at publishers number zero (admin ∷ admins) declared e found =
    let parts = and_parts (nat_le (admin.opening.0 + publications_of (record { 0 = number }) publishers) (length admin.library)) (have_versions_left publishers (number + 1) admins) e in
    let same : number ≡ number + 0 = omega arith in
    let is : admin ≡ declared = cc in
    let few : admin.opening.0 + publications_of (record { 0 = number }) publishers ≤ length admin.library = grind (arith, nat_tests) in
    subst (λ (a : Admin). a.opening.0 + publications_of (record { 0 = number + 0 }) publishers ≤ length a.library) is
    (subst (λ (k : ℕ). admin.opening.0 + publications_of (record { 0 = k }) publishers ≤ length admin.library) same few)
left_at publishers number (suc n) (admin ∷ admins) declared e found =
    let parts = and_parts (nat_le (admin.opening.0 + publications_of (record { 0 = number }) publishers) (length admin.library)) (have_versions_left publishers (number + 1) admins) e in
    let same : number + 1 + n ≡ number + suc n = omega arith in
    subst (λ (k : ℕ). declared.opening.0 + publications_of (record { 0 = k }) publishers ≤ length declared.library) same (left_at publishers (number + 1) n admins declared parts.1 found)

unpublished_of : (admin : AdminId) (taken : Step) → is_officer_step taken ≡ true → one_by (is_publication_of admin taken) ≡ 0
unpublished_of admin (step.Publish other) e = absurd (cc)
unpublished_of admin _ e = refl

pub published_few : (sc : Scenario) (admin : AdminId) (declared : Admin) → IsValid sc → slice_get sc.admins admin.0 ≡ Some declared
    → declared.opening.0 + sum_by (count_by (is_publication_of admin)) (scripts_of sc) ≤ length declared.library
published_few sc admin declared h found =
    let f : Step → ℕ = λ taken. cond (is_publication_of admin taken) 1 0 in
    let place : 0 + admin.0 ≡ admin.0 = omega arith in
    let parts = three_parts (has_count 0 publishers_limit sc.publishers) (list_all (is_publisher_script sc) sc.publishers) (have_versions_left sc.publishers 0 sc.admins) h.publishers in
    let few : declared.opening.0 + publications_of admin sc.publishers ≤ length declared.library =
    subst (λ (k : ℕ). declared.opening.0 + publications_of (record { 0 = k }) sc.publishers ≤ length declared.library) place (left_at sc.publishers 0 admin.0 sc.admins declared parts.2 found) in
    let clients = silent_clients sc f (λ txn. refl) in
    let none = silent_scripts sc is_officer_step f (unpublished_of admin) sc.officers (officer_scripts sc h) in
    omega (arith, all_scripts sc f, few, clients, none)

-- ---- the clock stays low

-- by how much a step moves the clock
abbrev pub ticks_by : Step → ℕ
ticks_by (step.Tick by) = by
ticks_by _ = 0

unticked_of : (taken : Step) → is_publisher_step taken ≡ true → ticks_by taken ≡ 0
unticked_of (step.Tick by) e = absurd (cc)
unticked_of _ e = refl

ticks_little : (sc : Scenario) (taken : Step) → is_valid_step sc taken ≡ true → ticks_by taken ≤ 1000000
ticks_little sc (step.Tick by) e = count_most 1 1000000 by e
ticks_little sc _ e = omega arith

-- all ticks of all officers: 8 of them, of 100,000 steps, each of 1,000,000
pub ticked_few : (sc : Scenario) → IsValid sc → sum_by (sum_by ticks_by) (scripts_of sc) ≤ 800000000000
ticked_few sc h =
    let clients = silent_clients sc ticks_by (λ txn. refl) in
    let none = silent_scripts sc is_publisher_step ticks_by unticked_of sc.publishers (publishers sc h) in
    let each : sum_by (sum_by ticks_by) sc.officers ≤ length sc.officers * 100000000000 =
    sum_most (sum_by ticks_by) 100000000000 sc.officers
    (each_as (IsOfficer sc) (λ (script : List Step). sum_by ticks_by script ≤ 100000000000)
    (λ script o.
    let most = sum_most ticks_by 1000000 script (each_as (IsOf sc is_officer_step) (λ (taken : Step). ticks_by taken ≤ 1000000) (λ taken k. ticks_little sc taken k.valid) script o.steps) in
    let few = o.few in
    omega (arith, most, few))
    sc.officers (officers sc h)) in
    let few = few_officers sc h in
    omega (arith, all_scripts sc ticks_by, clients, none, each, few)
