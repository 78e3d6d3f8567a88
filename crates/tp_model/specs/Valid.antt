-- The rules that every scenario keeps: its limits, that names are apart, and that what it names exists. That
-- a policy is one of the policy language its reader promises.
use Rattle.std.specs.Prelude.{◌≡◌, ℕ, ◌+◌, ◌^◌, ◌==◌, ◌&&◌, ◌||◌, nat_le, nat_lt, List, [], ◌∷◌, length, Bool, true, false, not, pos, neg_ℤ, if◌then◌else◌}
use Rattle.std.specs.Cmp.Lexicographic.{pointwise}
use Rattle.std.specs.List.{count_by, list_all, list_any, sum_by}
use Rattle.std.specs.Option.{option_map_or}
use Rattle.tp_model.specs.Words.{Actor, Admin, AdminId, CredId, Credential, Cut, Item, ItemId, Operand, Policy, Query, Scenario, ServerDecl, ServerId, Step, Term, Transaction, TxnId, Value, Version}
use Rattle.tp_model.specs.Words.actor
use Rattle.tp_model.specs.Words.step
use Rattle.tp_types.specs.declared.policy.Value.TheVariants.{Number, Word}
use Rattle.tp_types.specs.declared.scenario.Operand.TheVariants.{Constant, Register}
use Rattle.tp_types.specs.declared.scenario.Query.TheVariants.{Read, Write}
use Rattle.tp_model.specs.Ids.{same_admin, same_cred, same_item, same_name, same_txn}
use Rattle.tp_model.specs.Limits.{admins_limit, calls_limit, clients_limit, clock_limit, creds_limit, has_count, is_between, is_from_to, is_value, items_limit, number_limit, officers_limit, publishers_limit, queries_limit, registers_limit, rounds_limit, rules_limit, servers_limit, steps_limit, terms_limit, tick_limit, txns_limit, versions_limit}

-- ---- what exists

abbrev pub is_admin : Scenario → AdminId → Bool
is_admin sc admin = nat_lt admin.0 (length sc.admins)

abbrev pub is_cred : Scenario → CredId → Bool
is_cred sc cred = nat_lt cred.0 (length sc.creds)

abbrev pub is_server : Scenario → ServerId → Bool
is_server sc at = nat_lt at.0 (length sc.servers)

abbrev pub is_item : Scenario → ItemId → Bool
is_item sc item = nat_lt item.0 (length sc.items)

abbrev pub is_txn : Scenario → TxnId → Bool
is_txn sc txn = nat_lt txn.0 (length sc.txns)

-- ---- lists

-- no two members are the same
abbrev pub are_distinct : {A : Type 0} → (A → A → Bool) → List A → Bool
are_distinct same [] = true
are_distinct same (x ∷ xs) = not (list_any (same x) xs) && are_distinct same xs

-- ---- administrators

-- a policy has no more rules than a text of 4,096 bytes
abbrev pub is_valid_policy : Policy → Bool
is_valid_policy policy = nat_le (length policy.rules) rules_limit

-- 1 to 64 versions, and the opening version is one of them
abbrev pub is_valid_admin : Admin → Bool
is_valid_admin admin =
    has_count 1 versions_limit admin.library && list_all is_valid_policy admin.library
    && is_from_to 1 (length admin.library) admin.opening.0

abbrev pub same_admin_name : Admin → Admin → Bool
same_admin_name one other = same_name one.name other.name

-- 1 to 16 administrators, whose names are apart
abbrev pub are_valid_admins : List Admin → Bool
are_valid_admins admins =
    has_count 1 admins_limit admins && list_all is_valid_admin admins && are_distinct same_admin_name admins

-- ---- credentials

-- a number has at most 15 digits
abbrev pub is_valid_value : Value → Bool
is_valid_value (Number z) = is_between (neg_ℤ number_limit) number_limit z
is_valid_value (Word name) = true

abbrev pub is_valid_cred : Credential → Bool
is_valid_cred cred =
    is_valid_value cred.value && nat_le cred.from clock_limit && nat_le cred.until clock_limit

abbrev pub same_cred_name : Credential → Credential → Bool
same_cred_name one other = same_name one.name other.name

-- at most 256 credentials, whose names are apart
abbrev pub are_valid_creds : List Credential → Bool
are_valid_creds creds =
    has_count 0 creds_limit creds && list_all is_valid_cred creds && are_distinct same_cred_name creds

-- ---- servers and items

-- the version is one that its administrator had by the opening
abbrev pub is_known : Admin → Version → Bool
is_known admin version = is_from_to 1 admin.opening.0 version.0

-- one known version of each administrator, in their order
abbrev pub are_known : List Admin → List Version → Bool
are_known [] [] = true
are_known (admin ∷ admins) (version ∷ versions) =
    is_known admin version && are_known admins versions
are_known _ _ = false

-- the ids of the items of this server, where the first item has this number
abbrev pub owned_from : ℕ → ℕ → List Item → List ItemId
owned_from at number [] = []
owned_from at number (item ∷ items) =
    if item.server.0 == at then record { 0 = number } ∷ owned_from at (number + 1) items
    else owned_from at (number + 1) items

-- the server of this number knows versions as it may, and lists just its own items, in order of number; they are at most 64
abbrev pub is_valid_server : Scenario → ℕ → ServerDecl → Bool
is_valid_server sc at server =
    are_known sc.admins server.knows && has_count 0 items_limit server.items
    && pointwise same_item server.items (owned_from at 0 sc.items)

-- so do all servers, the first having this number
abbrev pub are_valid_from : Scenario → ℕ → List ServerDecl → Bool
are_valid_from sc at [] = true
are_valid_from sc at (server ∷ servers) =
    is_valid_server sc at server && are_valid_from sc (at + 1) servers

abbrev pub same_server_name : ServerDecl → ServerDecl → Bool
same_server_name one other = same_name one.name other.name

-- 1 to 16 servers, whose names are apart
abbrev pub are_valid_servers : Scenario → Bool
are_valid_servers sc =
    has_count 1 servers_limit sc.servers && are_valid_from sc 0 sc.servers
    && are_distinct same_server_name sc.servers

-- the item's bounds are within the limits
abbrev pub has_valid_bounds : Item → Bool
has_valid_bounds item = is_value item.min && is_value item.max

-- the item's opening value is in its range, and the range is within the limits
abbrev pub has_valid_range : Item → Bool
has_valid_range item = has_valid_bounds item && is_between item.min item.max item.value

-- the item is of a server and of an administrator, and its range is valid
abbrev pub is_valid_item : Scenario → Item → Bool
is_valid_item sc item = is_server sc item.server && is_admin sc item.admin && has_valid_range item

abbrev pub same_item_name : Item → Item → Bool
same_item_name one other = same_name one.name other.name

-- items stand server by server, from this server on
abbrev pub are_by_server : ℕ → List Item → Bool
are_by_server at [] = true
are_by_server at (item ∷ items) = nat_le at item.server.0 && are_by_server item.server.0 items

-- items' names are apart, of all servers together
abbrev pub are_valid_items : Scenario → Bool
are_valid_items sc =
    list_all (is_valid_item sc) sc.items && are_by_server 0 sc.items
    && are_distinct same_item_name sc.items

-- ---- transactions

-- registers count from 1 to 9
abbrev pub is_register : ℕ → Bool
is_register register = is_from_to 1 registers_limit register

abbrev pub is_valid_operand : Operand → Bool
is_valid_operand (Constant c) = is_between (pos 0) number_limit c
is_valid_operand (Register register) = is_register register

abbrev pub is_constant : Operand → Bool
is_constant (Constant c) = true
is_constant (Register register) = false

abbrev pub is_valid_term : Term → Bool
is_valid_term term = is_valid_operand term.operand

abbrev pub has_constant : Term → Bool
has_constant term = is_constant term.operand

-- a sum does not begin by taking away a register
abbrev pub begins_well : List Term → Bool
begins_well [] = false
begins_well (term ∷ terms) = not term.minus || has_constant term

-- a sum has 1 to 5 terms, at most one of them a constant
abbrev pub is_valid_sum : List Term → Bool
is_valid_sum expr =
    has_count 1 terms_limit expr && list_all is_valid_term expr && begins_well expr
    && nat_le (count_by has_constant expr) 1

abbrev pub is_valid_query : Scenario → Query → Bool
is_valid_query sc (Read item into) = is_item sc item && is_register into
is_valid_query sc (Write item expr) = is_item sc item && is_valid_sum expr

abbrev pub is_name_of_server : Transaction → ServerDecl → Bool
is_name_of_server txn server = same_name txn.name server.name

-- the credentials that it presents exist and are apart
abbrev pub has_valid_creds : Scenario → Transaction → Bool
has_valid_creds sc txn =
    has_count 0 creds_limit txn.creds && list_all (is_cred sc) txn.creds && are_distinct same_cred txn.creds

-- 1 to 16 queries, a round limit of 1 to 16, and no server's name
abbrev pub is_valid_txn : Scenario → Transaction → Bool
is_valid_txn sc txn =
    has_valid_creds sc txn && is_from_to 1 rounds_limit txn.rounds
    && (has_count 1 queries_limit txn.queries && list_all (is_valid_query sc) txn.queries
    && not (list_any (is_name_of_server txn) sc.servers))

abbrev pub same_txn_name : Transaction → Transaction → Bool
same_txn_name one other = same_name one.name other.name

-- at most 128 transactions, whose names are apart
abbrev pub are_valid_txns : Scenario → Bool
are_valid_txns sc =
    has_count 0 txns_limit sc.txns && list_all (is_valid_txn sc) sc.txns
    && are_distinct same_txn_name sc.txns

-- ---- steps

-- the actor is a server or a coordinator, which may crash
abbrev pub may_crash : Scenario → Actor → Bool
may_crash sc (actor.Server at) = is_server sc at
may_crash sc (actor.Coordinator txn) = is_txn sc txn
may_crash sc _ = false

-- a mail's number has at most 15 digits
abbrev pub is_number : ℕ → Bool
is_number number = nat_lt number (10 ^ 15)

-- an append has four device calls, and the fill is a byte
abbrev pub is_valid_cut : Cut → Bool
is_valid_cut cut = is_number cut.mail && nat_le cut.calls calls_limit && nat_le cut.fill 255

abbrev pub is_valid_step : Scenario → Step → Bool
is_valid_step sc (step.Submit txn) = is_txn sc txn
is_valid_step sc (step.Publish admin) = is_admin sc admin
is_valid_step sc (step.Push admin server) = is_admin sc admin && is_server sc server
is_valid_step sc (step.Revoke cred) = is_cred sc cred
is_valid_step sc (step.Tick by) = is_from_to 1 tick_limit by
is_valid_step sc (step.Deliver mail) = is_number mail
is_valid_step sc (step.Lose mail) = is_number mail
is_valid_step sc (step.Crash who cut) = may_crash sc who && option_map_or is_valid_cut cut true
is_valid_step sc (step.Boot who) = may_crash sc who
is_valid_step sc (step.Timer txn) = is_txn sc txn

-- at most 100,000 steps are listed
abbrev pub are_valid_steps : Scenario → List Step → Bool
are_valid_steps sc steps = has_count 0 steps_limit steps && list_all (is_valid_step sc) steps

-- ---- the scripts of a race

-- how often clients submit the transaction
abbrev pub submissions_of : TxnId → List (List TxnId) → ℕ
submissions_of txn clients = sum_by (count_by (same_txn txn)) clients

abbrev pub is_script_of_txns : Scenario → List TxnId → Bool
is_script_of_txns sc script = list_all (is_txn sc) script

-- of so many transactions from this number on, none is submitted twice
abbrev pub are_submitted_once : List (List TxnId) → ℕ → List Transaction → Bool
are_submitted_once clients number [] = true
are_submitted_once clients number (txn ∷ txns) =
    nat_le (submissions_of (record { 0 = number }) clients) 1
    && are_submitted_once clients (number + 1) txns

-- at most 16 clients, which submit no transaction twice
abbrev pub are_valid_clients : Scenario → Bool
are_valid_clients sc =
    has_count 0 clients_limit sc.clients && list_all (is_script_of_txns sc) sc.clients
    && are_submitted_once sc.clients 0 sc.txns

-- a publisher publishes and pushes
abbrev pub is_publisher_step : Step → Bool
is_publisher_step (step.Publish admin) = true
is_publisher_step (step.Push admin server) = true
is_publisher_step _ = false

abbrev pub is_publisher_script : Scenario → List Step → Bool
is_publisher_script sc script =
    list_all is_publisher_step script && list_all (is_valid_step sc) script

abbrev pub is_publication_of : AdminId → Step → Bool
is_publication_of admin (step.Publish other) = same_admin other admin
is_publication_of admin _ = false

-- how often publishers publish for the administrator
abbrev pub publications_of : AdminId → List (List Step) → ℕ
publications_of admin publishers = sum_by (count_by (is_publication_of admin)) publishers

-- of the administrators from this number on, each has a version left for each publication
abbrev pub have_versions_left : List (List Step) → ℕ → List Admin → Bool
have_versions_left publishers number [] = true
have_versions_left publishers number (admin ∷ admins) =
    nat_le (admin.opening.0 + publications_of (record { 0 = number }) publishers)
    (length admin.library)
    && have_versions_left publishers (number + 1) admins

-- at most 8 publishers
abbrev pub are_valid_publishers : Scenario → Bool
are_valid_publishers sc =
    has_count 0 publishers_limit sc.publishers && list_all (is_publisher_script sc) sc.publishers
    && have_versions_left sc.publishers 0 sc.admins

-- an officer moves the clock and revokes
abbrev pub is_officer_step : Step → Bool
is_officer_step (step.Tick by) = true
is_officer_step (step.Revoke cred) = true
is_officer_step _ = false

abbrev pub is_officer_script : Scenario → List Step → Bool
is_officer_script sc script = list_all is_officer_step script && are_valid_steps sc script

-- at most 8 officers
abbrev pub are_valid_officers : Scenario → Bool
are_valid_officers sc = has_count 0 officers_limit sc.officers && list_all (is_officer_script sc) sc.officers

-- ---- the whole

-- who sets policies, and what is shown to them
abbrev pub has_valid_policies : Scenario → Bool
has_valid_policies sc =
    are_valid_admins sc.admins && nat_le sc.clock clock_limit && are_valid_creds sc.creds

-- what servers keep, and what transactions do with it
abbrev pub has_valid_data : Scenario → Bool
has_valid_data sc = are_valid_servers sc && are_valid_items sc && are_valid_txns sc

-- what a run or a race is to do
abbrev pub has_valid_scripts : Scenario → Bool
has_valid_scripts sc =
    are_valid_steps sc sc.steps && are_valid_clients sc
    && (are_valid_publishers sc && are_valid_officers sc)

-- the scenario keeps every rule
unfoldable pub is_valid : Scenario → Bool
is_valid sc = has_valid_policies sc && has_valid_data sc && has_valid_scripts sc

-- ---- the rules one by one, as proofs take them

pub record IsValid (sc : Scenario) : Type 0 where
  pub admins : are_valid_admins sc.admins ≡ true
  pub clock : nat_le sc.clock clock_limit ≡ true
  pub creds : are_valid_creds sc.creds ≡ true
  pub servers : are_valid_servers sc ≡ true
  pub items : are_valid_items sc ≡ true
  pub txns : are_valid_txns sc ≡ true
  pub steps : are_valid_steps sc sc.steps ≡ true
  pub clients : are_valid_clients sc ≡ true
  pub publishers : are_valid_publishers sc ≡ true
  pub officers : are_valid_officers sc ≡ true
