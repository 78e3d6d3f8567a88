-- When a verdict is a proof of authorisation that evaluates true.
use Rattle.std.specs.Prelude.{ℕ, zero, suc, ◌&&◌, List, slice_get, Bool, false, Option, Some, None, option_and_then}
use Rattle.std.specs.List.{list_all}
use Rattle.std.specs.Option.{option_map_or}
use Rattle.tp_model.specs.Words.{Action, Admin, AdminId, CredId, Fact, Item, Policy, Query, Rule, Scenario, ServerId, Transaction, Verdict, Version}
use Rattle.tp_model.specs.Words.action
use Rattle.tp_types.specs.declared.scenario.Query.TheVariants.{Read, Write}
use Rattle.tp_model.specs.Credentials.{holdings, is_presented, is_valid, triples_in}
use Rattle.tp_model.specs.Ids.{same_admin, same_server}
use Rattle.tp_model.specs.Policies.{allows, holds, matches}
use Rattle.tp_model.specs.Queries.{item_of, query_at}

-- ---- the query

-- what a query does to its item
abbrev pub action_of : Query → Action
action_of (Read item into) = action.Read
action_of (Write item expr) = action.Write

abbrev pub is_item_at : ServerId → AdminId → Item → Bool
is_item_at at admin item = same_server item.server at && same_admin item.admin admin

abbrev pub is_query_at : Scenario → ServerId → AdminId → Query → Bool
is_query_at sc at admin query =
    option_map_or (is_item_at at admin) (slice_get sc.items (item_of query).0) false

-- the number is a query of the transaction, and the server and the administrator are those of its item
abbrev pub is_own_query : Scenario → Transaction → ℕ → ServerId → AdminId → Bool
is_own_query sc txn number at admin =
    option_map_or (is_query_at sc at admin) (query_at txn number) false

-- ---- the policy

-- a version of a library; versions count from 1
abbrev pub library_version : List Policy → ℕ → Option Policy
library_version library zero = None
library_version library (suc before) = slice_get library before

abbrev pub version_of : ℕ → Admin → Option Policy
version_of version declared = library_version declared.library version

-- a version of an administrator's policy, where its library has it
abbrev pub policy_at : Scenario → AdminId → Version → Option Policy
policy_at sc admin version = option_and_then (version_of version.0) (slice_get sc.admins admin.0)

-- a test of a query's action, its item's name, and a policy version
abbrev pub tests_item : (Action → List ℕ → Policy → Bool) → Action → Option Item → Policy → Bool
tests_item test asked None policy = false
tests_item test asked (Some item) policy = test asked item.name policy

abbrev pub tests_query : (Action → List ℕ → Policy → Bool) → Scenario → Option Query → Policy → Bool
tests_query test sc None policy = false
tests_query test sc (Some query) policy =
    tests_item test (action_of query) (slice_get sc.items (item_of query).0) policy

abbrev pub tests_version : (Action → List ℕ → Policy → Bool) → Scenario → Transaction → ℕ
    → Option Policy → Bool
tests_version test sc txn number None = false
tests_version test sc txn number (Some policy) = tests_query test sc (query_at txn number) policy

abbrev pub allows_held : Scenario → ℕ → List Fact → Transaction → Action → List ℕ → Policy → Bool
allows_held sc place facts txn asked item policy =
    allows policy asked item (holdings sc place facts txn)

-- which query of a transaction is judged, by which version of which administrator's policy, and at which place
pub record Question : Type 0 where
  pub query : ℕ
  pub admin : AdminId
  pub version : Version
  pub place : ℕ

-- the version of the administrator's policy allows the query, on what the transaction holds at the place
abbrev pub is_allowed : Scenario → List Fact → Transaction → Question → Bool
is_allowed sc facts txn asked =
    tests_version (allows_held sc asked.place facts txn) sc txn asked.query
    (policy_at sc asked.admin asked.version)

-- what a verdict answers
abbrev pub question_of : Verdict → Question
question_of verdict =
    record {
      query = verdict.query;
      admin = verdict.admin;
      version = verdict.version;
      place = verdict.place;
    }

-- ---- the certificate

abbrev pub rule_in : Policy → ℕ → Option Rule
rule_in policy zero = None
rule_in policy (suc before) = slice_get policy.rules before

-- a rule by its number, which counts from 1
abbrev pub rule_of : Policy → Option ℕ → Option Rule
rule_of policy None = None
rule_of policy (Some number) = rule_in policy number

abbrev pub rule_fits : Scenario → Transaction → List CredId → Action → List ℕ → Rule → Bool
rule_fits sc txn uses asked item rule =
    matches asked item rule && holds (triples_in sc.creds txn.subject uses) rule.cond

abbrev pub rule_proves : Scenario → Transaction → List CredId → Option ℕ → Action → List ℕ → Policy
    → Bool
rule_proves sc txn uses rule asked item policy =
    option_map_or (rule_fits sc txn uses asked item) (rule_of policy rule) false

abbrev pub is_usable : Scenario → ℕ → List Fact → Transaction → CredId → Bool
is_usable sc place facts txn cred = is_presented txn cred && is_valid sc place facts cred

-- the rule matches the query and is true of the credentials that it uses alone; each of these is presented, and valid at the place
abbrev pub is_certified : Scenario → List Fact → Transaction → Verdict → Bool
is_certified sc facts txn verdict =
    tests_version (rule_proves sc txn verdict.uses verdict.rule) sc txn verdict.query
    (policy_at sc verdict.admin verdict.version)
    && list_all (is_usable sc verdict.place facts txn) verdict.uses

-- the verdict is a proof of authorisation that evaluates true
abbrev pub is_true_verdict : Scenario → List Fact → Transaction → Verdict → Bool
is_true_verdict sc facts txn verdict =
    is_own_query sc txn verdict.query verdict.server verdict.admin
    && is_allowed sc facts txn (question_of verdict)
    && is_certified sc facts txn verdict
