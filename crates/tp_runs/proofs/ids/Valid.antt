-- What the proofs of soundness take from a scenario: rules that every scenario keeps.
use Rattle.std.proofs.Common.{List, [], arith, length, map, true, ℕ, ◌+◌, ◌∷◌, ◌≡◌, ◌≤◌}
use Rattle.std.proofs.lemmas.Bool.Decides.{nat_tests}
use Rattle.std.proofs.lemmas.Bool.{and_parts, ltb-true}
use Rattle.std.specs.List.{list_all}
use Rattle.tp_model.proofs.RuleLemmas as rules
use Rattle.tp_model.specs.Limits.{has_count, is_between, is_from_to, is_value}
use Rattle.tp_model.specs.Valid.{are_by_server, are_distinct, are_known, are_valid_from, has_valid_bounds, has_valid_creds, has_valid_range, is_admin, is_cred, is_known, is_server, is_valid, is_valid_admin, is_valid_cred, is_valid_item, is_valid_policy, is_valid_server, is_valid_txn, owned_from, same_admin_name, same_cred_name, same_item_name, same_server_name, same_txn_name}
use Rattle.tp_model.specs.Ids.{same_cred, same_item}
use Rattle.std.specs.Cmp.Lexicographic.{pointwise}
use Rattle.tp_model.specs.Words.{Admin, CredId, Item, Scenario, ServerDecl, Transaction, Version}
use Rattle.tp_offices.specs.Master.{last_of, opening_in}
use Rattle.tp_runs.specs.Sound.{AreCreds, AreVersions, AreVersionsOf, IsVersionOf}
use Rattle.tp_types.specs.Each.{Each}
use Rattle.tp_machine.specs.Named.{IsAdmin, IsCred, IsServer}
use Rattle.tp_types.proofs.EachLemmas.{each_from_all}
use Rattle.tp_types.proofs.EachLemmas.{each_as}
use Rattle.tp_types.proofs.ListLemmas.{three_parts}

-- ---- what is taken

-- the item's server and administrator exist, its bounds are values, and its opening value is within them
pub record IsValidItem (sc : Scenario) (item : Item) : Type 0 where
  pub server : IsServer sc item.server
  pub admin : IsAdmin sc item.admin
  pub min : is_value item.min ≡ true
  pub max : is_value item.max ≡ true
  pub opening : is_between item.min item.max item.value ≡ true

-- what the scenario names exists, each transaction is valid, and there are few versions, credentials and administrators
pub record IsValid (sc : Scenario) : Type 0 where
  pub txns : Each (λ (declared : Transaction). is_valid_txn sc declared ≡ true) sc.txns
  pub creds : Each (λ (declared : Transaction). AreCreds sc declared.creds) sc.txns
  pub items : Each (IsValidItem sc) sc.items
  pub servers : Each (λ (declared : ServerDecl). AreVersions sc declared.knows) sc.servers
  pub openings : AreVersions sc (map opening_in sc.admins)
  pub lasts : AreVersions sc (map last_of sc.admins)
  pub libraries : Each (λ (admin : Admin). length admin.library ≤ 64) sc.admins
  pub few_creds : length sc.creds ≤ 256
  pub few_admins : length sc.admins ≤ 16

-- ---- numbers

least : (low high n : ℕ) → is_from_to low high n ≡ true → low ≤ n
least low high n e = grind (arith, nat_tests)

-- ---- each rule

item_valid : (sc : Scenario) (item : Item) → is_valid_item sc item ≡ true → IsValidItem sc item
item_valid sc item e =
    let parts = three_parts (is_server sc item.server) (is_admin sc item.admin) (has_valid_range item) e in
    let range = and_parts (has_valid_bounds item) (is_between item.min item.max item.value) parts.2 in
    let bounds = and_parts (is_value item.min) (is_value item.max) range.0 in
    record { server = ltb-true item.server.0 (length sc.servers) parts.0; admin = ltb-true item.admin.0 (length sc.admins) parts.1; min = bounds.0; max = bounds.1; opening = range.1 }

library_few : (admin : Admin) → is_valid_admin admin ≡ true → length admin.library ≤ 64
library_few admin e =
    rules.count_most 1 64 (length admin.library) (three_parts (has_count 1 64 admin.library) (list_all is_valid_policy admin.library) (is_from_to 1 (length admin.library) admin.opening.0) e).0

opening_valid : (admin : Admin) → is_valid_admin admin ≡ true → IsVersionOf admin admin.opening
opening_valid admin e =
    let parts = three_parts (has_count 1 64 admin.library) (list_all is_valid_policy admin.library) (is_from_to 1 (length admin.library) admin.opening.0) e in
    (least 1 (length admin.library) admin.opening.0 parts.2, rules.count_most 1 (length admin.library) admin.opening.0 parts.2)

-- a version for each administrator
versions_valid : (version : Admin → Version) (admins : List Admin) → Each (λ (admin : Admin). IsVersionOf admin (version admin)) admins → AreVersionsOf admins (map version admins)
versions_valid version [] h = tt
versions_valid version (admin ∷ admins) h = (h.0, versions_valid version admins h.1)

-- a library has at most 64 versions, so the last one is that of its length
last_valid : (admin : Admin) → is_valid_admin admin ≡ true → IsVersionOf admin (last_of admin)
last_valid admin e =
    let parts = three_parts (has_count 1 64 admin.library) (list_all is_valid_policy admin.library) (is_from_to 1 (length admin.library) admin.opening.0) e in
    let low : 1 ≤ length admin.library = least 1 64 (length admin.library) parts.0 in
    (omega (arith, low), omega arith)

known_valid : (admins : List Admin) (versions : List Version) → Each (λ (admin : Admin). IsVersionOf admin admin.opening) admins → are_known admins versions ≡ true → AreVersionsOf admins versions
known_valid [] [] h e = tt
known_valid (admin ∷ admins) (version ∷ versions) h e =
    let parts = and_parts (is_known admin version) (are_known admins versions) e in
    let high : version.0 ≤ admin.opening.0 = rules.count_most 1 admin.opening.0 version.0 parts.0 in
    ((least 1 admin.opening.0 version.0 parts.0, omega (arith, high, h.0.1)), known_valid admins versions h.1 parts.1)
known_valid [] (version ∷ versions) h e = absurd (cc)
known_valid (admin ∷ admins) [] h e = absurd (cc)

servers_valid : (sc : Scenario) (at : ℕ) (servers : List ServerDecl) → Each (λ (admin : Admin). IsVersionOf admin admin.opening) sc.admins → are_valid_from sc at servers ≡ true
    → Each (λ (declared : ServerDecl). AreVersions sc declared.knows) servers
servers_valid sc at [] h e = tt
servers_valid sc at (server ∷ servers) h e =
    let parts = and_parts (is_valid_server sc at server) (are_valid_from sc (at + 1) servers) e in
    let knows = three_parts (are_known sc.admins server.knows) (has_count 0 64 server.items) (pointwise same_item server.items (owned_from at 0 sc.items)) parts.0 in
    (known_valid sc.admins server.knows h knows.0, servers_valid sc (at + 1) servers h parts.1)

creds_valid : (sc : Scenario) (txn : Transaction) → is_valid_txn sc txn ≡ true → AreCreds sc txn.creds
creds_valid sc txn e =
    let parts = three_parts (has_valid_creds sc txn) (is_from_to 1 16 txn.rounds) _ e in
    let creds = three_parts (has_count 0 256 txn.creds) (list_all (is_cred sc) txn.creds) (are_distinct same_cred txn.creds) parts.0 in
    each_as (λ (cred : CredId). is_cred sc cred ≡ true) (IsCred sc) (λ cred c. ltb-true cred.0 (length sc.creds) c) txn.creds (each_from_all (is_cred sc) txn.creds creds.1)

-- ---- the scenario

-- each rule that is taken here is one of a valid scenario
pub valid_of : (sc : Scenario) → is_valid sc ≡ true → IsValid sc
valid_of sc formed =
    let kept = rules.rules_of sc formed in
    let admins = three_parts (has_count 1 16 sc.admins) (list_all is_valid_admin sc.admins) (are_distinct same_admin_name sc.admins) kept.admins in
    let opening : Each (λ (admin : Admin). IsVersionOf admin admin.opening) sc.admins =
    each_as (λ (admin : Admin). is_valid_admin admin ≡ true) (λ (admin : Admin). IsVersionOf admin admin.opening) opening_valid sc.admins (each_from_all is_valid_admin sc.admins admins.1) in
    let servers = three_parts (has_count 1 16 sc.servers) (are_valid_from sc 0 sc.servers) (are_distinct same_server_name sc.servers) kept.servers in
    let txns = three_parts (has_count 0 128 sc.txns) (list_all (is_valid_txn sc) sc.txns) (are_distinct same_txn_name sc.txns) kept.txns in
    let items = three_parts (list_all (is_valid_item sc) sc.items) (are_by_server 0 sc.items) (are_distinct same_item_name sc.items) kept.items in
    record {
      txns = each_from_all (is_valid_txn sc) sc.txns txns.1;
      creds = each_as (λ (txn : Transaction). is_valid_txn sc txn ≡ true) (λ (txn : Transaction). AreCreds sc txn.creds) (creds_valid sc) sc.txns (each_from_all (is_valid_txn sc) sc.txns txns.1);
      items = each_as (λ (item : Item). is_valid_item sc item ≡ true) (IsValidItem sc) (item_valid sc) sc.items (each_from_all (is_valid_item sc) sc.items items.0);
      servers = servers_valid sc 0 sc.servers opening servers.1;
      openings = versions_valid opening_in sc.admins opening;
      lasts = versions_valid last_of sc.admins (each_as (λ (admin : Admin). is_valid_admin admin ≡ true) (λ (admin : Admin). IsVersionOf admin (last_of admin)) last_valid sc.admins (each_from_all is_valid_admin sc.admins admins.1));
      libraries = each_as (λ (admin : Admin). is_valid_admin admin ≡ true) (λ (admin : Admin). length admin.library ≤ 64) library_few sc.admins (each_from_all is_valid_admin sc.admins admins.1);
      few_creds = rules.count_most 0 256 (length sc.creds) (three_parts (has_count 0 256 sc.creds) (list_all is_valid_cred sc.creds) (are_distinct same_cred_name sc.creds) kept.creds).0;
      few_admins = rules.count_most 1 16 (length sc.admins) admins.0;
    }
