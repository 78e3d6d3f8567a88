-- Trust: a server knows at first no version above the opening one, by a scenario's rules.
use Rattle.std.specs.List.{list_all}
use Rattle.std.specs.Option.{option_map_or}
use Rattle.std.proofs.Common.{List, None, Option, Some, [], arith, length, option_map, refl, slice_get, subst, suc, true, unwrap_or, zero, ℕ, ◌+◌, ◌<◌, ◌≤◌, ◌∷◌, ◌≡◌}
use Rattle.std.proofs.lemmas.Bool.{and_parts}
use Rattle.std.proofs.lemmas.Bool.Decides.{nat_tests}
use Rattle.tp_types.proofs.ListLemmas.{three_parts}
use Rattle.std.specs.Cmp.Lexicographic.{pointwise}
use Rattle.tp_model.proofs.RuleLemmas as rules
use Rattle.tp_model.specs.Ids.{same_item}
use Rattle.tp_model.specs.Limits.{has_count}
use Rattle.tp_model.specs.Valid.{are_distinct, are_known, are_valid_from, is_known, is_valid, is_valid_admin, is_valid_server, owned_from, same_admin_name, same_server_name}
use Rattle.tp_model.specs.Versions.{opening_version}
use Rattle.tp_model.specs.Words.{Admin, AdminId, Scenario, ServerDecl, Version}
use Rattle.tp_machine.specs.Named.{IsAdmin}

abbrev opening_at : List Admin → ℕ → ℕ
opening_at admins n = (unwrap_or (option_map (λ (declared : Admin). declared.opening) (slice_get admins n)) (record { 0 = 0 })).0

abbrev known_at : List Version → ℕ → ℕ
known_at knows n = (unwrap_or (slice_get knows n) (record { 0 = 1 })).0

known_low : (admin : Admin) (version : Version) → is_known admin version ≡ true → version.0 ≤ admin.opening.0
known_low admin version h = grind (arith, nat_tests)

-- what is known of each administrator is at most its opening version
known_within : (admins : List Admin) (knows : List Version) (n : ℕ) → are_known admins knows ≡ true → n < length admins → known_at knows n ≤ opening_at admins n
known_within [] knows n h within = absurd (omega (arith, within))
known_within (admin ∷ admins) [] n h within = absurd (cc)
known_within (admin ∷ admins) (version ∷ knows) zero h within = known_low admin version (and_parts (is_known admin version) (are_known admins knows) h).0
known_within (admin ∷ admins) (version ∷ knows) (suc n) h within = known_within admins knows n (and_parts (is_known admin version) (are_known admins knows) h).1 (omega (arith, within))

server_rules : (sc : Scenario) (at : ℕ) (servers : List ServerDecl) (n : ℕ) (server : ServerDecl) → are_valid_from sc at servers ≡ true → slice_get servers n ≡ Some server → are_known sc.admins server.knows ≡ true
server_rules sc at [] n server h e = absurd (cc)
server_rules sc at (first ∷ servers) zero server h e =
    let first_rules = (and_parts (is_valid_server sc at first) (are_valid_from sc (at + 1) servers) h).0 in
    let same : first ≡ server = cc in
    subst (λ (s : ServerDecl). are_known sc.admins s.knows ≡ true) same
    (three_parts (are_known sc.admins first.knows) (has_count 0 64 first.items) (pointwise same_item first.items (owned_from at 0 sc.items)) first_rules).0
server_rules sc at (first ∷ servers) (suc n) server h e = server_rules sc (at + 1) servers n server (and_parts (is_valid_server sc at first) (are_valid_from sc (at + 1) servers) h).1 e

least_opening : (admin : Admin) → is_valid_admin admin ≡ true → 1 ≤ admin.opening.0
least_opening admin h = grind (arith, nat_tests)

opening_least : (admins : List Admin) (n : ℕ) → list_all is_valid_admin admins ≡ true → n < length admins → 1 ≤ opening_at admins n
opening_least [] n h within = absurd (omega (arith, within))
opening_least (admin ∷ admins) zero h within = least_opening admin (and_parts (is_valid_admin admin) (list_all is_valid_admin admins) h).0
opening_least (admin ∷ admins) (suc n) h within = opening_least admins n (and_parts (is_valid_admin admin) (list_all is_valid_admin admins) h).1 (omega (arith, within))

-- a server knows at first no version above the opening one
pub known_at_first : (sc : Scenario) (n : ℕ) (admin : AdminId) → is_valid sc ≡ true → IsAdmin sc admin
    → (unwrap_or (slice_get (option_map_or (λ (declared : ServerDecl). declared.knows) (slice_get sc.servers n) []) admin.0) (record { 0 = 1 })).0 ≤ (opening_version sc admin).0
known_at_first sc n admin formed exists = by_server (slice_get sc.servers n) refl
  where
    by_server : (found : Option ServerDecl) → slice_get sc.servers n ≡ found
        → (unwrap_or (slice_get (option_map_or (λ (declared : ServerDecl). declared.knows) found []) admin.0) (record { 0 = 1 })).0 ≤ (opening_version sc admin).0
    by_server None e =
        opening_least sc.admins admin.0 (three_parts (has_count 1 16 sc.admins) (list_all is_valid_admin sc.admins) (are_distinct same_admin_name sc.admins) (rules.rules_of sc formed).admins).1 exists
    by_server (Some server) e =
        known_within sc.admins server.knows admin.0
        (server_rules sc 0 sc.servers n server (three_parts (has_count 1 16 sc.servers) (are_valid_from sc 0 sc.servers) (are_distinct same_server_name sc.servers) (rules.rules_of sc formed).servers).1 e) exists
