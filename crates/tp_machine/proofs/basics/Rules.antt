-- The policies of a valid scenario have few rules, so a certificate can count them.
use Rattle.std.proofs.Common.{List, None, Option, Some, arith, length, nat_le, option_and_then, refl, slice_get, suc, true, zero, ℕ, ◌≡◌, ◌≤◌}
use Rattle.std.proofs.lemmas.Bool.Decides.{nat_tests}
use Rattle.std.specs.List.{list_all}
use Rattle.tp_types.specs.Each.{Each}
use Rattle.tp_types.proofs.EachLemmas.{each_from_all, each_get}
use Rattle.tp_types.proofs.ListLemmas.{three_parts}
use Rattle.tp_model.proofs.RuleLemmas as rules
use Rattle.tp_model.specs.Limits.{has_count, is_from_to}
use Rattle.tp_model.specs.Valid.{are_distinct, is_valid, is_valid_admin, is_valid_policy, same_admin_name}
use Rattle.tp_model.specs.Authorisation.{library_version, version_of}
use Rattle.tp_model.specs.Words.{Admin, Policy, Scenario}
use Rattle.tp_server.specs.Verdicts.{HasFewRules}

at_most : (n bound : ℕ) → nat_le n bound ≡ true → n ≤ bound
at_most n bound e = grind (arith, nat_tests)

few_in_library : (library : List Policy) (version : ℕ) (policy : Policy) → list_all is_valid_policy library ≡ true → library_version library version ≡ Some policy → length policy.rules ≤ 4096
few_in_library library zero policy all e = absurd (cc)
few_in_library library (suc before) policy all e =
    at_most (length policy.rules) 4096 (each_get (λ (p : Policy). is_valid_policy p ≡ true) library before policy (each_from_all is_valid_policy library all) e)

few_of : (admins : List Admin) (admin version : ℕ) (found : Option Admin) (policy : Policy) → Each (λ (a : Admin). is_valid_admin a ≡ true) admins → slice_get admins admin ≡ found
    → option_and_then (version_of version) found ≡ Some policy → length policy.rules ≤ 4096
few_of admins admin version None policy all found_is e = absurd (cc)
few_of admins admin version (Some declared) policy all found_is e =
    let valid : is_valid_admin declared ≡ true = each_get (λ (a : Admin). is_valid_admin a ≡ true) admins admin declared all found_is in
    let parts = three_parts (has_count 1 64 declared.library) (list_all is_valid_policy declared.library) (is_from_to 1 (length declared.library) declared.opening.0) valid in
    few_in_library declared.library version policy parts.1 e

-- a certificate counts the rules of each policy
pub few_rules : (sc : Scenario) → is_valid sc ≡ true → HasFewRules sc
few_rules sc formed admin version policy e =
    let kept = rules.rules_of sc formed in
    let admins = three_parts (has_count 1 16 sc.admins) (list_all is_valid_admin sc.admins) (are_distinct same_admin_name sc.admins) kept.admins in
    let few = few_of sc.admins admin.0 version.0 (slice_get sc.admins admin.0) policy (each_from_all is_valid_admin sc.admins admins.1) refl e in
    omega (arith, few)
