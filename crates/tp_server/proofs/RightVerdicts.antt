-- What is evaluated with a staple of a place of a history is right there.
use Rattle.std.proofs.Common.{◌≡◌, ℕ, ◌&&◌, List, Bool, true, false, Option, Some, None, option_map, slice_get, refl, sym, ap, ◌∙◌}
use Rattle.std.specs.List.{list_all}
use Rattle.std.specs.Option.{is_some}
use Rattle.std.proofs.Math.Bool.{and-false, and-true}
use Rattle.tp_model.specs.Words.{Action, AdminId, Fact, Item, Policy, Query, Scenario, ServerId, Staple, Transaction, Verdict, Version}
use Rattle.tp_model.specs.Authorisation.{action_of, allows_held, is_allowed, is_certified, is_own_query, policy_at, question_of, tests_item, tests_query, tests_version}
use Rattle.tp_model.specs.Credentials.{is_presented}
use Rattle.tp_model.specs.Policies.{allows}
use Rattle.tp_model.specs.Queries.{item_of, query_at}
use Rattle.tp_eval.specs.declared.policies.Certificate.{Certificate}
use Rattle.tp_eval.specs.Uses.{rule_number, uses_in}
use Rattle.tp_eval.proofs.CertificateLemmas.{exists_where_allowed, passes_where, presented_where}
use Rattle.tp_eval.proofs.SoundLemmas.{Asked}
use Rattle.tp_check.specs.OfHistory.{IsAt, is_checked_of, is_verdict_checked}
use Rattle.tp_cred.specs.Holder.{holder_of}
use Rattle.tp_check.proofs.HistoryLemmas.{certified_there, held_there}
use Rattle.tp_server.specs.Evaluation.{IsRightVerdict, certificate_of_item, certificate_of_query, certificate_of_version, evaluation, verdict_of}

-- what an evaluation with the staple is asked
abbrev asked_with : Scenario → Transaction → Staple → Asked
asked_with sc txn staple = record {
  holder = holder_of sc txn staple.clock staple.revoked;
  presented = txn.creds;
}

-- ---- a certificate is there exactly where the version allows

allowed_item : (sc : Scenario) (facts : List Fact) (txn : Transaction) (staple : Staple) → IsAt sc staple.place facts staple.clock staple.revoked
    → (asked : Action) (item : Option Item) (policy : Policy)
    → tests_item (allows_held sc staple.place facts txn) asked item policy ≡ is_some (certificate_of_item sc txn staple asked item policy)
allowed_item sc facts txn staple is asked None policy = refl
allowed_item sc facts txn staple is asked (Some item) policy =
    sym
    (exists_where_allowed (asked_with sc txn staple) policy asked item.name
    ∙ ap (allows policy asked item.name) (held_there sc staple.place facts staple.clock staple.revoked is txn))

allowed_query : (sc : Scenario) (facts : List Fact) (txn : Transaction) (staple : Staple) → IsAt sc staple.place facts staple.clock staple.revoked
    → (query : Option Query) (policy : Policy)
    → tests_query (allows_held sc staple.place facts txn) sc query policy ≡ is_some (certificate_of_query sc txn staple query policy)
allowed_query sc facts txn staple is None policy = refl
allowed_query sc facts txn staple is (Some query) policy = allowed_item sc facts txn staple is (action_of query) (slice_get sc.items (item_of query).0) policy

allowed_version : (sc : Scenario) (facts : List Fact) (txn : Transaction) (staple : Staple) → IsAt sc staple.place facts staple.clock staple.revoked
    → (number : ℕ) (policy : Option Policy)
    → tests_version (allows_held sc staple.place facts txn) sc txn number policy ≡ is_some (certificate_of_version sc txn staple number policy)
allowed_version sc facts txn staple is number None = refl
allowed_version sc facts txn staple is number (Some policy) = allowed_query sc facts txn staple is (query_at txn number) policy

-- ---- a certificate passes the check, and uses what is presented

abbrev tests_of : Scenario → Transaction → Staple → Certificate → Action → List ℕ → Policy → Bool
tests_of sc txn staple found = is_checked_of (holder_of sc txn staple.clock staple.revoked) (Some found.rule) found.uses

passes_item : (sc : Scenario) (txn : Transaction) (staple : Staple) (found : Certificate) (asked : Action) (item : Option Item) (policy : Policy)
    → certificate_of_item sc txn staple asked item policy ≡ Some found
    → (tests_item (tests_of sc txn staple found) asked item policy ≡ true) × (list_all (is_presented txn) found.uses ≡ true)
passes_item sc txn staple found asked None policy e = cc
passes_item sc txn staple found asked (Some item) policy e =
    (passes_where (asked_with sc txn staple) policy asked item.name found e, presented_where (asked_with sc txn staple) policy asked item.name found e)

passes_query : (sc : Scenario) (txn : Transaction) (staple : Staple) (found : Certificate) (query : Option Query) (policy : Policy)
    → certificate_of_query sc txn staple query policy ≡ Some found
    → (tests_query (tests_of sc txn staple found) sc query policy ≡ true) × (list_all (is_presented txn) found.uses ≡ true)
passes_query sc txn staple found None policy e = cc
passes_query sc txn staple found (Some query) policy e = passes_item sc txn staple found (action_of query) (slice_get sc.items (item_of query).0) policy e

passes_version : (sc : Scenario) (txn : Transaction) (staple : Staple) (found : Certificate) (number : ℕ) (policy : Option Policy)
    → certificate_of_version sc txn staple number policy ≡ Some found
    → (tests_version (tests_of sc txn staple found) sc txn number policy ≡ true) × (list_all (is_presented txn) found.uses ≡ true)
passes_version sc txn staple found number None e = cc
passes_version sc txn staple found number (Some policy) e = passes_query sc txn staple found (query_at txn number) policy e

-- what a verdict uses is presented
pub uses_presented : (sc : Scenario) (txn : Transaction) (staple : Staple) (number : ℕ) (policy : Option Policy) (answer : Option Certificate)
    → certificate_of_version sc txn staple number policy ≡ answer → list_all (is_presented txn) (uses_in answer) ≡ true
uses_presented sc txn staple number policy None e = refl
uses_presented sc txn staple number policy (Some found) e = (passes_version sc txn staple found number policy e).1

checked_where : (sc : Scenario) (txn : Transaction) (staple : Staple) (server : ServerId) (number : ℕ) (admin : AdminId) (version : Version) (answer : Option Certificate)
    → certificate_of_version sc txn staple number (policy_at sc admin version) ≡ answer → is_some (option_map rule_number answer) ≡ true
    → is_verdict_checked sc txn staple.clock staple.revoked (verdict_of server number admin version staple.place answer) ≡ true
checked_where sc txn staple server number admin version None e has_rule = cc
checked_where sc txn staple server number admin version (Some found) e has_rule =
    let passes = passes_version sc txn staple found number (policy_at sc admin version) e in
    rw passes.0 passes.1

-- ---- the verdict

has_rule_where : (answer : Option Certificate) → is_some (option_map rule_number answer) ≡ is_some answer
has_rule_where None = refl
has_rule_where (Some found) = refl

true_by : (own allowed certified has_rule : Bool) → allowed ≡ has_rule → (has_rule ≡ true → certified ≡ true) → ((own && allowed) && certified) ≡ (own && has_rule)
true_by own allowed certified true is good = rw (is, good refl) (and-true (own && true))
true_by own allowed certified false is good = rw (is, and-false own) refl

pub evaluate_right : (sc : Scenario) (facts : List Fact) (txn : Transaction) (staple : Staple) (server : ServerId) (number : ℕ) (admin : AdminId) (version : Version)
    → IsAt sc staple.place facts staple.clock staple.revoked → IsRightVerdict sc facts txn (evaluation sc txn staple server number admin version)
evaluate_right sc facts txn staple server number admin version is =
    let answer : Option Certificate = certificate_of_version sc txn staple number (policy_at sc admin version) in
    let verdict : Verdict = evaluation sc txn staple server number admin version in
    let fits : is_allowed sc facts txn (question_of verdict) ≡ is_some (option_map rule_number answer) =
    allowed_version sc facts txn staple is number (policy_at sc admin version) ∙ sym (has_rule_where answer) in
    let proved : is_some (option_map rule_number answer) ≡ true → is_certified sc facts txn verdict ≡ true =
    λ has_rule. sym (certified_there sc facts staple.clock staple.revoked txn verdict is) ∙ checked_where sc txn staple server number admin version answer refl has_rule in
    record {
      fits = fits;
      proved = proved;
      true_where = true_by (is_own_query sc txn number server admin) (is_allowed sc facts txn (question_of verdict)) (is_certified sc facts txn verdict)
          (is_some (option_map rule_number answer)) fits proved;
    }
