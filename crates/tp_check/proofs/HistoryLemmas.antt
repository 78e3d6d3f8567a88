-- A check beside a history.
use Rattle.std.proofs.Common.{◌≡◌, ℕ, Bool, true, false, ◌&&◌, List, [], ◌∷◌, filter, Option, Some, None, slice_get, refl, ap, sym, ◌∙◌}
use Rattle.std.proofs.lemmas.Bool.{and_parts}
use Rattle.std.specs.List.{list_all}
use Rattle.std.specs.Option.{option_map_or}
use Rattle.std.proofs.Math.Bool.{and-false}
use Rattle.std.proofs.lemmas.List.Elements.{filter_agree}
use Rattle.tp_model.specs.Words.{Action, CredId, Fact, Item, Policy, Query, Scenario, Transaction, Verdict}
use Rattle.tp_model.specs.Authorisation.{is_certified, is_usable, policy_at, rule_in, rule_proves, tests_item, tests_query, tests_version}
use Rattle.tp_model.specs.Credentials.{holdings, holdings_in, is_presented, is_valid, is_valid_in, triples_in}
use Rattle.tp_model.specs.Policies.{rule_allows}
use Rattle.tp_model.specs.Queries.{item_of, query_at}
use Rattle.tp_check.specs.OfHistory.{IsAt, is_checked_of, is_verdict_checked}
use Rattle.tp_cred.specs.Holder.{holder_of}

pub valid_there : (sc : Scenario) (place : ℕ) (facts : List Fact) (now : ℕ) (revoked : List CredId) → IsAt sc place facts now revoked
    → (cred : CredId) → is_valid_in sc.creds now revoked cred ≡ is_valid sc place facts cred
valid_there sc place facts now revoked is cred = rw (is.clock, is.revocations cred) refl

all_alike : {A : Type 0} (one other : A → Bool) → ((x : A) → one x ≡ other x) → (xs : List A) → list_all one xs ≡ list_all other xs
all_alike one other same [] = refl
all_alike one other same (x ∷ xs) = rw (same x, all_alike one other same xs) refl

both_first : (a b c d e : Bool) → e ≡ (c && d) → ((a && b) && e) ≡ ((a && c) && (b && d))
both_first true true c d e same = same
both_first true false c d e same = sym (and-false c)
both_first false b c d e same = refl

all_both : {A : Type 0} (one other : A → Bool) (xs : List A) → list_all (λ x. one x && other x) xs ≡ (list_all one xs && list_all other xs)
all_both one other [] = refl
all_both one other (x ∷ xs) = both_first (one x) (other x) (list_all one xs) (list_all other xs) (list_all (λ y. one y && other y) xs) (all_both one other xs)

pub held_there : (sc : Scenario) (place : ℕ) (facts : List Fact) (now : ℕ) (revoked : List CredId) → IsAt sc place facts now revoked
    → (txn : Transaction) → holdings_in sc.creds txn.subject now revoked txn.creds ≡ holdings sc place facts txn
held_there sc place facts now revoked is txn =
    ap (triples_in sc.creds txn.subject) (filter_agree (is_valid_in sc.creds now revoked) (is_valid sc place facts) (valid_there sc place facts now revoked is) txn.creds)

kept_all : {A : Type 0} (keeps : A → Bool) (xs : List A) → list_all keeps xs ≡ true → filter keeps xs ≡ xs
kept_all keeps [] all = refl
kept_all keeps (x ∷ xs) all =
    let parts = and_parts (keeps x) (list_all keeps xs) all in
    rw parts.0 (ap (λ ys. x ∷ ys) (kept_all keeps xs parts.1))

-- ---- a test of a version that is one test and a fact beside it

of_item : (one other : Action → List ℕ → Policy → Bool) (b : Bool) → ((asked : Action) (item : List ℕ) (policy : Policy) → one asked item policy ≡ (other asked item policy && b))
    → (asked : Action) (item : Option Item) (policy : Policy) → tests_item one asked item policy ≡ (tests_item other asked item policy && b)
of_item one other b same asked None policy = refl
of_item one other b same asked (Some item) policy = same asked item.name policy

of_query : (one other : Action → List ℕ → Policy → Bool) (b : Bool) → ((asked : Action) (item : List ℕ) (policy : Policy) → one asked item policy ≡ (other asked item policy && b))
    → (sc : Scenario) (query : Option Query) (policy : Policy) → tests_query one sc query policy ≡ (tests_query other sc query policy && b)
of_query one other b same sc None policy = refl
of_query one other b same sc (Some query) policy = of_item one other b same _ (slice_get sc.items (item_of query).0) policy

of_version : (one other : Action → List ℕ → Policy → Bool) (b : Bool) → ((asked : Action) (item : List ℕ) (policy : Policy) → one asked item policy ≡ (other asked item policy && b))
    → (sc : Scenario) (txn : Transaction) (number : ℕ) (policy : Option Policy) → tests_version one sc txn number policy ≡ (tests_version other sc txn number policy && b)
of_version one other b same sc txn number None = refl
of_version one other b same sc txn number (Some policy) = of_query one other b same sc (query_at txn number) policy

-- ---- a verdict

checked_where : (sc : Scenario) (txn : Transaction) (now : ℕ) (revoked uses : List CredId) (rule : ℕ) (asked : Action) (item : List ℕ) (policy : Policy) (valid : Bool)
    → list_all (is_valid_in sc.creds now revoked) uses ≡ valid
    → (option_map_or (rule_allows asked item (holdings_in sc.creds txn.subject now revoked uses)) (rule_in policy rule) false && valid)
    ≡ (rule_proves sc txn uses (Some rule) asked item policy && valid)
checked_where sc txn now revoked uses rule asked item policy true e =
    ap (λ creds. option_map_or (rule_allows asked item (triples_in sc.creds txn.subject creds)) (rule_in policy rule) false && true)
    (kept_all (is_valid_in sc.creds now revoked) uses e)
checked_where sc txn now revoked uses rule asked item policy false e = and-false _ ∙ sym (and-false _)

checked_one : (sc : Scenario) (txn : Transaction) (now : ℕ) (revoked uses : List CredId) (rule : Option ℕ) (asked : Action) (item : List ℕ) (policy : Policy)
    → is_checked_of (holder_of sc txn now revoked) rule uses asked item policy
    ≡ (rule_proves sc txn uses rule asked item policy && list_all (is_valid_in sc.creds now revoked) uses)
checked_one sc txn now revoked uses None asked item policy = refl
checked_one sc txn now revoked uses (Some rule) asked item policy =
    checked_where sc txn now revoked uses rule asked item policy (list_all (is_valid_in sc.creds now revoked) uses) refl

regrouped : (a b c : Bool) → ((a && b) && c) ≡ (a && (c && b))
regrouped true true true = refl
regrouped true true false = refl
regrouped true false true = refl
regrouped true false false = refl
regrouped false b c = refl

pub certified_there : (sc : Scenario) (facts : List Fact) (now : ℕ) (revoked : List CredId) (txn : Transaction) (verdict : Verdict)
    → IsAt sc verdict.place facts now revoked → is_verdict_checked sc txn now revoked verdict ≡ is_certified sc facts txn verdict
certified_there sc facts now revoked txn verdict is =
    let proves : Bool = tests_version (rule_proves sc txn verdict.uses verdict.rule) sc txn verdict.query (policy_at sc verdict.admin verdict.version) in
    let presented : Bool = list_all (is_presented txn) verdict.uses in
    let valid : Bool = list_all (is_valid_in sc.creds now revoked) verdict.uses in
    let usable : list_all (is_usable sc verdict.place facts txn) verdict.uses ≡ (presented && valid) =
    all_both (is_presented txn) (is_valid sc verdict.place facts) verdict.uses
    ∙ ap (λ b. presented && b) (sym (all_alike (is_valid_in sc.creds now revoked) (is_valid sc verdict.place facts) (valid_there sc verdict.place facts now revoked is) verdict.uses)) in
    ap (λ b. b && presented)
    (of_version (is_checked_of (holder_of sc txn now revoked) verdict.rule verdict.uses) (rule_proves sc txn verdict.uses verdict.rule) valid
    (checked_one sc txn now revoked verdict.uses verdict.rule) sc txn verdict.query (policy_at sc verdict.admin verdict.version))
    ∙ regrouped proves valid presented ∙ ap (λ b. proves && b) (sym usable)
