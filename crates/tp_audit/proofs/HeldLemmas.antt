-- A test of what is held is a test of the credentials.
use Rattle.std.proofs.Common.{◌≡◌, Bool, true, false, ◌&&◌, ◌||◌, cond, List, [], ◌∷◌, filter, Option, Some, None, slice_get, refl, ap, sym, ◌∙◌}
use Rattle.std.proofs.lemmas.Bool.{and_parts}
use Rattle.std.specs.List.{filter_map, list_all, list_any}
use Rattle.std.specs.Option.{option_map_or}
use Rattle.std.proofs.Math.Bool.{and-false, and-true}
use Rattle.tp_types.proofs.ListLemmas.{any_kept, one_shown}
use Rattle.tp_model.specs.Words.{CredId, Credential, Fact, Scenario, Transaction, Verdict}
use Rattle.tp_audit.specs.declared.credentials.Held.{Held}
use Rattle.tp_audit.specs.mirrors.Programs.{held_by, is_proved, says, shows}
use Rattle.tp_model.specs.Authorisation.{is_certified, is_usable, policy_at, rule_proves, tests_version}
use Rattle.tp_model.specs.Credentials.{is_presented, is_valid, triple_by, said_in, triple_of}
use Rattle.tp_model.specs.Ids.{same_name}
use Rattle.tp_model.specs.Policies.{Triple}

-- what is shown passes a test where a member shows it
pub any_shown : {A B : Type 0} (test : B → Bool) (shown : A → Option B) (xs : List A) → list_any test (filter_map shown xs) ≡ list_any (λ x. option_map_or test (shown x) false) xs
any_shown test shown [] = refl
any_shown test shown (x ∷ xs) =
    one_shown test (shown x) (filter_map shown xs)
    ∙ (ap (λ b. b || list_any test (filter_map shown xs)) (and-true (option_map_or test (shown x) false))
    ∙ ap (λ b. option_map_or test (shown x) false || b) (any_shown test shown xs))

said : (test : Triple → Bool) (triple : Triple) (b : Bool) → option_map_or test (cond b (Some triple) None) false ≡ (b && test triple)
said test triple true = refl
said test triple false = refl

said_at : (test : Triple → Bool) (held : Held) (found : Option Credential)
    → option_map_or test (option_map_or (triple_of held.subject.now) found None) false ≡ option_map_or (says test held) found false
said_at test held None = refl
said_at test held (Some credential) = said test (triple_by credential) (same_name credential.subject held.subject.now)

-- what is held passes a test where a credential shows it
pub any_held : (test : Triple → Bool) (held : Held) → list_any test (held_by held) ≡ list_any (shows test held) held.creds.now
any_held test held =
    any_kept test (said_in held.scenario.now.creds held.subject.now) (is_valid held.scenario.now held.place held.facts.now)
    (λ cred. option_map_or (says test held) (slice_get held.scenario.now.creds cred.0) false)
    (λ cred. said_at test held (slice_get held.scenario.now.creds cred.0))
    held.creds.now

filter_all : {A : Type 0} (also keeps : A → Bool) (xs : List A) → list_all (λ x. also x && keeps x) xs ≡ true → filter keeps xs ≡ xs
filter_all also keeps [] h = refl
filter_all also keeps (x ∷ xs) h =
    let parts = and_parts (also x && keeps x) (list_all (λ y. also y && keeps y) xs) h in
    let kept = (and_parts (also x) (keeps x) parts.0).1 in
    rw kept (ap (λ ys. x ∷ ys) (filter_all also keeps xs parts.1))

-- where all credentials are usable, leaving out those that are not valid leaves out none
certified_where : (sc : Scenario) (facts : List Fact) (txn : Transaction) (verdict : Verdict) (usable : Bool)
    → list_all (is_usable sc verdict.place facts txn) verdict.uses ≡ usable
    → (usable && is_proved sc facts txn verdict)
    ≡ (tests_version (rule_proves sc txn verdict.uses verdict.rule) sc txn verdict.query (policy_at sc verdict.admin verdict.version) && usable)
certified_where sc facts txn verdict true h =
    let same = filter_all (is_presented txn) (is_valid sc verdict.place facts) verdict.uses h in
    let proves : List CredId → Bool = λ creds. tests_version (rule_proves sc txn creds verdict.rule) sc txn verdict.query (policy_at sc verdict.admin verdict.version) in
    ap proves same ∙ sym (and-true (proves verdict.uses))
certified_where sc facts txn verdict false h = sym (and-false _)

pub certified_by_valid : (sc : Scenario) (facts : List Fact) (txn : Transaction) (verdict : Verdict)
    → (list_all (is_usable sc verdict.place facts txn) verdict.uses && is_proved sc facts txn verdict) ≡ is_certified sc facts txn verdict
certified_by_valid sc facts txn verdict =
    certified_where sc facts txn verdict (list_all (is_usable sc verdict.place facts txn) verdict.uses) refl
