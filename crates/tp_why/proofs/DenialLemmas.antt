-- A denial of a history is shown where it is one, and only there.
use Rattle.std.proofs.Common.{◌≡◌, ℕ, Bool, true, false, List, [], Option, Some, None, slice_get, option_map, option_and_then, refl, ap, sym, ◌∙◌}
use Rattle.std.specs.Option.{option_map_or}
use Rattle.tp_model.specs.Words.{Action, Denied, Fact, Item, Policy, Query, Scenario, Transaction}
use Rattle.tp_model.specs.Authorisation.{action_of, allows_held, is_allowed, policy_at, tests_item, tests_query, tests_version}
use Rattle.tp_model.specs.Causes.{denied_question}
use Rattle.tp_model.specs.Credentials.{holdings}
use Rattle.tp_model.specs.Queries.{item_of, query_at}
use Rattle.tp_why.specs.declared.atoms.FalseAtom.{FalseAtom}
use Rattle.tp_why.specs.Denial.{Asked, asked_by, asked_of, asked_on, asked_under, denial, is_refuted_at, is_shown, refutation_at}
use Rattle.tp_why.proofs.RefutedLemmas.{complete, sound}

abbrev tests_asked : (Action → List ℕ → Policy → Bool) → Asked → Bool
tests_asked test asked = test asked.action asked.item asked.policy

-- a test of a version is a test of what is asked, where there is something
by_item : (test : Action → List ℕ → Policy → Bool) (policy : Policy) (query : Query) (item : Option Item)
    → tests_item test (action_of query) item policy ≡ option_map_or (tests_asked test) (option_map (asked_on policy query) item) false
by_item test policy query None = refl
by_item test policy query (Some item) = refl

by_query : (test : Action → List ℕ → Policy → Bool) (sc : Scenario) (policy : Policy) (query : Option Query)
    → tests_query test sc query policy ≡ option_map_or (tests_asked test) (option_and_then (asked_by sc policy) query) false
by_query test sc policy None = refl
by_query test sc policy (Some query) = by_item test policy query (slice_get sc.items (item_of query).0)

by_version : (test : Action → List ℕ → Policy → Bool) (sc : Scenario) (declared : Transaction) (denied : Denied) (policy : Option Policy)
    → tests_version test sc declared denied.query policy ≡ option_map_or (tests_asked test) (option_and_then (asked_under sc declared denied) policy) false
by_version test sc declared denied None = refl
by_version test sc declared denied (Some policy) = by_query test sc policy (query_at declared denied.query)

allowed_where_asked : (sc : Scenario) (facts : List Fact) (declared : Transaction) (denied : Denied)
    → is_allowed sc facts declared (denied_question denied) ≡ option_map_or (tests_asked (allows_held sc denied.place facts declared)) (asked_of sc declared denied) false
allowed_where_asked sc facts declared denied =
    by_version (allows_held sc denied.place facts declared) sc declared denied (policy_at sc denied.admin denied.version)

sound_where : (sc : Scenario) (place : ℕ) (facts : List Fact) (declared : Transaction) (atoms : List FalseAtom) (asked : Option Asked)
    → option_map_or (is_refuted_at sc place facts declared atoms) asked true ≡ true → option_map_or (tests_asked (allows_held sc place facts declared)) asked false ≡ false
sound_where sc place facts declared atoms None is = refl
sound_where sc place facts declared atoms (Some asked) is = sound asked.policy asked.action asked.item (holdings sc place facts declared) atoms is

-- what is shown is not allowed
pub denial_sound : (sc : Scenario) (facts : List Fact) (declared : Transaction) (denied : Denied) (atoms : List FalseAtom)
    → is_shown sc facts declared denied atoms ≡ true → is_allowed sc facts declared (denied_question denied) ≡ false
denial_sound sc facts declared denied atoms is =
    allowed_where_asked sc facts declared denied ∙ sound_where sc denied.place facts declared atoms (asked_of sc declared denied) is

complete_where : (sc : Scenario) (place : ℕ) (facts : List Fact) (declared : Transaction) (asked : Option Asked)
    → option_map_or (tests_asked (allows_held sc place facts declared)) asked false ≡ false
    → option_map_or (is_refuted_at sc place facts declared (option_map_or (refutation_at sc place facts declared) asked [])) asked true ≡ true
complete_where sc place facts declared None none = refl
complete_where sc place facts declared (Some asked) none = complete asked.policy asked.action asked.item (holdings sc place facts declared) none

-- what is not allowed is shown
pub denial_complete : (sc : Scenario) (facts : List Fact) (declared : Transaction) (denied : Denied)
    → is_allowed sc facts declared (denied_question denied) ≡ false → is_shown sc facts declared denied (denial sc facts declared denied) ≡ true
denial_complete sc facts declared denied none =
    complete_where sc denied.place facts declared (asked_of sc declared denied) (sym (allowed_where_asked sc facts declared denied) ∙ none)
