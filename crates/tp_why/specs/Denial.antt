-- What shows a denial of a history: atoms that refute the version of the policy, on what the transaction holds at the
-- place.
use Rattle.std.specs.Prelude.{ℕ, List, [], slice_get, Bool, true, Option, option_map, option_and_then}
use Rattle.std.specs.Option.{option_map_or}
use Rattle.tp_model.specs.Words.{Action, Denied, Fact, Item, Policy, Query, Scenario, Transaction}
use Rattle.tp_model.specs.Authorisation.{action_of, policy_at}
use Rattle.tp_model.specs.Credentials.{holdings}
use Rattle.tp_model.specs.Queries.{item_of, query_at}
use Rattle.tp_why.specs.declared.atoms.FalseAtom.{FalseAtom}
use Rattle.tp_why.specs.Refutation.{is_refuted, refutation}

-- an action on an item, and the policy that is to allow it
pub record Asked : Type 0 where
  pub action : Action
  pub item : List ℕ
  pub policy : Policy

abbrev pub asked_on : Policy → Query → Item → Asked
asked_on policy query item = record {
  action = action_of query;
  item = item.name;
  policy = policy;
}

abbrev pub asked_by : Scenario → Policy → Query → Option Asked
asked_by sc policy query =
    option_map (asked_on policy query) (slice_get sc.items (item_of query).0)

abbrev pub asked_under : Scenario → Transaction → Denied → Policy → Option Asked
asked_under sc declared denied policy =
    option_and_then (asked_by sc policy) (query_at declared denied.query)

-- what a denial is about, if its query, the item of it and the version of the policy exist
abbrev pub asked_of : Scenario → Transaction → Denied → Option Asked
asked_of sc declared denied =
    option_and_then (asked_under sc declared denied) (policy_at sc denied.admin denied.version)

abbrev pub refutation_at : Scenario → ℕ → List Fact → Transaction → Asked → List FalseAtom
refutation_at sc place facts declared asked =
    refutation asked.policy asked.action asked.item (holdings sc place facts declared)

-- the atoms that show it: what refutes the policy
abbrev pub denial : Scenario → List Fact → Transaction → Denied → List FalseAtom
denial sc facts declared denied =
    option_map_or (refutation_at sc denied.place facts declared) (asked_of sc declared denied) []

abbrev pub is_refuted_at : Scenario → ℕ → List Fact → Transaction → List FalseAtom → Asked → Bool
is_refuted_at sc place facts declared atoms asked =
    is_refuted asked.policy asked.action asked.item (holdings sc place facts declared) atoms

-- atoms show it that refute the policy. Where the query, its item or the version does not exist, nothing is allowed
-- whatever is held, and nothing has to be shown
abbrev pub is_shown : Scenario → List Fact → Transaction → Denied → List FalseAtom → Bool
is_shown sc facts declared denied atoms =
    option_map_or (is_refuted_at sc denied.place facts declared atoms) (asked_of sc declared denied)
    true
