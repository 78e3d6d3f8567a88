-- The verdict that the evaluation of a query gives, with the clock and the revocations of a staple.
use Rattle.std.specs.Prelude.{◌≡◌, ℕ, ◌&&◌, List, true, Option, Some, None, option_map, slice_get}
use Rattle.std.specs.Option.{is_some}
use Rattle.tp_model.specs.Words.{Action, AdminId, Fact, Item, Policy, Query, Scenario, ServerId, Staple, Transaction, Verdict, Version}
use Rattle.tp_model.specs.Authorisation.{action_of, is_allowed, is_certified, is_own_query, is_true_verdict, policy_at, question_of}
use Rattle.tp_model.specs.Queries.{item_of, query_at}
use Rattle.tp_eval.specs.declared.policies.Certificate.{Certificate}
use Rattle.tp_eval.specs.Uses.{rule_number, uses_in}
use Rattle.tp_eval.specs.Uses.{certificate}
use Rattle.tp_check.specs.OfHistory.{IsAt}
use Rattle.tp_cred.specs.Holder.{holder_of}

-- ---- the certificate, where there is such an item, such a query and such a version

abbrev pub certificate_of_item : Scenario → Transaction → Staple → Action → Option Item → Policy
    → Option Certificate
certificate_of_item sc txn staple asked None policy = None
certificate_of_item sc txn staple asked (Some item) policy =
    certificate policy asked item.name (holder_of sc txn staple.clock staple.revoked) txn.creds

abbrev pub certificate_of_query : Scenario → Transaction → Staple → Option Query → Policy
    → Option Certificate
certificate_of_query sc txn staple None policy = None
certificate_of_query sc txn staple (Some query) policy =
    certificate_of_item sc txn staple (action_of query)
    (slice_get sc.items (item_of query).0) policy

abbrev pub certificate_of_version : Scenario → Transaction → Staple → ℕ → Option Policy
    → Option Certificate
certificate_of_version sc txn staple number None = None
certificate_of_version sc txn staple number (Some policy) =
    certificate_of_query sc txn staple (query_at txn number) policy

-- ---- the verdict

-- a verdict by a certificate; without one it is false
abbrev pub verdict_of : ServerId → ℕ → AdminId → Version → ℕ → Option Certificate → Verdict
verdict_of server number admin version place found =
    record {
      query = number;
      server = server;
      admin = admin;
      version = version;
      place = place;
      rule = option_map rule_number found;
      uses = uses_in found;
    }

-- the verdict on a query of the transaction by a version of the administrator's policy, at the place of the staple
abbrev pub evaluation : Scenario → Transaction → Staple → ServerId → ℕ → AdminId → Version → Verdict
evaluation sc txn staple server number admin version =
    verdict_of server number admin version staple.place
    (certificate_of_version sc txn staple number (policy_at sc admin version))

-- ---- what it says of a history

-- the verdict is true or false as the history says at its place: it has a rule exactly where its version allows the query there, its
-- certificate is then good there, and it is a true verdict exactly where it has a rule and is of a query at its server
pub record IsRightVerdict (sc : Scenario) (facts : List Fact) (txn : Transaction)
    (verdict : Verdict) : Type 0 where
  pub fits : is_allowed sc facts txn (question_of verdict)
      ≡ is_some verdict.rule
  pub proved : is_some verdict.rule ≡ true → is_certified sc facts txn verdict ≡ true
  pub true_where : is_true_verdict sc facts txn verdict
      ≡ (is_own_query sc txn verdict.query verdict.server verdict.admin && is_some verdict.rule)

-- where the clock and the revocations of a staple are those of its place, what is evaluated with it is right there
abbrev pub EvaluatesRight : Type 0
EvaluatesRight =
    (sc : Scenario) (facts : List Fact) (txn : Transaction) (staple : Staple) (server : ServerId)
    (number : ℕ) (admin : AdminId) (version : Version)
    → IsAt sc staple.place facts staple.clock staple.revoked
    → IsRightVerdict sc facts txn (evaluation sc txn staple server number admin version)
