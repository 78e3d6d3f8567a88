-- A store of credentials with a clock and revocations, beside a history.
use Rattle.std.specs.Prelude.{◌≡◌, ℕ, ◌&&◌, List, Bool, false, Option, Some, None}
use Rattle.std.specs.List.{list_all}
use Rattle.tp_model.specs.Words.{Action, CredId, Fact, Policy, Scenario, Transaction, Verdict}
use Rattle.tp_model.specs.Authorisation.{is_certified, policy_at, tests_version}
use Rattle.tp_model.specs.Credentials.{clock_at, holdings, holdings_in, is_among, is_presented, is_valid, is_valid_in, revoked_at}
use Rattle.tp_cred.specs.Certificates.{is_checked}
use Rattle.tp_cred.specs.Holder.{Holder, holder_of}

-- the clock is that of the place, and those are revoked, in whatever order, that were revoked before it
pub record IsAt (sc : Scenario) (place : ℕ) (facts : List Fact) (now : ℕ) (revoked : List CredId)
    : Type 0 where
  pub clock : now ≡ clock_at sc place facts
  pub revocations : (cred : CredId) → is_among revoked cred ≡ is_among (revoked_at place facts) cred

-- a credential is valid exactly where it is valid at the place
abbrev pub IsValidThere : Type 0
IsValidThere =
    (sc : Scenario) (place : ℕ) (facts : List Fact) (now : ℕ) (revoked : List CredId)
    → IsAt sc place facts now revoked
    → (cred : CredId) → is_valid_in sc.creds now revoked cred ≡ is_valid sc place facts cred

-- a transaction holds what it holds at the place
abbrev pub IsHeldThere : Type 0
IsHeldThere =
    (sc : Scenario) (place : ℕ) (facts : List Fact) (now : ℕ) (revoked : List CredId)
    → IsAt sc place facts now revoked
    → (txn : Transaction)
    → holdings_in sc.creds txn.subject now revoked txn.creds ≡ holdings sc place facts txn

-- the certificate of a rule, where a verdict names one, passes the check
abbrev pub is_checked_of : Holder → Option ℕ → List CredId → Action → List ℕ → Policy → Bool
is_checked_of holder None uses asked item policy = false
is_checked_of holder (Some rule) uses asked item policy =
    is_checked policy asked item holder rule uses

-- a verdict's certificate passes the check, at its query and its version, and uses only what the transaction presents
abbrev pub is_verdict_checked : Scenario → Transaction → ℕ → List CredId → Verdict → Bool
is_verdict_checked sc txn now revoked verdict =
    tests_version
    (is_checked_of (holder_of sc txn now revoked) verdict.rule verdict.uses) sc txn verdict.query
    (policy_at sc verdict.admin verdict.version)
    && list_all (is_presented txn) verdict.uses

-- exactly the certified verdicts are checked with the clock and the revocations of their places
abbrev pub IsCertifiedThere : Type 0
IsCertifiedThere =
    (sc : Scenario) (facts : List Fact) (now : ℕ) (revoked : List CredId) (txn : Transaction)
    (verdict : Verdict)
    → IsAt sc verdict.place facts now revoked
    → is_verdict_checked sc txn now revoked verdict ≡ is_certified sc facts txn verdict
