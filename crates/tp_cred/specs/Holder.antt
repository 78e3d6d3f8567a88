-- Of whom credentials are to speak, and when they are to be valid.
use Rattle.std.specs.Prelude.{ℕ, List}
use Rattle.tp_model.specs.Words.{CredId, Credential, Scenario, Transaction}

-- A subject with all credentials, as they stand at a clock after some were revoked.
pub record Holder : Type 0 where
  -- all credentials, each at the place of its id
  pub store : List Credential
  pub subject : List ℕ
  pub now : ℕ
  pub revoked : List CredId

-- the subject of a transaction, with the credentials of its scenario
abbrev pub holder_of : Scenario → Transaction → ℕ → List CredId → Holder
holder_of sc txn now revoked = record {
  store = sc.creds;
  subject = txn.subject;
  now = now;
  revoked = revoked;
}
