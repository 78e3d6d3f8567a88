-- Which credentials are valid, and what a subject then holds: on a clock and the credentials that were revoked, and at a place of a
-- history, which has both.
use Rattle.std.specs.Prelude.{ℕ, ◌+◌, ◌&&◌, nat_le, List, filter, slice_get, Bool, false, not, Option, Some, None, if◌then◌else◌}
use Rattle.std.specs.List.{filter_map, list_any, sum_by}
use Rattle.std.specs.Option.{option_map_or}
use Rattle.tp_model.specs.Words.{CredId, Credential, Fact, Scenario, Transaction, What}
use Rattle.tp_model.specs.Words.what
use Rattle.tp_model.specs.Facts.{before}
use Rattle.tp_model.specs.Ids.{same_cred, same_name}
use Rattle.tp_model.specs.Policies.{Triple}

-- ---- on a clock and revocations

-- the credential is one of these
abbrev pub is_among : List CredId → CredId → Bool
is_among creds cred = list_any (same_cred cred) creds

-- the clock is within the credential's interval, both ends included
abbrev pub is_current : ℕ → Credential → Bool
is_current clock credential = nat_le credential.from clock && nat_le clock credential.until

-- of these credentials that of this id is valid: the clock is within its interval, and it is not among those revoked
abbrev pub is_valid_in : List Credential → ℕ → List CredId → CredId → Bool
is_valid_in creds clock revoked cred =
    option_map_or (is_current clock) (slice_get creds cred.0) false && not (is_among revoked cred)

-- what a credential says
abbrev pub triple_by : Credential → Triple
triple_by credential = record {
  issuer = credential.issuer;
  attr = credential.attr;
  value = credential.value;
}

-- what a credential says of a subject; one of another subject says nothing
abbrev pub triple_of : List ℕ → Credential → Option Triple
triple_of subject credential =
    if same_name credential.subject subject then Some (triple_by credential) else None

abbrev pub said_in : List Credential → List ℕ → CredId → Option Triple
said_in creds subject cred = option_map_or (triple_of subject) (slice_get creds cred.0) None

-- what credentials say of a subject
abbrev pub triples_in : List Credential → List ℕ → List CredId → List Triple
triples_in creds subject used = filter_map (said_in creds subject) used

-- what a subject holds: what those of the credentials say of it that it presents and that are valid
abbrev pub holdings_in : List Credential → List ℕ → ℕ → List CredId → List CredId → List Triple
holdings_in creds subject clock revoked presented =
    triples_in creds subject (filter (is_valid_in creds clock revoked) presented)

-- the transaction presents the credential
abbrev pub is_presented : Transaction → CredId → Bool
is_presented txn cred = is_among txn.creds cred

-- ---- at a place of a history

abbrev pub tick_of_what : What → ℕ
tick_of_what (what.Ticked by) = by
tick_of_what _ = 0

-- by how much a fact moves the clock
abbrev pub tick_of : Fact → ℕ
tick_of fact = tick_of_what fact.what

-- the clock at a place: the opening clock and all ticks before it
abbrev pub clock_at : Scenario → ℕ → List Fact → ℕ
clock_at sc place facts = sc.clock + sum_by tick_of (before place facts)

abbrev pub revoked_what : What → Option CredId
revoked_what (what.Revoked cred) = Some cred
revoked_what _ = None

abbrev pub revoked_by : Fact → Option CredId
revoked_by fact = revoked_what fact.what

-- the credentials that were revoked before the place
abbrev pub revoked_at : ℕ → List Fact → List CredId
revoked_at place facts = filter_map revoked_by (before place facts)

-- the credential is valid at the place
abbrev pub is_valid : Scenario → ℕ → List Fact → CredId → Bool
is_valid sc place facts cred =
    is_valid_in sc.creds (clock_at sc place facts) (revoked_at place facts) cred

-- what a transaction holds at a place
abbrev pub holdings : Scenario → ℕ → List Fact → Transaction → List Triple
holdings sc place facts txn =
    holdings_in sc.creds txn.subject (clock_at sc place facts) (revoked_at place facts) txn.creds
