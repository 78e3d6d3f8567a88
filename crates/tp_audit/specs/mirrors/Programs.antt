-- What the plain programs for the definitions speak of in their contracts.
use Rattle.std.specs.Prelude.{ℕ, ◌^◌, ◌&&◌, List, filter, slice_get, slice_set, Bool, false, Option, Some, None, option_map, ℤ, pos, neg_ℤ, ◌+ℤ◌, ◌*ℤ◌, ◌≤ℤ◌}
use Rattle.std.specs.List.{find}
use Rattle.std.specs.Option.{option_map_or}
use Rattle.std.specs.Ordering.{int_eq}
use Rattle.tp_model.specs.Words.{Action, CredId, Credential, Deed, Fact, Instance, Policy, Query, Scenario, Transaction, Verdict}
use Rattle.tp_model.specs.Words.action
use Rattle.tp_types.specs.declared.scenario.Query.TheVariants.{Read, Write}
use Rattle.tp_audit.specs.declared.authorisation.Case.{Case}
use Rattle.tp_audit.specs.declared.credentials.Held.{Held}
use Rattle.tp_audit.specs.declared.policies.Atom.{Atom}
use Rattle.tp_audit.specs.declared.total.Total.{Total}
use Rattle.tp_audit.specs.declared.trust.Commit.{Commit}
use Rattle.tp_audit.specs.declared.versions.MasterRead.{MasterRead}
use Rattle.tp_model.specs.Authorisation.{action_of, policy_at, rule_proves, tests_version}
use Rattle.tp_model.specs.Credentials.{is_valid, triple_by, triples_in}
use Rattle.tp_model.specs.Ids.{same_name}
use Rattle.tp_model.specs.Policies as policies
use Rattle.tp_model.specs.Policies.{Triple}
use Rattle.tp_model.specs.SerialRun.{deed_value, is_deed_of, number_at, sum_in}
use Rattle.tp_model.specs.Trust as trust
use Rattle.tp_model.specs.Versions as versions

-- ---- what is held

-- what those of the credentials say of the subject that are valid at the place
abbrev pub held_by : Held → List Triple
held_by held =
    triples_in held.scenario.now.creds held.subject.now
    (filter (is_valid held.scenario.now held.place held.facts.now) held.creds.now)

-- what a credential says meets the atom
abbrev pub meets : Atom → Triple → Bool
meets atom said = policies.meets atom.issuer.now atom.attr.now atom.op atom.wanted.now said

-- the credential is the subject's, and what it says passes the test
abbrev pub says : (Triple → Bool) → Held → Credential → Bool
says test held credential =
    same_name credential.subject held.subject.now && test (triple_by credential)

-- the credential of this number is the subject's, is valid at the place, and what it says passes the test
abbrev pub shows : (Triple → Bool) → Held → CredId → Bool
shows test held cred =
    option_map_or (says test held) (slice_get held.scenario.now.creds cred.0) false
    && is_valid held.scenario.now held.place held.facts.now cred

-- ---- authorisation

-- a test of a query's action, its item's name and a policy, where there is one of each
abbrev pub tests_case : (Action → List ℕ → Policy → Bool) → Option Case → Bool
tests_case test None = false
tests_case test (Some case) = test (action_of case.query.now) case.item.now.name case.policy.now

-- the verdict's rule matches the query, and is true of those credentials alone that it uses and that are valid at its place
abbrev pub is_proved : Scenario → List Fact → Transaction → Verdict → Bool
is_proved sc facts txn verdict =
    tests_version
    (rule_proves sc txn (filter (is_valid sc verdict.place facts) verdict.uses) verdict.rule) sc txn
    verdict.query
    (policy_at sc verdict.admin verdict.version)

-- ---- versions

-- the proof agrees with what was read from the master
abbrev pub meets_reading : MasterRead → Verdict → Bool
meets_reading read proof =
    versions.meets_reading read.scenario.now read.txn.now read.place read.facts.now proof

-- ---- trusted commits

-- the commit may rest on the proof
abbrev pub is_trusted_proof : Commit → Verdict → Bool
is_trusted_proof commit proof =
    trust.is_trusted_proof commit.scenario.now commit.txn commit.declared.now commit.place
    commit.facts.now proof

-- the commit may rest on the instance
abbrev pub is_trusted_instance : Commit → Instance → Bool
is_trusted_instance commit instance =
    trust.is_trusted_instance commit.scenario.now commit.txn commit.declared.now commit.place
    commit.facts.now instance

-- ---- exact sums

-- the sum that a total stands for
abbrev pub value_of : Total → ℤ
value_of total = total.part +ℤ (total.wraps *ℤ pos (2 ^ 128))

-- it has wrapped at most so often
abbrev pub HasWrapped : ℕ → Total → Type 0
HasWrapped most total = (neg_ℤ (pos most) ≤ℤ total.wraps) × (total.wraps ≤ℤ pos most)

-- ---- one query of a serial run

-- what the query of this number does, on these registers and this store
abbrev pub deed_of : ℕ → Query → List ℤ → List ℤ → Deed
deed_of number (Read item into) registers store =
    record { query = number; item = item; action = action.Read; value = number_at store item.0 }
deed_of number (Write item expr) registers store =
    record { query = number; item = item; action = action.Write; value = sum_in registers expr }

-- the deed of this number among the deeds has the value
abbrev pub has_value : ℕ → ℤ → List Deed → Bool
has_value number value deeds =
    option_map_or (int_eq value) (option_map deed_value (find (is_deed_of number) deeds)) false

-- the registers after it
abbrev pub registers_after : Query → List ℤ → List ℤ → List ℤ
registers_after (Read item into) registers store = slice_set registers into (number_at store item.0)
registers_after (Write item expr) registers store = registers

-- the store after it
abbrev pub store_after : Query → List ℤ → List ℤ → List ℤ
store_after (Read item into) registers store = store
store_after (Write item expr) registers store = slice_set store item.0 (sum_in registers expr)
