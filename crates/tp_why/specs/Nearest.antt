-- The credential that comes nearest to make an atom true.
use Rattle.std.specs.Prelude.{ℕ, ◌&&◌, nat_lt, List, [], ◌∷◌, slice_get, Bool, not, Option, Some, None, option_map, option_and_then, if◌then◌else◌}
use Rattle.tp_model.specs.Words.{CredId, Credential, Fact, Scenario, Transaction}
use Rattle.tp_model.specs.Credentials.{clock_at, is_among, revoked_at, triple_by}
use Rattle.tp_model.specs.Ids.{same_name}
use Rattle.tp_model.specs.Policies.{meets}
use Rattle.tp_why.specs.declared.atoms.Atom.{Atom}
use Rattle.tp_why.specs.declared.nearest.Failing.{Failing}
use Rattle.tp_why.specs.declared.nearest.Fault.{Fault}
use Rattle.tp_why.specs.declared.nearest.Fault.TheVariants.{Subject, Value, Early, Late, Revoked}

-- the credential is from the atom's issuer, with its attribute
abbrev pub is_of : Atom → Credential → Bool
is_of atom credential = same_name credential.issuer atom.issuer && same_name credential.attr atom.attr

-- what it says meets the atom
abbrev pub is_said : Atom → Credential → Bool
is_said atom credential =
    meets atom.issuer atom.attr atom.op atom.wanted (triple_by credential)

-- the first test that it fails: whose it is, its value, from when, until when, and whether it was revoked
abbrev pub fault_of : Scenario → ℕ → List Fact → Transaction → Atom → CredId → Credential
    → Option Fault
fault_of sc place facts declared atom cred credential =
    if not (same_name credential.subject declared.subject) then Some Subject
    else (if not (is_said atom credential) then Some Value
    else (if nat_lt (clock_at sc place facts) credential.from then Some Early
    else (if nat_lt credential.until (clock_at sc place facts) then Some Late
    else (if is_among (revoked_at place facts) cred then Some Revoked else None))))

abbrev pub failing_with : CredId → Fault → Failing
failing_with cred fault = record { cred = cred; fault = fault }

abbrev pub failing_as : Scenario → ℕ → List Fact → Transaction → Atom → CredId → Credential
    → Option Failing
failing_as sc place facts declared atom cred credential =
    if is_of atom credential
    then option_map (failing_with cred) (fault_of sc place facts declared atom cred credential)
    else None

-- the credential of this id with the test that it fails, if it is of the atom's issuer and attribute and fails one
abbrev pub failing : Scenario → ℕ → List Fact → Transaction → Atom → CredId → Option Failing
failing sc place facts declared atom cred =
    option_and_then (failing_as sc place facts declared atom cred) (slice_get sc.creds cred.0)

-- how many tests it passed before
abbrev pub passed : Fault → ℕ
passed Subject = 0
passed Value = 1
passed Early = 2
passed Late = 3
passed Revoked = 4

-- the one that passed more tests; the first of two that passed as many
abbrev pub nearer : Option Failing → Option Failing → Option Failing
nearer None other = other
nearer (Some one) None = Some one
nearer (Some one) (Some other) =
    if nat_lt (passed one.fault) (passed other.fault) then Some other else Some one

abbrev pub nearest_by : (CredId → Option Failing) → List CredId → Option Failing
nearest_by failing_by [] = None
nearest_by failing_by (cred ∷ creds) = nearer (failing_by cred) (nearest_by failing_by creds)

-- of the presented credentials of the atom's issuer and attribute the one that passes the most tests, the first of
-- several
abbrev pub nearest : Scenario → ℕ → List Fact → Transaction → Atom → Option Failing
nearest sc place facts declared atom =
    nearest_by (failing sc place facts declared atom) declared.creds
