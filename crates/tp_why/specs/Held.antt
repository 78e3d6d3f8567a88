-- The credentials that a transaction presents and that count at a place: those of its subject that are valid there.
use Rattle.std.specs.Prelude.{ℕ, ◌&&◌, List, slice_get, Option, Some, None, option_and_then, if◌then◌else◌}
use Rattle.std.specs.List.{filter_map}
use Rattle.tp_model.specs.Words.{CredId, Credential, Fact, Scenario, Transaction}
use Rattle.tp_model.specs.Credentials.{is_valid}
use Rattle.tp_model.specs.Ids.{same_name}

abbrev pub counting_as : Scenario → ℕ → List Fact → Transaction → CredId → Credential
    → Option Credential
counting_as sc place facts declared cred credential =
    if same_name credential.subject declared.subject && is_valid sc place facts cred
    then Some credential
    else None

-- the credential of this id, if it counts
abbrev pub counting : Scenario → ℕ → List Fact → Transaction → CredId → Option Credential
counting sc place facts declared cred =
    option_and_then (counting_as sc place facts declared cred) (slice_get sc.creds cred.0)

-- those that count, in the order in which they are presented
abbrev pub held : Scenario → ℕ → List Fact → Transaction → List Credential
held sc place facts declared = filter_map (counting sc place facts declared) declared.creds
