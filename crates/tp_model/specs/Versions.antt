-- Which version of an administrator's policy is the newest at a place, and when versions agree.
use Rattle.std.specs.Prelude.{ℕ, ◌+◌, ◌==◌, ◌&&◌, nat_lt, List, slice_get, Bool, true, false, Option, Some, None, is_none, option_map, unwrap_or, if◌then◌else◌}
use Rattle.std.specs.List.{count_by, list_all}
use Rattle.tp_model.specs.Words.{Admin, AdminId, Fact, Instance, Scenario, Transaction, Verdict, Version, What}
use Rattle.tp_model.specs.Words.what
use Rattle.tp_model.specs.Facts.{before}
use Rattle.tp_model.specs.Ids.{same_admin}
use Rattle.tp_model.specs.Levels.{is_global, level_of, reads_master}

abbrev pub is_publication_what : AdminId → What → Bool
is_publication_what admin (what.Published other version) = same_admin other admin
is_publication_what admin _ = false

-- the fact is a publication of the administrator
abbrev pub is_publication : AdminId → Fact → Bool
is_publication admin fact = is_publication_what admin fact.what

-- the newest version at a place: the opening version, and one more for each publication before the place
abbrev pub newest_at : AdminId → Version → ℕ → List Fact → Version
newest_at admin opening place facts =
    record { 0 = opening.0 + count_by (is_publication admin) (before place facts) }

-- the version with which an administrator begins
abbrev pub opening_version : Scenario → AdminId → Version
opening_version sc admin =
    unwrap_or (option_map (λ (declared : Admin). declared.opening) (slice_get sc.admins admin.0)) (record {
      0 = 0;
    })

-- the newest version of an administrator of the scenario
abbrev pub newest : Scenario → AdminId → ℕ → List Fact → ℕ
newest sc admin place facts = (newest_at admin (opening_version sc admin) place facts).0

-- two proofs of one administrator have one version
abbrev pub have_one_version : Verdict → Verdict → Bool
have_one_version one other =
    if same_admin one.admin other.admin then one.version.0 == other.version.0 else true

abbrev pub agrees_with : List Verdict → Verdict → Bool
agrees_with proofs one = list_all (have_one_version one) proofs

-- any two proofs of one administrator have one version (view consistency)
abbrev pub is_one_version : List Verdict → Bool
is_one_version proofs = list_all (agrees_with proofs) proofs

-- a proof before the place whose version is the newest there
abbrev pub is_newest_proof : Scenario → ℕ → List Fact → Verdict → Bool
is_newest_proof sc place facts proof =
    (proof.version.0 == newest sc proof.admin place facts) && nat_lt proof.place place

-- at a reading of the master a proof is before it, and of an administrator under global consistency has the newest version
abbrev pub meets_reading : Scenario → Transaction → ℕ → List Fact → Verdict → Bool
meets_reading sc txn place facts proof =
    if is_global (level_of txn proof.admin) then is_newest_proof sc place facts proof
    else nat_lt proof.place place

abbrev pub meets_readings : Scenario → Transaction → Option ℕ → List Fact → List Verdict → Bool
meets_readings sc txn None facts proofs = false
meets_readings sc txn (Some place) facts proofs = list_all (meets_reading sc txn place facts) proofs

-- the instance has one version of each administrator. A transaction that reads the master has a reading that all proofs meet
-- (global consistency); another has none
abbrev pub is_consistent : Scenario → Transaction → List Fact → Instance → Bool
is_consistent sc txn facts instance =
    is_one_version instance.proofs
    && (if reads_master sc txn then meets_readings sc txn instance.reading facts instance.proofs
    else is_none instance.reading)
