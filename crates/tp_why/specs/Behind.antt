-- Which versions a commit was behind: of administrators of its last instance of which a newer version had been
-- published before it.
use Rattle.std.specs.Prelude.{ℕ, ◌+◌, ◌-◌, ◌==◌, nat_lt, List, [], ◌∷◌, ◌++◌, Bool, Option, option_map, length, slice_get, if◌then◌else◌}
use Rattle.std.specs.List.{find}
use Rattle.std.specs.Option.{option_map_or}
use Rattle.tp_model.specs.Words.{Admin, Fact, Instance, Scenario, Verdict, Version, What}
use Rattle.tp_model.specs.Words.decision
use Rattle.tp_model.specs.Words.what
use Rattle.tp_model.specs.Versions.{newest_at}
use Rattle.tp_why.specs.Lines.{behind_words}

-- the proof is by the administrator of this number
abbrev pub is_proof_by : ℕ → Verdict → Bool
is_proof_by number proof = proof.admin.0 == number

abbrev pub version_in : Verdict → Version
version_in proof = proof.version

-- the version of the administrator's first proof
abbrev pub used : ℕ → List Verdict → Option Version
used number proofs = option_map version_in (find (is_proof_by number) proofs)

-- the number of the administrator's newest version at the place
abbrev pub newest_of : ℕ → List Fact → ℕ → Admin → ℕ
newest_of place facts number admin =
    (newest_at (record { 0 = number }) admin.opening place facts).0

abbrev pub line_if_older : List ℕ → ℕ → Version → List (List ℕ)
line_if_older admin newest version =
    if nat_lt version.0 newest then behind_words admin version.0 newest ∷ [] else []

-- the line of an administrator by which there is a proof
abbrev pub admin_lines : ℕ → List Fact → List Verdict → ℕ → Admin → List (List ℕ)
admin_lines place facts proofs number admin =
    option_map_or (line_if_older admin.name (newest_of place facts number admin))
    (used number proofs) []

-- those of all administrators, the first having this number
abbrev pub admins_lines : ℕ → List Fact → List Verdict → ℕ → List Admin → List (List ℕ)
admins_lines place facts proofs number [] = []
admins_lines place facts proofs number (admin ∷ admins) =
    admin_lines place facts proofs number admin
    ++ admins_lines place facts proofs (number + 1) admins

-- the last of the instances
abbrev pub last_of : List Instance → Option Instance
last_of instances = slice_get instances (length instances - 1)

abbrev pub instance_lines : Scenario → ℕ → List Fact → Instance → List (List ℕ)
instance_lines sc place facts made = admins_lines place facts made.proofs 0 sc.admins

-- those of the last instance
abbrev pub commit_lines : Scenario → ℕ → List Fact → List Instance → List (List ℕ)
commit_lines sc place facts instances =
    option_map_or (instance_lines sc place facts) (last_of instances) []

abbrev pub behind_lines_of : Scenario → ℕ → List Fact → What → List (List ℕ)
behind_lines_of sc place facts (what.Decided txn (decision.Commit held)) =
    commit_lines sc place facts held.instances
behind_lines_of sc place facts _ = []

-- what stands below a commit, by all facts so far; below another fact nothing
abbrev pub behind_lines : Scenario → List Fact → Fact → List (List ℕ)
behind_lines sc facts fact = behind_lines_of sc fact.place facts fact.what
