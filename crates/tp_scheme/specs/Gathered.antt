-- What a transaction has gathered, and what a reading of the master says of it.
use Rattle.std.specs.Prelude.{ℕ, ◌&&◌, ◌++◌, List, [], ◌∷◌, slice_get, Bool, nat_lt, Option, option_map, unwrap_or}
use Rattle.std.specs.List.{find}
use Rattle.tp_model.specs.Words.{AdminId, Cause, Instance, Level, Reading, Verdict, Version}
use Rattle.tp_model.specs.Words.cause
use Rattle.tp_model.specs.Ids.{same_admin}
use Rattle.tp_model.specs.Levels.{is_global_at}

-- the proofs and the instances so far, each in the order in which they came
pub record Gathered : Type 0 where
  pub proofs : List Verdict
  pub instances : List Instance

abbrev pub none_gathered : Gathered
none_gathered = record { proofs = []; instances = [] }

abbrev pub with_proof : Gathered → Verdict → Gathered
with_proof gathered proof = record gathered { proofs = gathered.proofs ++ proof ∷ [] }

abbrev pub with_instance : Gathered → Instance → Gathered
with_instance gathered instance =
    record gathered { instances = gathered.instances ++ instance ∷ [] }

-- an instance of all proofs so far is added
abbrev pub closed : Gathered → Option ℕ → Gathered
closed gathered reading =
    with_instance gathered (record { reading = reading; proofs = gathered.proofs })

-- ---- pins

abbrev pub is_of : AdminId → Verdict → Bool
is_of admin proof = same_admin proof.admin admin

abbrev pub version_of : Verdict → Version
version_of proof = proof.version

-- the version of the administrator's first proof
abbrev pub pin_of : List Verdict → AdminId → Option Version
pin_of proofs admin = option_map version_of (find (is_of admin) proofs)

-- ---- proofs that a reading of the master is above

-- the master's newest version of the administrator; 0, which is no version, where the reading has none
abbrev pub newest_in : Reading → AdminId → Version
newest_in reading admin = unwrap_or (slice_get reading.newest admin.0) (record { 0 = 0 })

-- the proof is of an administrator under global consistency, and below its newest version
abbrev pub is_older : List Level → Reading → Verdict → Bool
is_older levels reading proof =
    is_global_at levels proof.admin && nat_lt proof.version.0 (newest_in reading proof.admin).0

-- the version that the proof has used, and the newer one that was found
abbrev pub newer_by : Reading → Verdict → Cause
newer_by reading proof =
    cause.Newer (record {
      admin = proof.admin;
      used = proof.version;
      found = newest_in reading proof.admin;
    })

-- of the first proof that is below
abbrev pub older : List Level → List Verdict → Reading → Option Cause
older levels proofs reading = option_map (newer_by reading) (find (is_older levels reading) proofs)
