-- How much a record may say that an actor forces: few deeds, verdicts, instances and versions.
use Rattle.std.proofs.Common.{length, ◌≤◌}
use Rattle.std.specs.List.{IsDistinct}
use Rattle.std.specs.Prelude.{eqb}
use Rattle.tp_model.specs.Words.cause
use Rattle.tp_model.specs.Words.decision
use Rattle.tp_model.specs.Words.log
use Rattle.tp_model.specs.Words.{Cause, CommitRecord, Decision, Instance, Prepared, Record}
use Rattle.tp_runs.proofs.basics.Verdicts.{numbers_of}
use Rattle.tp_types.specs.Each.{Each}

-- an instance has at most 16 proofs, of different queries
pub record IsSmallInstance (instance : Instance) : Type 0 where
  pub few : length instance.proofs ≤ 16
  pub apart : IsDistinct eqb (numbers_of instance.proofs)

-- a commit has at most one deed of each query; and at most an instance for each query, as it ran, and one more, each
-- with few proofs
pub record IsSmallCommit (committed : CommitRecord) : Type 0 where
  pub instances : length committed.instances ≤ 17
  pub proofs : Each IsSmallInstance committed.instances
  pub deeds : length committed.deeds ≤ 16

-- an abort after rounds names at most one newer version for each of at most 16 rounds
abbrev pub IsSmallCause : Cause → Type 0
IsSmallCause (cause.Rounds mets) = length mets ≤ 16
IsSmallCause _ = Unit {0}

abbrev pub IsSmallDecision : Decision → Type 0
IsSmallDecision (decision.Commit committed) = IsSmallCommit committed
IsSmallDecision (decision.Abort why) = IsSmallCause why

-- a vote YES has at most one deed of each query, and a verdict on each deed
pub record IsSmallVote (prepared : Prepared) : Type 0 where
  pub deeds : length prepared.deeds ≤ 16
  pub verdicts : length prepared.verdicts ≤ 16

-- each record of a server's log says few things; none is a decision
abbrev pub IsSmallAtServer : Record → Type 0
IsSmallAtServer (log.Prepared prepared) = IsSmallVote prepared
IsSmallAtServer (log.Decided decided) = ⊥
IsSmallAtServer _ = Unit {0}

-- each record of a coordinator's log says few things; none is a vote
abbrev pub IsSmallAtCoordinator : Record → Type 0
IsSmallAtCoordinator (log.Prepared prepared) = ⊥
IsSmallAtCoordinator (log.Decided decided) = IsSmallDecision decided.decision
IsSmallAtCoordinator _ = Unit {0}
