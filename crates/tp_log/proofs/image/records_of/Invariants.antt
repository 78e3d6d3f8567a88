use Rattle.std.proofs.Common.{◌≡◌, ◌<◌, ◌++◌, length}
use Rattle.tp_log.specs.Images.{AreRecords, blocks}
use Rattle.tp_log.proofs.image.records_of.Given as goal

-- the records so far, and what is not read yet
abbrev pub invariant-loop-behind : goal.invariant-loop-behind
invariant-loop-behind l = record { parts : l.image ≡ blocks l.records ++ l.rest; are : AreRecords l.records; some : 0 < length l.rest }

abbrev pub decreases-loop-behind : goal.decreases-loop-behind
decreases-loop-behind l = length l.rest
