use Rattle.std.proofs.Common.{◌≡◌, take}
use Rattle.tp_quorum.specs.Replica.{told_of_all}
use Rattle.tp_quorum.proofs.replica.told_of_all.Given as goal

-- what the records so far tell
abbrev pub invariant-loop-record : goal.invariant-loop-record
invariant-loop-record l = l.known ≡ told_of_all l.fn.admins (take l.record-index l.records)
