use Rattle.std.proofs.Common.{◌≡◌, drop}
use Rattle.tp_recover.specs.Log.{decided_in}
use Rattle.tp_recover.proofs.decided.decision_of.Given as goal

-- no record before this one holds a decision
abbrev pub invariant-loop-forced : goal.invariant-loop-forced
invariant-loop-forced l = decided_in (drop l.forced-index l.records) ≡ decided_in l.records
