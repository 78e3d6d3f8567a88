use Rattle.std.proofs.Common.{◌≡◌, ◌++◌, ◌-◌, ◌<◌, ◌≤◌, ℕ}
use Rattle.tp_bulk.specs.Bulk.{txns_from}
use Rattle.tp_bulk.proofs.bulk.transactions.Given as goal

-- the transactions so far, and those that are left by this state, are all of them
abbrev pub invariant-loop-number : goal.invariant-loop-number
invariant-loop-number l = (l.x < 2147483648) × (l.txns ++ txns_from (l.count - l.number) l.number l.x ≡ txns_from l.count 0 l.count)
