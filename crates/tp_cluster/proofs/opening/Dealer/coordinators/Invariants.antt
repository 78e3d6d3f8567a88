use Rattle.std.proofs.Common.{◌≡◌, ◌+◌, length}
use Rattle.tp_cluster.proofs.opening.Dealer.coordinators.Given as goal

-- the next pass is the next coordinator's
abbrev pub invariant-loop-number : goal.invariant-loop-number
invariant-loop-number g l = l.self ≡ length l.scenario.servers + l.number
