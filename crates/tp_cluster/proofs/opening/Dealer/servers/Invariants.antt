use Rattle.std.proofs.Common.{◌≡◌}
use Rattle.tp_cluster.proofs.opening.Dealer.servers.Given as goal

-- the next pass is the next server's
abbrev pub invariant-loop-number : goal.invariant-loop-number
invariant-loop-number g l = l.self ≡ l.number
