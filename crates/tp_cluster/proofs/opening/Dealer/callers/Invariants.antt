use Rattle.std.proofs.Common.{◌≡◌, ◌+◌}
use Rattle.tp_wire.specs.Passes.{fresh_passes}
use Rattle.tp_cluster.proofs.opening.Dealer.callers.Given as goal

-- so many passes are dealt
abbrev pub invariant-loop-dealt : goal.invariant-loop-dealt
invariant-loop-dealt g l = (l.self ≡ l.initial.self + l.dealt) × (l.made ≡ fresh_passes g.B.Site.table l.initial.self l.dealt)
