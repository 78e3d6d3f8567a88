use Rattle.tp_cluster.specs.mirrors.Homes.{AreGathered}
use Rattle.tp_cluster.proofs.closing.gather_all.Given as goal

-- the passes of the actors so far stand behind the old ones
abbrev pub invariant-loop-lock : goal.invariant-loop-lock
invariant-loop-lock g l = AreGathered g.B.Site.table l.first l.number l.initial.passes l.passes
