use Rattle.std.proofs.Common.{List}
use Rattle.std.specs.Vec.Iter.{into_iter_items}
use Rattle.tp_model.specs.Words.{Step}
use Rattle.tp_cluster.proofs.ReplayLemmas.{IsSoFar}
use Rattle.tp_cluster.proofs.closing.replay.Given as goal

-- the world after the steps so far
abbrev pub invariant-loop-taken : goal.invariant-loop-taken
invariant-loop-taken l = (done : List Step) × IsSoFar l.fn.world.scenario l.fn.steps done (into_iter_items l.taken-iterator) l.world
