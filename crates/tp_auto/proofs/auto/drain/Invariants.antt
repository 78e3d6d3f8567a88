use Rattle.tp_auto.proofs.PotentialLemmas.{potential}
use Rattle.tp_auto.proofs.RestLemmas.{Draining}
use Rattle.tp_auto.specs.mirrors.Ups.{KnowsUp}
use Rattle.tp_auto.proofs.auto.drain.Given as goal

-- the world is on its way to rest, the cursor stands where the steps have brought it, and after a step that is no boot
-- nobody is down; who looks on has followed it
abbrev pub invariant-loop-step : goal.invariant-loop-step
invariant-loop-step g l =
    Draining l.initial.world l.world l.cursor × KnowsUp l.all_up l.world
    × (g.W.Watch.follows l.initial.watch l.initial.world → g.W.Watch.follows l.watch l.world)

-- each step makes it less
abbrev pub decreases-loop-step : goal.decreases-loop-step
decreases-loop-step g l = potential l.world.scenario l.world.machine l.cursor
