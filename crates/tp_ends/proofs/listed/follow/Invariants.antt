use Rattle.tp_ends.proofs.ListedRun.{Followed}
use Rattle.tp_ends.proofs.listed.follow.Given as goal

-- so many steps are done, and none of them was refused; who looks on has followed them
abbrev pub invariant-loop-at : goal.invariant-loop-at
invariant-loop-at g l =
    Followed l.initial.world l.world l.steps l.at
    × (g.W.Watch.follows l.initial.watch l.initial.world → g.W.Watch.follows l.watch l.world)
