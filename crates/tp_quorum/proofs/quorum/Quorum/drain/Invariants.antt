use Rattle.std.proofs.Common.{length}
use Rattle.tp_quorum.proofs.DrainLemmas.{Draining}
use Rattle.tp_quorum.specs.QuorumView.{steps_left}
use Rattle.tp_quorum.proofs.quorum.Quorum.drain.Given as goal

-- only automatic steps were done so far
abbrev pub invariant-loop-taken : goal.invariant-loop-taken
invariant-loop-taken l = Draining l.initial.self l.self

-- each step is one less
abbrev pub decreases-loop-taken : goal.decreases-loop-taken
decreases-loop-taken l = length (steps_left l.self.machine)
