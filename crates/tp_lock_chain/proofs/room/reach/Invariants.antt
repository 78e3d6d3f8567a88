use Rattle.std.proofs.Common.{◌+◌, ◌-◌, length}
use Rattle.tp_lock_chain.specs.mirrors.Room as room
use Rattle.tp_lock_chain.proofs.room.reach.Given as goal

abbrev pub invariant-loop-pool : goal.invariant-loop-pool
invariant-loop-pool l = room.Keeps l.initial.pool l.pool

abbrev pub decreases-loop-pool : goal.decreases-loop-pool
decreases-loop-pool l = l.owner + 1 - length l.pool.owners
