use Rattle.std.proofs.Common.{◌≡◌, ◌≤◌, ◌+◌, ◌-◌, length}
use Rattle.tp_lock_chain.specs.mirrors.Leave as mirror
use Rattle.tp_lock_chain.proofs.leave.settle.Given as goal

-- what is left of the ring gives the result, and takes the steps that are left
abbrev pub invariant-loop-turn : goal.invariant-loop-turn
invariant-loop-turn g l =
    record {
      pool : mirror.settled_from (length l.fn.pool.nodes - l._turn) l.at l.passed l.pool ≡ mirror.settled l.ring l.fn.pool;
      steps : g.T.Tally.counted l.tally + mirror.steps_from (length l.fn.pool.nodes - l._turn) l.at l.passed l.pool
          ≤ g.T.Tally.counted l.fn.tally + mirror.settle_steps l.ring l.fn.pool;
    }
