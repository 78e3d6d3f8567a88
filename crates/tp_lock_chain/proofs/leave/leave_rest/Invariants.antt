use Rattle.std.proofs.Common.{◌≡◌, ◌≤◌, ◌+◌, ◌-◌, length}
use Rattle.tp_lock_chain.specs.mirrors.Leave as mirror
use Rattle.tp_lock_chain.proofs.leave.leave_rest.Given as goal

-- what is left of the owner's nodes gives the result, and takes the steps that are left
abbrev pub invariant-loop-turn : goal.invariant-loop-turn
invariant-loop-turn g l =
    record {
      pool : mirror.left_from (length l.fn.pool.nodes - l._turn) l.owner l.ring l.pool ≡ mirror.left_rest l.owner l.fn.first l.fn.pool;
      steps : g.T.Tally.counted l.tally + mirror.rest_from (length l.fn.pool.nodes - l._turn) l.owner l.ring l.pool
          ≤ g.T.Tally.counted l.fn.tally + mirror.rest_steps l.owner l.fn.first l.fn.pool;
    }
