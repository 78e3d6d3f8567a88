use Rattle.tp_lock_chain.proofs.RoomLemmas.{owner_pushed}
use Rattle.tp_lock_chain.proofs.room.reach.Goals as goal

pub loop-pool-preserved : goal.loop-pool-preserved
loop-pool-preserved c =
    owner_pushed c.args.pool.now c.loop-pool.pool c.push.new.self c.lone.result c.len-in-loop-pool.result c.loop-pool.invariant c.in_ok-push.ensures.ok c.lone.ensures c.len-in-loop-pool.ensures
