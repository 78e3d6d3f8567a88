use Rattle.std.proofs.Common.{◌<◌, ◌∙◌, length, arith}
use Rattle.tp_lock_chain.specs.mirrors.Leave as mirror
use Rattle.tp_lock_chain.proofs.LoopLemmas.{leave_ends, leave_ends_steps, leave_turns, leave_turns_steps}
use Rattle.tp_lock_chain.proofs.leave.leave_rest.Goals as goal

pub returns-in-End : goal.returns-in-End
returns-in-End g c =
    let all = length c.args.pool.now.nodes in
    let turn = c.loop-turn._turn in
    let lt : turn < all = omega arith in
    record {
      pool = c.settle.ensures.pool ∙ leave_ends all turn c.args.owner c.loop-turn.ring c.loop-turn.pool c.in-End._end c.links.result
          (mirror.left_rest c.args.owner c.args.first c.args.pool.now) lt c.links.ensures c.in-End.is c.loop-turn.invariant.pool;
      steps =
          let same = leave_ends_steps all turn c.args.owner c.loop-turn.ring c.loop-turn.pool c.in-End._end c.links.result lt c.links.ensures c.in-End.is in
          omega (arith, c.settle.ensures.steps, c.loop-turn.invariant.steps, same);
    }

pub loop-turn-preserved : goal.loop-turn-preserved
loop-turn-preserved g c =
    let all = length c.args.pool.now.nodes in
    let turn = c.loop-turn._turn in
    let lt : turn < all = omega arith in
    record {
      pool = leave_turns all turn c.args.owner c.loop-turn.ring c.leave_one-ring.result c.loop-turn.pool c.leave_one-ring.new.pool c.in-On.node c.links.result
          (mirror.left_rest c.args.owner c.args.first c.args.pool.now) lt c.links.ensures c.in-On.is c.leave_one-ring.ensures.ring c.leave_one-ring.ensures.pool c.loop-turn.invariant.pool;
      steps =
          let same = leave_turns_steps all turn c.args.owner c.loop-turn.ring c.leave_one-ring.result c.loop-turn.pool c.leave_one-ring.new.pool c.in-On.node c.links.result
          lt c.links.ensures c.in-On.is c.leave_one-ring.ensures.ring c.leave_one-ring.ensures.pool in
          omega (arith, c.leave_one-ring.ensures.steps, c.loop-turn.invariant.steps, same);
    }
