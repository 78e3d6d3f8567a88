use Rattle.std.proofs.Common.{◌<◌, length, arith}
use Rattle.tp_lock_chain.specs.mirrors.Leave as mirror
use Rattle.tp_lock_chain.proofs.LoopLemmas.{settle_steps_turn, settle_turns}
use Rattle.tp_lock_chain.proofs.leave.settle.Goals as goal

pub loop-turn-preserved : goal.loop-turn-preserved
loop-turn-preserved g c =
    let all = length c.args.pool.now.nodes in
    let turn = c.loop-turn._turn in
    let lt : turn < all = omega arith in
    record {
      pool = settle_turns all turn c.loop-turn.pool c.settle_one.new.pool c.loop-turn.at c.loop-turn.passed c.with_entry-passed.result c.in-On.node c.node_at.result c.links-at-in-On.result
          (mirror.settled c.args.ring c.args.pool.now) lt c.in-On.is c.node_at.ensures c.settle_one.ensures.pool c.with_entry-passed.ensures c.links-at-in-On.ensures c.loop-turn.invariant.pool;
      steps =
          let same = settle_steps_turn all turn c.loop-turn.pool c.settle_one.new.pool c.loop-turn.at c.loop-turn.passed c.with_entry-passed.result c.in-On.node c.node_at.result
          c.links-at-in-On.result lt c.in-On.is c.node_at.ensures c.settle_one.ensures.pool c.with_entry-passed.ensures c.links-at-in-On.ensures in
          omega (arith, c.step.ensures.most, c.settle_one.ensures.steps, c.loop-turn.invariant.steps, same);
    }
