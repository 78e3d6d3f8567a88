use Rattle.tp_quorum.proofs.DrainLemmas.{draining_ends, draining_falls, draining_more}
use Rattle.tp_quorum.proofs.quorum.Quorum.drain.Goals as goal

pub loop-taken-preserved : goal.loop-taken-preserved
loop-taken-preserved c =
    draining_more c.args.self.now c.loop-taken.self c.step.new.self c.in-Some.taken c.loop-taken.invariant c.in-Some.ensures.value c.in-Some.ensures.allowed c.in-Ok.ensures.ok

pub loop-taken-smaller : goal.loop-taken-smaller
loop-taken-smaller c =
    draining_falls c.args.self.now c.loop-taken.self c.step.new.self c.in-Some.taken c.loop-taken.invariant c.in-Some.ensures.value c.in-Some.ensures.allowed c.in-Ok.ensures.ok

pub returns-clause-ok : goal.returns-clause-ok
returns-clause-ok c = draining_ends c.args.self.now c.loop-taken.self c.loop-taken.invariant c.in_default.ensures.value
