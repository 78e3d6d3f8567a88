use Rattle.tp_ends.proofs.RestLemmas.{settled}
use Rattle.tp_ends.proofs.ended.settle.Goals as goal

pub returns-clause-rests : goal.returns-clause-rests
returns-clause-rests g c = settled c.args.world.now c.drain.new.world c.drain.result c.drain.ensures.steps c.drain.ensures.quiet
