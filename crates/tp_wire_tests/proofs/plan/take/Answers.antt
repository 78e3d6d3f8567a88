use Rattle.tp_wire_tests.proofs.ReadyLemmas.{taken_ready}
use Rattle.tp_wire_tests.proofs.plan.take.Goals as goal

pub returns : goal.returns
returns g c =
    taken_ready _ _ c.args.pass.now c.take.new.pass c.take.result c.requires c.take.ensures.table c.take.ensures.some c.take.ensures.none c.take.ensures.live
