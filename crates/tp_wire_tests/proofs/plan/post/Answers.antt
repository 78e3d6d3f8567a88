use Rattle.tp_wire_tests.proofs.ReadyLemmas.{posted_ready}
use Rattle.tp_wire_tests.proofs.plan.post.Goals as goal

pub returns : goal.returns
returns g c =
    posted_ready _ _ _ _ c.args.pass.now c.post.new.pass _ c.post.result c.requires c.post.ensures.table c.post.ensures.ok c.post.ensures.live
