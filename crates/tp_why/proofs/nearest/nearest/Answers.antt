use Rattle.tp_why.specs.Nearest.{failing}
use Rattle.tp_why.proofs.NearestLemmas.{next_nearest}
use Rattle.tp_why.proofs.nearest.nearest.Goals as goal

pub loop-cred-preserved : goal.loop-cred-preserved
loop-cred-preserved c =
    let moment = c.args.moment.now in
    next_nearest (failing moment.scenario.now moment.place moment.facts.now c.args.declared.now c.args.atom.now) c.as_slice-cred-items.result.now c.loop-cred.cred-index c.loop-cred.best c.failing_of.result c.nearer-best.result _ _
    c.loop-cred-test.true c.failing_of.ensures c.nearer-best.ensures c.loop-cred.invariant
