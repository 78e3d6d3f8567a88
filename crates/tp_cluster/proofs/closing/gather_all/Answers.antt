use Rattle.tp_cluster.proofs.HomeLemmas.{both_gathered}
use Rattle.tp_cluster.proofs.closing.gather_all.Goals as goal

pub loop-lock-preserved : goal.loop-lock-preserved
loop-lock-preserved g c =
    both_gathered g.B.Site.table c.args.first c.loop-lock.number c.in_ok-number.number c.args.passes.now c.loop-lock.passes c.gather.new.passes c.loop-lock.invariant c.in_ok-number.ensures
