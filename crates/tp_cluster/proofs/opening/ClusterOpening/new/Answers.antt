use Rattle.std.proofs.Common.{◌∙◌}
use Rattle.tp_cluster.proofs.OpeningLemmas.{is_plan}
use Rattle.tp_cluster.proofs.opening.ClusterOpening.new.Goals as goal

pub invariant_of-result : goal.invariant_of-result
invariant_of-result c = (
  c.in_ok-wire.ensures,
  is_plan c.args.scenario.now c.in_ok-try_clone.field-0 c.args.callers c.in_ok-try_clone.ensures
      (record { valid = c.requires.valid; fit = c.requires.fit; some = c.requires.some; few = c.requires.few }),
)
