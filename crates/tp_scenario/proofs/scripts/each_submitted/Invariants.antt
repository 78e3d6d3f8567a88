use Rattle.std.proofs.Common.{◌≡◌, [], drop}
use Rattle.tp_json.specs.View.{items_view}
use Rattle.tp_scenario.specs.Values.{each}
use Rattle.tp_scenario.specs.Scripts.{submission_in}
use Rattle.tp_scenario.proofs.scripts.each_submitted.Given as goal

abbrev pub invariant-loop-value : goal.invariant-loop-value
invariant-loop-value l = each (submission_in l.txns l.earlier) l.made (items_view (drop l.value-index l.values)) ≡ each (submission_in l.txns l.earlier) [] (items_view l.values)
