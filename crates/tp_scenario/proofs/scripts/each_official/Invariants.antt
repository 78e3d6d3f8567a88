use Rattle.std.proofs.Common.{◌≡◌, [], drop}
use Rattle.tp_json.specs.View.{items_view}
use Rattle.tp_scenario.specs.Values.{each}
use Rattle.tp_scenario.specs.Scripts.{official_step_in}
use Rattle.tp_scenario.proofs.scripts.each_official.Given as goal

abbrev pub invariant-loop-value : goal.invariant-loop-value
invariant-loop-value l = each (official_step_in l.names l.at) l.made (items_view (drop l.value-index l.values)) ≡ each (official_step_in l.names l.at) [] (items_view l.values)
