use Rattle.std.proofs.Common.{◌≡◌, [], drop}
use Rattle.tp_json.specs.View.{items_view}
use Rattle.tp_scenario.specs.Steps.{step_in}
use Rattle.tp_scenario.specs.Values.{each}
use Rattle.tp_scenario.proofs.steps.each_step.Given as goal

abbrev pub invariant-loop-value : goal.invariant-loop-value
invariant-loop-value l = each (step_in l.names) l.made (items_view (drop l.value-index l.values)) ≡ each (step_in l.names) [] (items_view l.values)
