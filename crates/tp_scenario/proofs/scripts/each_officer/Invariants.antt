use Rattle.std.proofs.Common.{◌≡◌, [], drop}
use Rattle.tp_json.specs.View.{items_view}
use Rattle.tp_scenario.specs.Values.{each}
use Rattle.tp_scenario.specs.Scripts.{officer_at}
use Rattle.tp_scenario.proofs.scripts.each_officer.Given as goal

abbrev pub invariant-loop-value : goal.invariant-loop-value
invariant-loop-value l = each (officer_at l.names) l.made (items_view (drop l.value-index l.values)) ≡ each (officer_at l.names) [] (items_view l.values)
