use Rattle.std.proofs.Common.{◌≡◌, [], drop}
use Rattle.tp_json.specs.View.{items_view}
use Rattle.tp_scenario.specs.Values.{each}
use Rattle.tp_scenario.specs.Scripts.{client_at}
use Rattle.tp_scenario.proofs.scripts.each_client.Given as goal

abbrev pub invariant-loop-value : goal.invariant-loop-value
invariant-loop-value l = each (client_at l.txns) l.made (items_view (drop l.value-index l.values)) ≡ each (client_at l.txns) [] (items_view l.values)
