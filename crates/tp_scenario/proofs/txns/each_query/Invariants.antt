use Rattle.std.proofs.Common.{◌≡◌, [], drop}
use Rattle.tp_json.specs.View.{items_view}
use Rattle.tp_scenario.specs.Txns.{query_in}
use Rattle.tp_scenario.specs.Values.{each}
use Rattle.tp_scenario.proofs.txns.each_query.Given as goal

abbrev pub invariant-loop-value : goal.invariant-loop-value
invariant-loop-value l = each (query_in l.items l.at) l.made (items_view (drop l.value-index l.values)) ≡ each (query_in l.items l.at) [] (items_view l.values)
