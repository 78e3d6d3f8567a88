use Rattle.std.proofs.Common.{◌≡◌, [], drop, map}
use Rattle.tp_json.specs.View.{items_view}
use Rattle.tp_scenario.specs.Txns.{txn_in, txn_name}
use Rattle.tp_scenario.specs.Values.{each}
use Rattle.tp_scenario.proofs.txns.each_txn.Given as goal

abbrev pub invariant-loop-value : goal.invariant-loop-value
invariant-loop-value l = (l.names ≡ record l.initial.names { txns = map txn_name l.made })
    × (each (txn_in l.initial.names) l.made (items_view (drop l.value-index l.values)) ≡ each (txn_in l.initial.names) [] (items_view l.values))
