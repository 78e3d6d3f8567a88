use Rattle.std.proofs.Common.{◌≡◌, [], drop}
use Rattle.tp_json.specs.View.{items_view}
use Rattle.tp_scenario.specs.Values.{through}
use Rattle.tp_scenario.specs.Scripts.{publisher_at}
use Rattle.tp_scenario.proofs.scripts.each_publisher.Given as goal

abbrev pub invariant-loop-value : goal.invariant-loop-value
invariant-loop-value l = through (publisher_at l.names) l.state (items_view (drop l.value-index l.values)) ≡ through (publisher_at l.names) (record { scripts = []; left = l.fn.left }) (items_view l.values)
