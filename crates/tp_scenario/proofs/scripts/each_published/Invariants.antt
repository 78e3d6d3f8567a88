use Rattle.std.proofs.Common.{◌≡◌, [], drop}
use Rattle.tp_json.specs.View.{items_view}
use Rattle.tp_scenario.specs.Values.{through}
use Rattle.tp_scenario.specs.Scripts.{publication_in}
use Rattle.tp_scenario.proofs.scripts.each_published.Given as goal

abbrev pub invariant-loop-value : goal.invariant-loop-value
invariant-loop-value l = through (publication_in l.names l.at) l.state (items_view (drop l.value-index l.values)) ≡ through (publication_in l.names l.at) (record { script = []; left = l.fn.left }) (items_view l.values)
