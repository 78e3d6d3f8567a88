use Rattle.std.proofs.Common.{◌≡◌, ◌≤◌, drop, map, length}
use Rattle.tp_json.specs.View.{items_view}
use Rattle.tp_scenario.specs.Values.{each}
use Rattle.tp_scenario.specs.Servers.{item_in, item_name}
use Rattle.tp_scenario.proofs.servers.each_item.Given as goal

abbrev pub invariant-loop-value : goal.invariant-loop-value
invariant-loop-value l = (l.before ≤ length l.made) × (l.names ≡ map item_name l.made)
    × (each (item_in l.admins l.server l.before) l.made (items_view (drop l.value-index l.values)) ≡ each (item_in l.admins l.server l.before) l.initial.made (items_view l.values))
