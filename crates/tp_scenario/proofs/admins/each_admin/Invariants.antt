use Rattle.std.proofs.Common.{◌≡◌, [], drop, map}
use Rattle.tp_json.specs.View.{items_view}
use Rattle.tp_scenario.specs.Admins.{admin_in, admin_name}
use Rattle.tp_scenario.specs.Values.{each}
use Rattle.tp_scenario.proofs.admins.each_admin.Given as goal

abbrev pub invariant-loop-value : goal.invariant-loop-value
invariant-loop-value l = (l.names ≡ map admin_name l.made)
    × (each admin_in l.made (items_view (drop l.value-index l.values)) ≡ each admin_in [] (items_view l.values))
