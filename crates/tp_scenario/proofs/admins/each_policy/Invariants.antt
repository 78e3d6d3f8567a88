use Rattle.std.proofs.Common.{◌≡◌, [], length, drop}
use Rattle.tp_json.specs.View.{items_view}
use Rattle.tp_scenario.specs.Admins.{policy_in}
use Rattle.tp_scenario.specs.Values.{each}
use Rattle.tp_scenario.proofs.admins.each_policy.Given as goal

abbrev pub invariant-loop-value : goal.invariant-loop-value
invariant-loop-value l = (length l.made ≡ l.value-index)
    × (each (policy_in l.at) l.made (items_view (drop l.value-index l.values)) ≡ each (policy_in l.at) [] (items_view l.values))
