use Rattle.std.proofs.Common.{◌≡◌, [], drop, map}
use Rattle.tp_json.specs.View.{items_view}
use Rattle.tp_scenario.specs.Creds.{cred_in, cred_name}
use Rattle.tp_scenario.specs.Values.{each}
use Rattle.tp_scenario.proofs.creds.each_cred.Given as goal

abbrev pub invariant-loop-value : goal.invariant-loop-value
invariant-loop-value l = (l.names ≡ map cred_name l.made)
    × (each cred_in l.made (items_view (drop l.value-index l.values)) ≡ each cred_in [] (items_view l.values))
