use Rattle.std.proofs.Common.{◌≡◌, drop}
use Rattle.tp_json.specs.View.{items_view}
use Rattle.tp_scenario.specs.Txns.{credential_in}
use Rattle.tp_scenario.specs.Values.{each}
use Rattle.tp_scenario.specs.mirrors.Places.{creds_at}
use Rattle.tp_scenario.proofs.txns.each_presented.Given as goal

-- those made are the noted ones
abbrev pub invariant-loop-value : goal.invariant-loop-value
invariant-loop-value l = (l.made ≡ creds_at l.seen.keys)
    × (each (credential_in l.creds l.at) l.made (items_view (drop l.value-index l.values)) ≡ each (credential_in l.creds l.at) l.initial.made (items_view l.values))
