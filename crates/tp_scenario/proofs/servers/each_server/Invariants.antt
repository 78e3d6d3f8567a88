use Rattle.std.proofs.Common.{◌≡◌, drop, map}
use Rattle.tp_json.specs.View.{items_view}
use Rattle.tp_scenario.specs.Values.{through}
use Rattle.tp_scenario.specs.Servers.{server_in, server_name, item_name, nothing_served}
use Rattle.tp_scenario.proofs.servers.each_server.Given as goal

abbrev pub invariant-loop-value : goal.invariant-loop-value
invariant-loop-value l = (l.names ≡ record l.initial.names { servers = map server_name l.served.servers; items = map item_name l.served.items })
    × (through (server_in l.admins) l.served (items_view (drop l.value-index l.values)) ≡ through (server_in l.admins) nothing_served (items_view l.values))
