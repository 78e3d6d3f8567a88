use Rattle.std.proofs.Common.{◌≡◌, ◌-◌, ◌≤◌, max}
use Rattle.tp_scenario.specs.Servers.{ids_from}
use Rattle.tp_scenario.proofs.servers.numbered.Given as goal

abbrev pub invariant-loop-number : goal.invariant-loop-number
invariant-loop-number l = (l.ids ≡ ids_from l.first (l.number - l.first)) × (l.number ≤ max l.first l.end)
