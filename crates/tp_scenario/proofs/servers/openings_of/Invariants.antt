use Rattle.std.proofs.Common.{◌≡◌, map, take}
use Rattle.tp_scenario.specs.Servers.{opening}
use Rattle.tp_scenario.proofs.servers.openings_of.Given as goal

abbrev pub invariant-loop-admin : goal.invariant-loop-admin
invariant-loop-admin l = l.made ≡ map opening (take l.admin-index l.admins)
