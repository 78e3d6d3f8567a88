use Rattle.std.proofs.Common.{◌≡◌, map, take}
use Rattle.tp_scenario.specs.Scripts.{versions_left}
use Rattle.tp_scenario.proofs.scripts.versions_left.Given as goal

abbrev pub invariant-loop-admin : goal.invariant-loop-admin
invariant-loop-admin l = l.left ≡ map versions_left (take l.admin-index l.admins)
