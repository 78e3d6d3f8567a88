use Rattle.std.proofs.Common.{◌≡◌, map, take}
use Rattle.tp_race.specs.Callers.{submissions}
use Rattle.tp_race.proofs.scripts.scripts_of.Given as goal

-- the clients so far have their scripts
abbrev pub invariant-loop-client : goal.invariant-loop-client
invariant-loop-client l = l.made ≡ map submissions (take l.client-index l.client-items)
