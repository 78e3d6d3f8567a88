use Rattle.std.proofs.Common.{◌≡◌, map, take}
use Rattle.tp_round.specs.Judge.{new_target}
use Rattle.tp_round.proofs.round.awaited.Given as goal

abbrev pub invariant-loop-server : goal.invariant-loop-server
invariant-loop-server l = l.made ≡ map new_target (take l.server-index l.servers)
