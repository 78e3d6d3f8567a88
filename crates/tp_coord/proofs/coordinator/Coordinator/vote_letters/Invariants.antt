use Rattle.std.proofs.Common.{◌≡◌, map, take}
use Rattle.tp_coord.specs.Row.{vote_letter}
use Rattle.tp_coord.proofs.coordinator.Coordinator.vote_letters.Given as goal

-- the servers so far have their letters
abbrev pub invariant-loop-server : goal.invariant-loop-server
invariant-loop-server l = l.letters ≡ map (vote_letter l.self l.turn) (take l.server-index l.servers)
