use Rattle.std.proofs.Common.{◌≡◌, filter, map, take}
use Rattle.tp_round.specs.Judge.{is_missing, server_of_target}
use Rattle.tp_coord.specs.Row.{round_letter}
use Rattle.tp_coord.proofs.coordinator.Coordinator.round_letters.Given as goal

-- the awaited servers so far have their letters
abbrev pub invariant-loop-target : goal.invariant-loop-target
invariant-loop-target l =
    l.letters ≡ map (round_letter l.self l.span l.turn l.round l.staple) (map server_of_target (filter is_missing (take l.target-index l.round.targets)))
