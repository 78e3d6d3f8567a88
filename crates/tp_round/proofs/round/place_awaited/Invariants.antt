use Rattle.std.proofs.Common.{◌≡◌, ◌+◌, drop}
use Rattle.tp_round.specs.mirrors.Places.{place_awaited}
use Rattle.tp_round.proofs.round.place_awaited.Given as goal

-- those before are not awaited
abbrev pub invariant-loop-at : goal.invariant-loop-at
invariant-loop-at l = l.at + place_awaited (drop l.at l.targets) l.server ≡ place_awaited l.targets l.server
