use Rattle.std.proofs.Common.{◌≡◌, ◌++◌, drop, map, take}
use Rattle.tp_round.specs.Judge.{next_target}
use Rattle.tp_round.proofs.aim.renew.Given as goal

-- those before are renewed
abbrev pub invariant-loop-at : goal.invariant-loop-at
invariant-loop-at l = l.targets ≡ map (next_target l.aim) (take l.at l.initial.targets) ++ drop l.at l.initial.targets
