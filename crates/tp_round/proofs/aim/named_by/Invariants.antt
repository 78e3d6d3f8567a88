use Rattle.std.proofs.Common.{◌≡◌, take}
use Rattle.tp_round.specs.Judge.{wants_of}
use Rattle.tp_round.proofs.aim.named_by.Given as goal

abbrev pub invariant-loop-target : goal.invariant-loop-target
invariant-loop-target l = l.named ≡ wants_of l.aim (take l.target-index l.targets)
