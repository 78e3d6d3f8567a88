use Rattle.std.proofs.Common.{◌≡◌, filter, take}
use Rattle.tp_round.specs.Judge.{is_proved_by}
use Rattle.tp_round.proofs.aim.wanted.Given as goal

abbrev pub invariant-loop-aimed : goal.invariant-loop-aimed
invariant-loop-aimed l = l.want ≡ filter (is_proved_by l.target) (take l.aimed-index l.aim)
