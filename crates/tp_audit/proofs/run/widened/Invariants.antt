use Rattle.std.proofs.Common.{◌≡◌, take}
use Rattle.tp_audit.proofs.run.widened.Given as goal

-- the numbers so far
abbrev pub invariant-loop-number : goal.invariant-loop-number
invariant-loop-number l = l.made ≡ take l.number-index l.numbers
