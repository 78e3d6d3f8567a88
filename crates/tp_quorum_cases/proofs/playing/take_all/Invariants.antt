use Rattle.std.proofs.Common.{◌≡◌}
use Rattle.tp_quorum_cases.proofs.playing.take_all.Given as goal

-- there are as many as were told
abbrev pub invariant-loop-number : goal.invariant-loop-number
invariant-loop-number l = l.quorum.sizes ≡ l.fn.sizes
