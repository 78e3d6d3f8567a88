use Rattle.std.proofs.Common.{◌≡◌, drop, fold}
use Rattle.tp_coord.specs.Sums.{add_clamped, clamped_sum}
use Rattle.tp_coord.proofs.sums.clamped_sum.Given as goal

-- the terms that are left, added to the sum so far
abbrev pub invariant-loop-term : goal.invariant-loop-term
invariant-loop-term l = fold (add_clamped l.registers) l.total (drop l.term-index l.expr) ≡ clamped_sum l.registers l.expr
