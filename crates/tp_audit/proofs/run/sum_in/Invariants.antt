use Rattle.std.proofs.Common.{◌≡◌, drop, fold}
use Rattle.tp_model.specs.SerialRun.{add_term, sum_in}
use Rattle.tp_audit.proofs.run.sum_in.Given as goal

-- the terms that are left, added to the sum so far
abbrev pub invariant-loop-term : goal.invariant-loop-term
invariant-loop-term l = fold (add_term l.registers) l.total (drop l.term-index l.expr) ≡ sum_in l.registers l.expr
