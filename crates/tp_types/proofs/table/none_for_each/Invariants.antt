use Rattle.std.proofs.Common.{◌≡◌, None, replicate}
use Rattle.tp_types.proofs.table.none_for_each.Given as goal

-- there are so many empty places so far
abbrev pub invariant-loop-place : goal.invariant-loop-place
invariant-loop-place g l = l.made ≡ replicate l._place None
