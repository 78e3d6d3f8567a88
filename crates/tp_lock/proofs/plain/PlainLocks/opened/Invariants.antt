use Rattle.std.proofs.Common.{◌≡◌, [], replicate}
use Rattle.tp_lock.proofs.plain.PlainLocks.opened.Given as goal

abbrev pub invariant-loop-item : goal.invariant-loop-item
invariant-loop-item l = l.lists.items ≡ replicate l._item []
