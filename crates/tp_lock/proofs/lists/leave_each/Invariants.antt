use Rattle.std.proofs.Common.{◌≡◌, drop}
use Rattle.tp_lock.specs.mirrors.Kept.{at_each}
use Rattle.tp_lock.specs.mirrors.Slots.{left_by}
use Rattle.tp_lock.proofs.lists.leave_each.Given as goal

-- what is left of the items gives the result
abbrev pub invariant-loop-item : goal.invariant-loop-item
invariant-loop-item l = at_each (left_by l.owner) (drop l.item-index l.items) l.lists.items ≡ at_each (left_by l.owner) l.items l.initial.lists.items
