use Rattle.std.proofs.Common.{◌≡◌, drop}
use Rattle.tp_lock.specs.mirrors.Kept.{at_each}
use Rattle.tp_lock.specs.mirrors.Slots.{all_told}
use Rattle.tp_lock.proofs.lists.forget_each.Given as goal

-- what is left of the items gives the result
abbrev pub invariant-loop-at : goal.invariant-loop-at
invariant-loop-at l = at_each all_told (drop l.at l.items) l.lists.items ≡ at_each all_told (drop l.from l.items) l.initial.lists.items
