use Rattle.std.proofs.Common.{◌≡◌, take}
use Rattle.tp_types.proofs.list.ListTryClone.try_clone.Given as goal

-- what is made so far equals the front of the list
abbrev pub invariant-loop-item : goal.invariant-loop-item
invariant-loop-item g l = l.made ≡ take l.item-index l.item-items
