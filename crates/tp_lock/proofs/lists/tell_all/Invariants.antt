use Rattle.std.proofs.Common.{◌≡◌, ◌++◌, take, drop, map}
use Rattle.tp_lock.specs.mirrors.Slots.{as_told}
use Rattle.tp_lock.proofs.lists.tell_all.Given as goal

-- the slots before this one are told, and the rest are as they were
abbrev pub invariant-loop-at : goal.invariant-loop-at
invariant-loop-at l = l.slots ≡ map as_told (take l.at l.fn.slots) ++ drop l.at l.fn.slots
