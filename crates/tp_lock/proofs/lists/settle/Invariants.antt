use Rattle.std.proofs.Common.{◌≡◌, ◌++◌, [], take, drop}
use Rattle.tp_lock.specs.mirrors.Slots.{with_grants_from}
use Rattle.tp_lock.proofs.lists.settle.Given as goal

-- the slots before this one are settled, and the rest are as they were
abbrev pub invariant-loop-at : goal.invariant-loop-at
invariant-loop-at l = take l.at l.slots ++ with_grants_from (take l.at l.slots) (drop l.at l.slots) ≡ with_grants_from [] l.fn.slots
