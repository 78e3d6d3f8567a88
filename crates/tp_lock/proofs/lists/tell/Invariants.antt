use Rattle.std.proofs.Common.{◌≡◌}
use Rattle.tp_lock.proofs.SlotLemmas.{IsToldBefore}
use Rattle.tp_lock.proofs.lists.tell.Given as goal

abbrev pub invariant-loop-at : goal.invariant-loop-at
invariant-loop-at l = (l.slots ≡ l.initial.slots) × IsToldBefore l.slots l.at
