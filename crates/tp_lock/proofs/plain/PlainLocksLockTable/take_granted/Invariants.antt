use Rattle.std.proofs.Common.{◌≡◌}
use Rattle.tp_lock.specs.mirrors.Kept.{AreKept}
use Rattle.tp_lock.proofs.plain.PlainLocksLockTable.take_granted.Given as goal

-- the lists are as they were, and none but those of the items from this one on has a grant
abbrev pub invariant-loop-at : goal.invariant-loop-at
invariant-loop-at l =
    (l.self-inside.lists.items ≡ l.initial.self-inside.lists.items) × (l.self-inside.touched ≡ l.initial.self-inside.touched)
    × AreKept l.self-inside.lists.items l.self-inside.owned.items l.self-inside.touched l.at
