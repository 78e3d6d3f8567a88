use Rattle.std.proofs.Common.{◌≡◌, ◌+◌, ◌-◌, length, take}
use Rattle.tp_pending.proofs.pending.Pending.cut.Given as goal

-- so many are left as the turns that are left say
abbrev pub invariant-loop-left : goal.invariant-loop-left
invariant-loop-left l = l.self ≡ take ((length l.initial.self + l.count) - l._left) l.initial.self
