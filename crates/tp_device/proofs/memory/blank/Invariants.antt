use Rattle.std.proofs.Common.{◌≡◌, ◌-◌, ◌++◌, take, drop}
use Rattle.std.specs.Prelude.{replicate}
use Rattle.tp_device.proofs.memory.blank.Given as goal

-- the bytes of the range so far are filled
abbrev pub invariant-loop-i : goal.invariant-loop-i
invariant-loop-i l = l.content ≡ take l.from l.initial.content ++ (replicate (l.i - l.from) l.fill ++ drop l.i l.initial.content)
