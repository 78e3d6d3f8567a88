use Rattle.std.proofs.Common.{◌≡◌, drop}
use Rattle.std.specs.List.{cons_option}
use Rattle.tp_device.specs.Memory.{with_blanks}
use Rattle.tp_device.proofs.memory.blank_all.Given as goal

-- what is still to be filled leads to what all of it does
abbrev pub invariant-loop-span : goal.invariant-loop-span
invariant-loop-span l = with_blanks l.fill l.content (drop l.span-index l.later) ≡ with_blanks l.fill l.fn.content (cons_option l.fn.first l.later)
