use Rattle.std.proofs.Common.{◌≡◌, ◌++◌, drop, map}
use Rattle.tp_trace.specs.Seen.{value_in}
use Rattle.tp_trace.proofs.seen.values_of.Given as goal

-- the values so far, and those of the items that are left, are all
abbrev pub invariant-loop-item : goal.invariant-loop-item
invariant-loop-item l = l.made ++ map (value_in l.values) (drop l.item-index l.items) ≡ map (value_in l.values) l.items
