use Rattle.std.proofs.Common.{◌≡◌, ◌++◌, drop, map}
use Rattle.tp_trace.specs.Seen.{entries_in}
use Rattle.tp_trace.proofs.seen.locks_of.Given as goal

-- the lists so far, and those of the items that are left, are all
abbrev pub invariant-loop-item : goal.invariant-loop-item
invariant-loop-item l = l.made ++ map (entries_in l.table) (drop l.item-index l.items) ≡ map (entries_in l.table) l.items
