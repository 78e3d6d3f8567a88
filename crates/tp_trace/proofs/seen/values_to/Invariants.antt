use Rattle.std.proofs.Common.{◌≡◌, ◌++◌, drop, map}
use Rattle.tp_store.specs.Rule.{read_in}
use Rattle.tp_trace.proofs.seen.values_to.Given as goal

-- the values so far, and those of the items that are left, are all
abbrev pub invariant-loop-item : goal.invariant-loop-item
invariant-loop-item l = l.made ++ map (read_in l.store l.txn) (drop l.item-index l.items) ≡ map (read_in l.store l.txn) l.items
