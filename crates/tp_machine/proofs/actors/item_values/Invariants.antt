use Rattle.std.proofs.Common.{◌≡◌, ◌++◌, drop}
use Rattle.tp_machine.specs.Machine.{item_values}
use Rattle.tp_machine.proofs.actors.item_values.Given as goal

-- the values so far, and those of the items that are left, are all values
abbrev pub invariant-loop-at : goal.invariant-loop-at
invariant-loop-at l = l.values ++ item_values l.scenario l.servers l.at (drop l.at l.items) ≡ item_values l.scenario l.servers 0 l.items
