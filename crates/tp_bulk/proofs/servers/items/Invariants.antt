use Rattle.std.proofs.Common.{◌≡◌, map}
use Rattle.std.specs.List.{range_with_len}
use Rattle.tp_bulk.specs.Bulk.{item_at}
use Rattle.tp_bulk.proofs.servers.items.Given as goal

abbrev pub invariant-loop-number : goal.invariant-loop-number
invariant-loop-number l = l.items ≡ map item_at (range_with_len 0 l.number)
