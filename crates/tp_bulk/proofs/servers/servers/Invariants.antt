use Rattle.std.proofs.Common.{◌≡◌, map}
use Rattle.std.specs.List.{range_with_len}
use Rattle.tp_bulk.specs.Bulk.{server_at}
use Rattle.tp_bulk.proofs.servers.servers.Given as goal

abbrev pub invariant-loop-number : goal.invariant-loop-number
invariant-loop-number l = l.servers ≡ map server_at (range_with_len 0 l.number)
