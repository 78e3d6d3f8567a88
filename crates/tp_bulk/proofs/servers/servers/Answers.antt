use Rattle.std.proofs.Common.{rules, arith}
use Rattle.std.proofs.lemmas.List.FromFn.{map-range_with_len_more}
use Rattle.tp_bulk.specs.Bulk.{server_at}
use Rattle.tp_bulk.proofs.servers.servers.Goals as goal

pub loop-number-preserved : goal.loop-number-preserved
loop-number-preserved c = let more = map-range_with_len_more server_at 0 c.loop-number.number c.loop-number.number (omega arith) in search (rules, more)
