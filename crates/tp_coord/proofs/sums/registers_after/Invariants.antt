use Rattle.std.proofs.Common.{◌≡◌}
use Rattle.tp_coord.specs.Sums.{registers_after, registers_from}
use Rattle.tp_coord.proofs.sums.registers_after.Given as goal

-- the queries and deeds that are left go on from the registers so far
abbrev pub invariant-loop-query : goal.invariant-loop-query
invariant-loop-query l =
    registers_from l.query-iterator.a.rest.now l.query-iterator.b.rest.now l.registers ≡ registers_after l.txn l.deeds
