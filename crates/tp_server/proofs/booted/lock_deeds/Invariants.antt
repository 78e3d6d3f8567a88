use Rattle.std.proofs.Common.{◌≡◌, drop}
use Rattle.tp_server.specs.Booted.{with_deeds_locked}
use Rattle.tp_server.proofs.booted.lock_deeds.Given as goal

-- the deeds that are left lead from here to where all of them lead
abbrev pub invariant-loop-deed : goal.invariant-loop-deed
invariant-loop-deed g l =
    with_deeds_locked l.vote.txn l.vote.age (drop l.deed-index l.vote.deeds) (g.L.LockTable.table l.locks)
    ≡ with_deeds_locked l.vote.txn l.vote.age l.vote.deeds (g.L.LockTable.table l.initial.locks)
