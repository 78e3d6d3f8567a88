use Rattle.std.proofs.Common.{◌≡◌, drop}
use Rattle.tp_server.specs.Booted.{with_prepared_locked}
use Rattle.tp_server.proofs.booted.lock_prepared.Given as goal

-- the votes that are left lead from here to where all of them lead
abbrev pub invariant-loop-vote : goal.invariant-loop-vote
invariant-loop-vote g l =
    with_prepared_locked (drop l.vote-index l.prepared) (g.L.LockTable.table l.locks)
    ≡ with_prepared_locked l.prepared (g.L.LockTable.table l.initial.locks)
