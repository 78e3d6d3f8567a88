use Rattle.std.proofs.Common.{◌≡◌, drop}
use Rattle.tp_server.specs.Booted.{with_deeds_kept}
use Rattle.tp_server.proofs.booted.keep_deeds.Given as goal

-- the deeds that are left lead from here to where all of them lead
abbrev pub invariant-loop-deed : goal.invariant-loop-deed
invariant-loop-deed l =
    with_deeds_kept l.store l.vote.txn (drop l.deed-index l.vote.deeds) ≡ with_deeds_kept l.initial.store l.vote.txn l.vote.deeds
