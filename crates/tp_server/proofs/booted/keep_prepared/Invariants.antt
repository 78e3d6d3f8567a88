use Rattle.std.proofs.Common.{◌≡◌, drop}
use Rattle.tp_server.specs.Booted.{with_prepared_kept}
use Rattle.tp_server.proofs.booted.keep_prepared.Given as goal

-- the places that are left lead from here to where all of them lead
abbrev pub invariant-loop-place : goal.invariant-loop-place
invariant-loop-place l =
    with_prepared_kept l.store (drop l.place-index l.table) ≡ with_prepared_kept l.initial.store l.table
