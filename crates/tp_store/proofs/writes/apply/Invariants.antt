use Rattle.std.proofs.Common.{◌≡◌, drop}
use Rattle.tp_store.specs.Writes.{values_after}
use Rattle.tp_store.proofs.writes.apply.Given as goal

-- the writes that are left lead from here to where all of them lead
abbrev pub invariant-loop-write : goal.invariant-loop-write
invariant-loop-write l = values_after l.values (drop l.write-index l.writes) ≡ values_after l.initial.values l.writes
