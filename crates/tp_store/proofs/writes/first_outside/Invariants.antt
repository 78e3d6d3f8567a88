use Rattle.std.proofs.Common.{◌≡◌, None, drop, filter}
use Rattle.tp_store.specs.Writes.{first_from, is_outside}
use Rattle.tp_store.proofs.writes.first_outside.Given as goal

-- from the first so far the writes that are left lead to the first of all
abbrev pub invariant-loop-write : goal.invariant-loop-write
invariant-loop-write l =
    first_from l.first (filter (is_outside l.bounds) (drop l.write-index l.writes)) ≡ first_from None (filter (is_outside l.bounds) l.writes)
