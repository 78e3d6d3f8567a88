use Rattle.std.proofs.Common.{◌≡◌, drop}
use Rattle.tp_scheme.specs.Gathered.{older}
use Rattle.tp_scheme.proofs.gathered.first_older.Given as goal

-- no proof before this one is older
abbrev pub invariant-loop-proof : goal.invariant-loop-proof
invariant-loop-proof l =
    older l.levels (drop l.proof-index l.proofs) l.reading ≡ older l.levels l.proofs l.reading
