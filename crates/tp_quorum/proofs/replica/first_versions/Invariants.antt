use Rattle.std.proofs.Common.{◌≡◌, replicate}
use Rattle.tp_quorum.specs.Replica.{first_version}
use Rattle.tp_quorum.proofs.replica.first_versions.Given as goal

-- there are so many versions so far
abbrev pub invariant-loop-admin : goal.invariant-loop-admin
invariant-loop-admin l = l.known ≡ replicate l._admin first_version
