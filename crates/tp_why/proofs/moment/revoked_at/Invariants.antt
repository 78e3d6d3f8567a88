use Rattle.std.proofs.Common.{◌≡◌, drop}
use Rattle.tp_why.specs.mirrors.Moments.{marked}
use Rattle.tp_why.proofs.moment.revoked_at.Given as goal

-- the facts that are left mark the rest
abbrev pub invariant-loop-fact : goal.invariant-loop-fact
invariant-loop-fact l = marked l.place (drop l.fact-index l.facts) l.revoked ≡ marked l.place l.facts l.initial.revoked
