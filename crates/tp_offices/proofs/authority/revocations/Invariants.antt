use Rattle.std.proofs.Common.{◌≡◌, ◌++◌, drop}
use Rattle.tp_offices.specs.Authority.{revocations}
use Rattle.tp_offices.proofs.authority.revocations.Given as goal

-- those so far, and those of the places that are left, are all
abbrev pub invariant-loop-place : goal.invariant-loop-place
invariant-loop-place l = l.creds ++ revocations (drop l.place-index l.places) ≡ revocations l.places
