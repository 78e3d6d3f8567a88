use Rattle.std.proofs.Common.{◌≡◌, drop}
use Rattle.tp_scheme.specs.Gathered.{pin_of}
use Rattle.tp_scheme.proofs.gathered.Gathered.pin_of.Given as goal

-- no proof before this one is of the administrator
abbrev pub invariant-loop-proof : goal.invariant-loop-proof
invariant-loop-proof l = pin_of (drop l.proof-index l.proof-items) l.admin ≡ pin_of l.self.proofs l.admin
