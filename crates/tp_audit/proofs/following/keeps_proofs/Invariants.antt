use Rattle.std.proofs.Common.{◌≡◌, drop}
use Rattle.tp_audit.proofs.FollowingLemmas.{begins_with}
use Rattle.tp_audit.proofs.following.keeps_proofs.Given as goal

-- the proofs that are left decide
abbrev pub invariant-loop-at : goal.invariant-loop-at
invariant-loop-at l =
    begins_with (drop l.at l.proofs) (drop l.at l.next) ≡ begins_with l.proofs l.next
