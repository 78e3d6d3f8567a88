use Rattle.std.proofs.Common.{◌≡◌, take}
use Rattle.tp_types.proofs.policy.+cloning.Given as goal

-- what is made so far equals the front of the list
abbrev pub invariant-cloned-loop-member : goal.invariant-cloned-loop-member
invariant-cloned-loop-member l = l.made ≡ take l.member-index l.members
