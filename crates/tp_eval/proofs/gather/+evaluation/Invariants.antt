use Rattle.std.proofs.Common.{◌≡◌, drop, map}
use Rattle.tp_eval.specs.mirrors.Gathered.{takes}
use Rattle.tp_eval.specs.Uses.{uses_of_first}
use Rattle.tp_eval.proofs.OnceLemmas.{AllSoFar}
use Rattle.tp_eval.proofs.gather.+evaluation.Given as goal

abbrev pub invariant-gather_all-loop-member : goal.invariant-gather_all-loop-member
invariant-gather_all-loop-member l = AllSoFar l.held l.members l.initial.uses l.member-index l.uses

-- the members that are left decide, and nothing was added
abbrev pub invariant-gather_first-loop-member : goal.invariant-gather_first-loop-member
invariant-gather_first-loop-member l =
    (uses_of_first (map (takes l.held) (drop l.member-index l.members)) ≡ uses_of_first (map (takes l.held) l.members)) × (l.uses ≡ l.initial.uses)
