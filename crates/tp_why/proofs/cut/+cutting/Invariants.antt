use Rattle.std.proofs.Common.{◌≡◌, drop, map}
use Rattle.tp_why.specs.Refutation.{cut, first_cut}
use Rattle.tp_why.specs.mirrors.Said.{said_by}
use Rattle.tp_why.proofs.CutLemmas.{AllSoFar}
use Rattle.tp_why.proofs.cut.+cutting.Given as goal

-- the members that are left decide, and nothing was added
abbrev pub invariant-cut_first-loop-member : goal.invariant-cut_first-loop-member
invariant-cut_first-loop-member l =
    (first_cut (map (cut (said_by l.judged.held.now)) (drop l.member-index l.members)) ≡ first_cut (map (cut (said_by l.judged.held.now)) l.members)) × (l.found ≡ l.initial.found)

abbrev pub invariant-cut_all-loop-member : goal.invariant-cut_all-loop-member
invariant-cut_all-loop-member l = AllSoFar (said_by l.judged.held.now) l.judged.number l.members l.initial.found l.member-index l.found
