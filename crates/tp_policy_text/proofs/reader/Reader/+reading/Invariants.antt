use Rattle.std.proofs.Common.{◌≡◌, codes, ◌+◌, ◌-◌, ◌*◌}
use Rattle.tp_policy_text.specs.mirrors.Readers.{conj_at, inner_at, joined_at, part_at}
use Rattle.tp_policy_text.proofs.Productions.{with_front}
use Rattle.tp_policy_text.proofs.reader.Reader.+reading.Given as goal

abbrev pub decreases-cond : goal.decreases-cond
decreases-cond l = l.depth * 5 + 4

abbrev pub decreases-conjs : goal.decreases-conjs
decreases-conjs l = l.depth * 5 + 3

abbrev pub decreases-conj : goal.decreases-conj
decreases-conj l = l.depth * 5 + 2

abbrev pub decreases-parts : goal.decreases-parts
decreases-parts l = l.depth * 5 + 1

abbrev pub decreases-part : goal.decreases-part
decreases-part l = l.depth * 5

-- the members so far, and those that are still read
abbrev pub invariant-conjs-loop-turn : goal.invariant-conjs-loop-turn
invariant-conjs-loop-turn l =
    with_front l.members (joined_at (l.fuel - l._turn) 111 (codes "or") (conj_at l.fuel l.depth (inner_at l.fuel l.depth)) l.self.rest.now)
    ≡ joined_at l.fuel 111 (codes "or") (conj_at l.fuel l.depth (inner_at l.fuel l.depth)) l.initial.self.rest.now

abbrev pub invariant-parts-loop-turn : goal.invariant-parts-loop-turn
invariant-parts-loop-turn l =
    with_front l.members (joined_at (l.fuel - l._turn) 97 (codes "and") (part_at l.depth (inner_at l.fuel l.depth)) l.self.rest.now)
    ≡ joined_at l.fuel 97 (codes "and") (part_at l.depth (inner_at l.fuel l.depth)) l.initial.self.rest.now
