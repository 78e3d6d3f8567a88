use Rattle.std.proofs.Common.{◌∙◌, sym}
use Rattle.tp_why.specs.mirrors.Said.{said_by}
use Rattle.tp_why.proofs.CutLemmas.{all_go_on}
use Rattle.tp_why.proofs.cut.+cutting.Goals as goal

pub cut_all-loop-member-preserved : goal.cut_all-loop-member-preserved
cut_all-loop-member-preserved t c =
    all_go_on (said_by c.args.judged.now.held.now) c.args.judged.now.number c.args.members.now c.args.found.now c.loop-member.found c.cut.new.found c.loop-member.member-index c.member-item.result
    c.loop-member-test.true c.member-item.is (sym c.in_ok-cut.ensures.truth ∙ c.if-not-branch.false) c.in_ok-cut.ensures.added c.loop-member.invariant
