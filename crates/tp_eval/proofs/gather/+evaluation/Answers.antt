use Rattle.std.proofs.Common.{◌∙◌, sym}
use Rattle.tp_eval.proofs.OnceLemmas.{all_go_on}
use Rattle.tp_eval.proofs.gather.+evaluation.Goals as goal

pub gather_all-loop-member-preserved : goal.gather_all-loop-member-preserved
gather_all-loop-member-preserved t c =
    all_go_on c.args.held.now c.args.members.now c.args.uses.now c.loop-member.uses c.gather.new.uses c.loop-member.member-index c.member-item.result
    c.loop-member-test.true c.member-item.is (sym c.in_ok-gather.ensures.truth ∙ c.if-not-branch.false) c.in_ok-gather.ensures.added c.loop-member.invariant
