use Rattle.std.proofs.Common.{◌∙◌}
use Rattle.tp_cluster.proofs.MeetingLemmas.{meets}
use Rattle.tp_cluster.proofs.meeting.meet.Goals as goal

pub returns-clause-met : goal.returns-clause-met
returns-clause-met g c = λ who held office.
    meets _ _ who held _ c.args.pass.now c.args.kept c.take_in.new.pass c.look.new.pass c.requires.ready office c.take_in.ensures.view
    (c.look.ensures.same.0 ∙ (c.take_in.ensures.same.0 ∙ c.requires.ready.site)) (c.look.ensures.same.1 ∙ c.take_in.ensures.same.1) c.look.ensures.look
