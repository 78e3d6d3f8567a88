use Rattle.std.proofs.Common.{sym}
use Rattle.tp_model.specs.Words.step
use Rattle.tp_cluster.proofs.AnswerLemmas.{answer_since, missing_answer, still_ready}
use Rattle.tp_cluster.proofs.cluster.Cluster.delivers.Goals as goal

pub receives-requires-clause-ready : goal.receives-requires-clause-ready
receives-requires-clause-ready g c =
    still_ready g.B.Site.about.scenario g.B.Site.table c.args.pass.now c.mail.new.pass c.requires c.mail.ensures.table c.in-Ok-Found.ensures.live c.in-Ok-Found.ensures.parts.parts_are

pub returns-in-Ok-Found-clause-answer : goal.returns-in-Ok-Found-clause-answer
returns-in-Ok-Found-clause-answer g c =
    answer_since g.B.Site.about.scenario g.B.Site.table c.args.pass.now c.mail.new.pass c.receives.new.pass (step.Deliver c.args.number) c.receives.result c.requires c.in-Ok-Found.ensures.seen c.in-Ok-Found.ensures.parts
    c.receives.ensures.answer

pub returns-in-Ok-Missing-clause-answer : goal.returns-in-Ok-Missing-clause-answer
returns-in-Ok-Missing-clause-answer g c =
    let e = c.in-Ok-Missing.ensures in
    missing_answer g.B.Site.about.scenario g.B.Site.table c.args.pass.now c.mail.new.pass c.args.number c.in-Ok-Missing.mails c.in-Ok-Missing.field-0 c.requires e.live e.seen e.parts e.ok c.in-Ok-Missing.field-0-is
