use Rattle.std.proofs.Common.{◌∙◌, refl, sym}
use Rattle.tp_model.specs.Words.actor
use Rattle.tp_model.specs.Words.step
use Rattle.tp_cluster.specs.Offices.Held.{OfMaster}
use Rattle.tp_cluster.specs.Runs.{state_at}
use Rattle.tp_cluster.proofs.MeetingLemmas.{held_later, kept_is}
use Rattle.tp_cluster.proofs.StepLemmas.{push_by}
use Rattle.tp_cluster.proofs.master.push.Goals as goal

pub meet-requires-clause-kept : goal.meet-requires-clause-kept
meet-requires-clause-kept g c =
    let kept = kept_is g.B.Site.about.scenario g.B.Site.table c.office.inside.actor (OfMaster c.office.inside.state) c.office.inside.pass c.in-Some.kept c.office.invariant.1 c.in-Some.ensures.value in
    (kept.site, kept.live)

pub finish-left-requires-clause-may : goal.finish-left-requires-clause-may
finish-left-requires-clause-may g c =
    let sc = g.B.Site.about.scenario in
    let who = c.office.inside.actor in
    let held = OfMaster c.office.inside.state in
    let v = c.args.pass.now.view in
    let met = c.meet.new.pass in
    let m = c.meet.ensures.met who held (kept_is g.B.Site.about.scenario g.B.Site.table who held c.office.inside.pass c.in-Some.kept c.office.invariant.1 c.in-Some.ensures.value) in
    record {
      held = held;
      view = v;
      met_is = m;
      may = λ log f. push_by sc (state_at sc log) who c.office.inside.state c.args.admin c.args.server c.in-Ok.act (held_later sc g.B.Site.table who held v met m log f) c.requires.exists c.in-Ok.ensures.0 c.in-Ok.ensures.1;
    }

pub returns-in-Ok-clause-answer : goal.returns-in-Ok-clause-answer
returns-in-Ok-clause-answer g c =
    let who = c.office.inside.actor in
    let held = OfMaster c.office.inside.state in
    c.finish-left.ensures.answer c.args.pass.now held c.requires.ready (c.meet.ensures.met who held (kept_is g.B.Site.about.scenario g.B.Site.table who held c.office.inside.pass c.in-Some.kept c.office.invariant.1 c.in-Some.ensures.value))
