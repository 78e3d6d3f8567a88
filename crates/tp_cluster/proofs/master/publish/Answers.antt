use Rattle.std.proofs.Common.{ap, sym}
use Rattle.tp_machine.specs.declared.part.Act.{Act}
use Rattle.tp_model.specs.Words.step
use Rattle.tp_cluster.specs.Offices.Held.{OfMaster}
use Rattle.tp_cluster.specs.Runs.{state_at}
use Rattle.tp_cluster.proofs.MeetingLemmas.{held_later, kept_is}
use Rattle.tp_cluster.proofs.StepLemmas.{publish_by, publish_refused_by}
use Rattle.tp_cluster.proofs.master.publish.Goals as goal

pub meet-requires-clause-kept : goal.meet-requires-clause-kept
meet-requires-clause-kept g c =
    let kept = kept_is g.B.Site.about.scenario g.B.Site.table c.office.inside.actor (OfMaster c.office.inside.state) c.office.inside.pass c.in-Some.kept c.office.invariant.1 c.in-Some.ensures.value in
    (kept.site, kept.live)

pub refuse-left-requires-clause-met : goal.refuse-left-requires-clause-met
refuse-left-requires-clause-met g c =
    let who = c.office.inside.actor in
    let held = OfMaster c.office.inside.state in
    (c.args.pass.now.view, c.meet.ensures.met who held (kept_is g.B.Site.about.scenario g.B.Site.table who held c.office.inside.pass c.in-Some.kept c.office.invariant.1 c.in-Some.ensures.value))

pub returns-in-false-clause-answer : goal.returns-in-false-clause-answer
returns-in-false-clause-answer g c =
    let sc = g.B.Site.about.scenario in
    let who = c.office.inside.actor in
    let held = OfMaster c.office.inside.state in
    let m = c.meet.ensures.met who held (kept_is g.B.Site.about.scenario g.B.Site.table who held c.office.inside.pass c.in-Some.kept c.office.invariant.1 c.in-Some.ensures.value) in
    c.refuse-left.ensures.answer c.args.pass.now held (step.Publish c.args.admin) c.requires.ready m
    (λ log f. publish_refused_by (state_at sc log) who c.office.inside.state c.args.admin (held_later sc g.B.Site.table who held c.args.pass.now.view c.meet.new.pass m log f) (sym c.in-false.ensures))

pub finish-left-requires-clause-may : goal.finish-left-requires-clause-may
finish-left-requires-clause-may g c =
    let sc = g.B.Site.about.scenario in
    let who = c.office.inside.actor in
    let held = OfMaster c.office.inside.state in
    let v = c.args.pass.now.view in
    let m = c.meet.ensures.met who held (kept_is g.B.Site.about.scenario g.B.Site.table who held c.office.inside.pass c.in-Some.kept c.office.invariant.1 c.in-Some.ensures.value) in
    record {
      held = held;
      view = v;
      met_is = m;
      may = λ log f. publish_by sc (state_at sc log) who c.office.inside.state c.published.new.state c.args.admin c.in-Ok.act (held_later sc g.B.Site.table who held v c.meet.new.pass m log f) c.requires.exists
          (sym c.in-true.ensures) c.in-Ok.ensures.state (ap (λ (a : Act). a.happened) c.in-Ok.ensures.act) (ap (λ (a : Act). a.letters) c.in-Ok.ensures.act);
    }

pub returns-in-Ok-clause-answer : goal.returns-in-Ok-clause-answer
returns-in-Ok-clause-answer g c =
    let who = c.office.inside.actor in
    let held = OfMaster c.office.inside.state in
    c.finish-left.ensures.answer c.args.pass.now held c.requires.ready (c.meet.ensures.met who held (kept_is g.B.Site.about.scenario g.B.Site.table who held c.office.inside.pass c.in-Some.kept c.office.invariant.1 c.in-Some.ensures.value))
