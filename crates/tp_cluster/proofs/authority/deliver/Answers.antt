use Rattle.std.proofs.Common.{◌∙◌, refl, sym}
use Rattle.tp_model.specs.Words.actor
use Rattle.tp_model.specs.Words.step
use Rattle.tp_cluster.specs.Offices.Held.{OfAuthority}
use Rattle.tp_cluster.specs.Runs.{state_at}
use Rattle.tp_cluster.proofs.DeliveryLemmas.{sent_later}
use Rattle.tp_cluster.proofs.MeetingLemmas.{held_later, kept_is}
use Rattle.tp_cluster.proofs.RowLemmas.{by_name, authority_acted, is_authority}
use Rattle.tp_cluster.proofs.authority.deliver.Goals as goal

pub meet-requires-clause-kept : goal.meet-requires-clause-kept
meet-requires-clause-kept g c =
    let kept = kept_is g.B.Site.about.scenario g.B.Site.table c.office.inside.actor (OfAuthority c.office.inside.state) c.office.inside.pass c.in-Some.kept c.office.invariant.1 c.in-Some.ensures.value in
    (kept.site, kept.live)

pub finish-left-requires-clause-may : goal.finish-left-requires-clause-may
finish-left-requires-clause-may g c =
    let sc = g.B.Site.about.scenario in
    let who = c.office.inside.actor in
    let held = OfAuthority c.office.inside.state in
    let v = c.args.pass.now.view in
    let met = c.meet.new.pass in
    let m = c.meet.ensures.met who held (kept_is g.B.Site.about.scenario g.B.Site.table who held c.office.inside.pass c.in-Some.kept c.office.invariant.1 c.in-Some.ensures.value) in
    let state = c.office.inside.state in
    let act = c.in-Ok.act in
    let mail = c.args.mail.now in
    let given = c.args.given in
    record {
      held = held;
      view = v;
      met_is = m;
      may = λ log f.
          by_name sc (state_at sc log) (step.Deliver given) who actor.Authority held held act.happened act.letters (is_authority (state_at sc log).actors who state (held_later sc g.B.Site.table who held v met m log f)) (held_later sc g.B.Site.table who held v met m log f)
          (λ here. authority_acted sc (state_at sc log) given mail state act here (sent_later sc g.B.Site.table who held v met m given mail c.requires.sent log f) c.requires.to c.in-Ok.ensures.0 c.in-Ok.ensures.1);
    }

pub returns-in-Ok-clause-answer : goal.returns-in-Ok-clause-answer
returns-in-Ok-clause-answer g c =
    let who = c.office.inside.actor in
    let held = OfAuthority c.office.inside.state in
    c.finish-left.ensures.answer c.args.pass.now held c.requires.ready (c.meet.ensures.met who held (kept_is g.B.Site.about.scenario g.B.Site.table who held c.office.inside.pass c.in-Some.kept c.office.invariant.1 c.in-Some.ensures.value))
