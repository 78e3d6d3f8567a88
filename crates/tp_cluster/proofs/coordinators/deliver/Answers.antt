use Rattle.std.proofs.Common.{◌≡◌, refl, sym, subst}
use Rattle.std.specs.Prelude.{Some}
use Rattle.tp_model.specs.Words.actor
use Rattle.tp_model.specs.Words.step
use Rattle.tp_model.specs.Words.{Actor, Scenario}
use Rattle.tp_machine.specs.Acts.{Acts}
use Rattle.tp_machine.specs.Fits.{HasShortLog}
use Rattle.tp_machine.specs.Machine.{coordinator_takes}
use Rattle.tp_cluster.specs.Offices.{held_at}
use Rattle.tp_cluster.specs.Offices.Held.{OfCoordinator}
use Rattle.tp_cluster.specs.Runs.{state_at}
use Rattle.tp_cluster.proofs.DeliveryLemmas.{sent_later}
use Rattle.tp_cluster.proofs.MeetingLemmas.{held_later, kept_is}
use Rattle.tp_cluster.proofs.RowLemmas.{by_name, coordinator_acted, coordinator_fits}
use Rattle.tp_cluster.proofs.coordinators.deliver.Goals as goal

pub meet-requires-clause-kept : goal.meet-requires-clause-kept
meet-requires-clause-kept g c =
    let kept = kept_is g.B.Site.about.scenario g.B.Site.table c.office.inside.actor (OfCoordinator c.office.inside.state) c.office.inside.pass c.in-Some.kept c.office.invariant.1 c.in-Some.ensures.value in
    (kept.site, kept.live)

pub coordinator_takes-requires : goal.coordinator_takes-requires
coordinator_takes-requires g c =
    let sc = g.B.Site.about.scenario in
    let who = c.office.inside.actor in
    let part = c.office.inside.state in
    let held = OfCoordinator part in
    let txn = c.args.txn in
    let met = c.meet.new.pass in
    let v = c.args.pass.now.view in
    let m = c.meet.ensures.met who held (kept_is g.B.Site.about.scenario g.B.Site.table who held c.office.inside.pass c.in-Some.kept c.office.invariant.1 c.in-Some.ensures.value) in
    let is : who ≡ actor.Coordinator txn = c.in-true.ensures refl in
    let mail = c.args.mail.now in
    let here = subst (λ (x : Actor). held_at (state_at sc met.view.seen).actors x ≡ Some held) is (held_later sc g.B.Site.table who held v met m met.view.seen m.follows) in
    record {
      fits = subst (λ (s : Scenario). HasShortLog (coordinator_takes s part mail).part) (sym c.requires.about) (coordinator_fits sc met.view.seen c.args.given mail txn part c.requires.fit m.follows.lawful here (sent_later sc g.B.Site.table who held v met m c.args.given mail c.requires.sent met.view.seen m.follows) c.requires.to);
    }

pub finish-left-requires-clause-may : goal.finish-left-requires-clause-may
finish-left-requires-clause-may g c =
    let sc = g.B.Site.about.scenario in
    let who = c.office.inside.actor in
    let part = c.office.inside.state in
    let held = OfCoordinator part in
    let txn = c.args.txn in
    let met = c.meet.new.pass in
    let v = c.args.pass.now.view in
    let m = c.meet.ensures.met who held (kept_is g.B.Site.about.scenario g.B.Site.table who held c.office.inside.pass c.in-Some.kept c.office.invariant.1 c.in-Some.ensures.value) in
    let is : who ≡ actor.Coordinator txn = c.in-true.ensures refl in
    let mail = c.args.mail.now in
    let new = c.coordinator_takes.new.part in
    let act = c.in-Ok.act in
    let did = subst (λ (s : Scenario). Acts (coordinator_takes s part mail) new act) c.requires.about c.in-Ok.ensures.ok in
    record {
      held = held;
      view = v;
      met_is = m;
      may = λ log f.
          by_name sc (state_at sc log) (step.Deliver c.args.given) who (actor.Coordinator txn) held (OfCoordinator new) act.happened act.letters is
          (held_later sc g.B.Site.table who held v met m log f)
          (λ here. coordinator_acted sc (state_at sc log) c.args.given mail txn part new act here (sent_later sc g.B.Site.table who held v met m c.args.given mail c.requires.sent log f) c.requires.to did);
    }

pub returns-in-Ok-clause-answer : goal.returns-in-Ok-clause-answer
returns-in-Ok-clause-answer g c =
    let who = c.office.inside.actor in
    let held = OfCoordinator c.office.inside.state in
    c.finish-left.ensures.answer c.args.pass.now held c.requires.ready (c.meet.ensures.met who held (kept_is g.B.Site.about.scenario g.B.Site.table who held c.office.inside.pass c.in-Some.kept c.office.invariant.1 c.in-Some.ensures.value))
