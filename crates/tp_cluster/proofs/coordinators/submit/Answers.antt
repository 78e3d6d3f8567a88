use Rattle.std.proofs.Common.{◌≡◌, refl, subst, sym}
use Rattle.std.specs.Prelude.{Some}
use Rattle.tp_model.specs.Words.actor
use Rattle.tp_model.specs.Words.step
use Rattle.tp_model.specs.Words.{Actor, Scenario}
use Rattle.tp_machine.specs.Acts.{Acts}
use Rattle.tp_machine.specs.Fits.{HasShortLog}
use Rattle.tp_machine.specs.Machine.{coordinator_begins}
use Rattle.tp_cluster.specs.Offices.{held_at}
use Rattle.tp_cluster.specs.Offices.Held.{OfCoordinator}
use Rattle.tp_cluster.specs.Runs.{state_at}
use Rattle.tp_cluster.proofs.MeetingLemmas.{held_later, kept_is}
use Rattle.tp_cluster.proofs.StepLemmas.{submit_by, submit_fits, submit_refused}
use Rattle.tp_cluster.proofs.coordinators.submit.Goals as goal

pub meet-requires-clause-kept : goal.meet-requires-clause-kept
meet-requires-clause-kept g c =
    let kept = kept_is g.B.Site.about.scenario g.B.Site.table c.office.inside.actor (OfCoordinator c.office.inside.state) c.office.inside.pass c.in-Some.kept c.office.invariant.1 c.in-Some.ensures.value in
    (kept.site, kept.live)

pub refuse-left-requires-clause-met : goal.refuse-left-requires-clause-met
refuse-left-requires-clause-met g c =
    let who = c.office.inside.actor in
    let held = OfCoordinator c.office.inside.state in
    (c.args.pass.now.view, c.meet.ensures.met who held (kept_is g.B.Site.about.scenario g.B.Site.table who held c.office.inside.pass c.in-Some.kept c.office.invariant.1 c.in-Some.ensures.value))

pub returns-in-true-is_submitted-clause-answer : goal.returns-in-true-is_submitted-clause-answer
returns-in-true-is_submitted-clause-answer g c =
    let sc = g.B.Site.about.scenario in
    let who = c.office.inside.actor in
    let part = c.office.inside.state in
    let held = OfCoordinator part in
    let txn = c.args.txn in
    let is : who ≡ actor.Coordinator txn = c.in-true.ensures refl in
    let m = c.meet.ensures.met who held (kept_is g.B.Site.about.scenario g.B.Site.table who held c.office.inside.pass c.in-Some.kept c.office.invariant.1 c.in-Some.ensures.value) in
    c.refuse-left.ensures.answer c.args.pass.now held (step.Submit txn) c.requires.ready m
    (λ log f. submit_refused (state_at sc log) txn part (subst (λ (x : Actor). held_at (state_at sc log).actors x ≡ Some held) is (held_later sc g.B.Site.table who held c.args.pass.now.view c.meet.new.pass m log f)) (sym c.in-true-is_submitted.ensures))

pub coordinator_begins-requires : goal.coordinator_begins-requires
coordinator_begins-requires g c =
    let sc = g.B.Site.about.scenario in
    let who = c.office.inside.actor in
    let part = c.office.inside.state in
    let held = OfCoordinator part in
    let txn = c.args.txn in
    let met = c.meet.new.pass in
    let v = c.args.pass.now.view in
    let m = c.meet.ensures.met who held (kept_is g.B.Site.about.scenario g.B.Site.table who held c.office.inside.pass c.in-Some.kept c.office.invariant.1 c.in-Some.ensures.value) in
    let is : who ≡ actor.Coordinator txn = c.in-true.ensures refl in
    record {
      fits = subst (λ (s : Scenario). HasShortLog (coordinator_begins s part txn).part) (sym c.requires.about)
          (submit_fits sc met.view.seen txn part c.requires.fit m.follows.lawful (subst (λ (x : Actor). held_at (state_at sc met.view.seen).actors x ≡ Some held) is (held_later sc g.B.Site.table who held v met m met.view.seen m.follows)) (sym c.in-false-is_submitted.ensures) c.requires.exists);
    }

pub placed-left-requires-clause-may : goal.placed-left-requires-clause-may
placed-left-requires-clause-may g c =
    let sc = g.B.Site.about.scenario in
    let who = c.office.inside.actor in
    let part = c.office.inside.state in
    let held = OfCoordinator part in
    let txn = c.args.txn in
    let met = c.meet.new.pass in
    let v = c.args.pass.now.view in
    let m = c.meet.ensures.met who held (kept_is g.B.Site.about.scenario g.B.Site.table who held c.office.inside.pass c.in-Some.kept c.office.invariant.1 c.in-Some.ensures.value) in
    let is : who ≡ actor.Coordinator txn = c.in-true.ensures refl in
    let mid = c.coordinator_begins.new.part in
    let act = c.in-Ok.act in
    record {
      held = held;
      view = v;
      met_is = m;
      may = λ log f. submit_by sc log who txn part mid act f.lawful is (held_later sc g.B.Site.table who held v met m log f) (sym c.in-false-is_submitted.ensures) c.requires.exists
          (subst (λ (s : Scenario). Acts (coordinator_begins s part txn) mid act) c.requires.about c.in-Ok.ensures.ok);
    }

pub returns-in-Ok-clause-answer : goal.returns-in-Ok-clause-answer
returns-in-Ok-clause-answer g c =
    let who = c.office.inside.actor in
    let held = OfCoordinator c.office.inside.state in
    c.placed-left.ensures.answer c.args.pass.now held c.requires.ready (c.meet.ensures.met who held (kept_is g.B.Site.about.scenario g.B.Site.table who held c.office.inside.pass c.in-Some.kept c.office.invariant.1 c.in-Some.ensures.value))
