use Rattle.std.proofs.Common.{◌≡◌, ◌∙◌, ap, refl, subst, sym}
use Rattle.tp_model.specs.Words.actor
use Rattle.tp_model.specs.Words.step
use Rattle.tp_model.specs.Words.{Actor, Scenario}
use Rattle.tp_machine.specs.Machine.{repeats_of}
use Rattle.std.specs.Prelude.{Some}
use Rattle.tp_cluster.specs.Offices.{held_at}
use Rattle.tp_cluster.specs.Offices.Held.{OfCoordinator}
use Rattle.tp_cluster.specs.Runs.{state_at}
use Rattle.tp_cluster.proofs.MeetingLemmas.{held_later, kept_is}
use Rattle.tp_cluster.proofs.RowLemmas.{by_name}
use Rattle.tp_cluster.proofs.StepLemmas.{timer_acted, timer_refused}
use Rattle.tp_cluster.proofs.coordinators.timer.Goals as goal

pub meet-requires-clause-kept : goal.meet-requires-clause-kept
meet-requires-clause-kept g c =
    let kept = kept_is g.B.Site.about.scenario g.B.Site.table c.office.inside.actor (OfCoordinator c.office.inside.state) c.office.inside.pass c.in-Some.kept c.office.invariant.1 c.in-Some.ensures.value in
    (kept.site, kept.live)

pub refuse-left-requires-clause-met : goal.refuse-left-requires-clause-met
refuse-left-requires-clause-met g c =
    let who = c.office.inside.actor in
    let held = OfCoordinator c.office.inside.state in
    (c.args.pass.now.view, c.meet.ensures.met who held (kept_is g.B.Site.about.scenario g.B.Site.table who held c.office.inside.pass c.in-Some.kept c.office.invariant.1 c.in-Some.ensures.value))

pub returns-in-Some-untimed-clause-answer : goal.returns-in-Some-untimed-clause-answer
returns-in-Some-untimed-clause-answer g c =
    let sc = g.B.Site.about.scenario in
    let who = c.office.inside.actor in
    let part = c.office.inside.state in
    let held = OfCoordinator part in
    let txn = c.args.txn in
    let is : who ≡ actor.Coordinator txn = c.in-true.ensures refl in
    let m = c.meet.ensures.met who held (kept_is g.B.Site.about.scenario g.B.Site.table who held c.office.inside.pass c.in-Some.kept c.office.invariant.1 c.in-Some.ensures.value) in
    c.refuse-left.ensures.answer c.args.pass.now held (step.Timer txn) c.requires.ready m
    (λ log f. timer_refused (state_at sc log) txn part c.in-Some-untimed.why (subst (λ (x : Actor). held_at (state_at sc log).actors x ≡ Some held) is (held_later sc g.B.Site.table who held c.args.pass.now.view c.meet.new.pass m log f)) (sym c.in-Some-untimed.ensures))

pub finish-left-requires-clause-may : goal.finish-left-requires-clause-may
finish-left-requires-clause-may g c =
    let sc = g.B.Site.about.scenario in
    let who = c.office.inside.actor in
    let part = c.office.inside.state in
    let held = OfCoordinator part in
    let txn = c.args.txn in
    let met = c.meet.new.pass in
    let v = c.args.pass.now.view in
    let m = c.meet.ensures.met who held (kept_is g.B.Site.about.scenario g.B.Site.table who held c.office.inside.pass c.in-Some.kept c.office.invariant.1 c.in-Some.ensures.value) in
    let is : who ≡ actor.Coordinator txn = c.in-true.ensures refl in
    let act = c.in-Ok.act in
    record {
      held = held;
      view = v;
      met_is = m;
      may = λ log f.
          by_name sc (state_at sc log) (step.Timer txn) who (actor.Coordinator txn) held held act.happened act.letters is
          (held_later sc g.B.Site.table who held v met m log f)
          (λ here. timer_acted sc (state_at sc log) txn part act here (sym c.in-None.ensures) c.requires.exists c.in-Ok.ensures.0 (c.in-Ok.ensures.1 ∙ ap (λ (s : Scenario). repeats_of s part.up) c.requires.about));
    }

pub returns-in-Ok-clause-answer : goal.returns-in-Ok-clause-answer
returns-in-Ok-clause-answer g c =
    let who = c.office.inside.actor in
    let held = OfCoordinator c.office.inside.state in
    c.finish-left.ensures.answer c.args.pass.now held c.requires.ready (c.meet.ensures.met who held (kept_is g.B.Site.about.scenario g.B.Site.table who held c.office.inside.pass c.in-Some.kept c.office.invariant.1 c.in-Some.ensures.value))
