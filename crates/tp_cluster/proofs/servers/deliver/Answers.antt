use Rattle.std.proofs.Common.{◌≡◌, refl, sym, subst, true}
use Rattle.std.specs.Prelude.{Some}
use Rattle.tp_model.specs.Valid.{is_valid}
use Rattle.tp_model.specs.Words.actor
use Rattle.tp_model.specs.Words.step
use Rattle.tp_model.specs.Words.{Actor, Scenario}
use Rattle.tp_machine.specs.Acts.{Acts}
use Rattle.tp_machine.specs.Fits.{HasShortLog}
use Rattle.tp_machine.specs.Machine.{server_takes}
use Rattle.tp_machine.proofs.basics.Rules.{few_rules}
use Rattle.tp_cluster.specs.Offices.{held_at}
use Rattle.tp_cluster.specs.Offices.Held.{OfServer}
use Rattle.tp_cluster.specs.Runs.{state_at}
use Rattle.tp_cluster.proofs.DeliveryLemmas.{sent_later}
use Rattle.tp_cluster.proofs.MeetingLemmas.{held_later, kept_is}
use Rattle.tp_cluster.proofs.RowLemmas.{by_name, server_acted, server_fits}
use Rattle.tp_cluster.proofs.servers.deliver.Goals as goal

pub meet-requires-clause-kept : goal.meet-requires-clause-kept
meet-requires-clause-kept g c =
    let kept = kept_is g.B.Site.about.scenario g.B.Site.table c.office.inside.actor (OfServer c.office.inside.state) c.office.inside.pass c.in-Some.kept c.office.invariant.1 c.in-Some.ensures.value in
    (kept.site, kept.live)

pub server_takes-requires-clause-few : goal.server_takes-requires-clause-few
server_takes-requires-clause-few g c =
    few_rules c.args.scenario.now (subst (λ (s : Scenario). is_valid s ≡ true) (sym c.requires.about) c.requires.valid)

pub server_takes-requires-clause-fits : goal.server_takes-requires-clause-fits
server_takes-requires-clause-fits g c =
    let sc = g.B.Site.about.scenario in
    let who = c.office.inside.actor in
    let part = c.office.inside.state in
    let held = OfServer part in
    let at = c.args.at in
    let mail = c.args.mail.now in
    let met = c.meet.new.pass in
    let v = c.args.pass.now.view in
    let m = c.meet.ensures.met who held (kept_is g.B.Site.about.scenario g.B.Site.table who held c.office.inside.pass c.in-Some.kept c.office.invariant.1 c.in-Some.ensures.value) in
    let is : who ≡ actor.Server at = c.in-true.ensures refl in
    let here = subst (λ (x : Actor). held_at (state_at sc met.view.seen).actors x ≡ Some held) is (held_later sc g.B.Site.table who held v met m met.view.seen m.follows) in
    subst (λ (s : Scenario). HasShortLog (server_takes s at part mail).part) (sym c.requires.about)
    (server_fits sc met.view.seen c.args.given mail at part c.requires.fit m.follows.lawful here (sent_later sc g.B.Site.table who held v met m c.args.given mail c.requires.sent met.view.seen m.follows) c.requires.to)

pub finish-left-requires-clause-may : goal.finish-left-requires-clause-may
finish-left-requires-clause-may g c =
    let sc = g.B.Site.about.scenario in
    let who = c.office.inside.actor in
    let part = c.office.inside.state in
    let held = OfServer part in
    let at = c.args.at in
    let mail = c.args.mail.now in
    let met = c.meet.new.pass in
    let v = c.args.pass.now.view in
    let m = c.meet.ensures.met who held (kept_is g.B.Site.about.scenario g.B.Site.table who held c.office.inside.pass c.in-Some.kept c.office.invariant.1 c.in-Some.ensures.value) in
    let is : who ≡ actor.Server at = c.in-true.ensures refl in
    let new = c.server_takes.new.part in
    let act = c.in-Ok.act in
    let did = subst (λ (s : Scenario). Acts (server_takes s at part mail) new act) c.requires.about c.in-Ok.ensures.ok in
    record {
      held = held;
      view = v;
      met_is = m;
      may = λ log f.
          by_name sc (state_at sc log) (step.Deliver c.args.given) who (actor.Server at) held (OfServer new) act.happened act.letters is
          (held_later sc g.B.Site.table who held v met m log f)
          (λ here. server_acted sc (state_at sc log) c.args.given mail at part new act here (sent_later sc g.B.Site.table who held v met m c.args.given mail c.requires.sent log f) c.requires.to did);
    }

pub returns-in-Ok-clause-answer : goal.returns-in-Ok-clause-answer
returns-in-Ok-clause-answer g c =
    let who = c.office.inside.actor in
    let held = OfServer c.office.inside.state in
    c.finish-left.ensures.answer c.args.pass.now held c.requires.ready (c.meet.ensures.met who held (kept_is g.B.Site.about.scenario g.B.Site.table who held c.office.inside.pass c.in-Some.kept c.office.invariant.1 c.in-Some.ensures.value))
