use Rattle.std.proofs.Common.{ℕ, ap}
use Rattle.tp_model.specs.Words.step
use Rattle.tp_machine.specs.Machine.{placed_part}
use Rattle.tp_cluster.specs.Offices.{Held}
use Rattle.tp_cluster.specs.Offices.Held.{OfCoordinator}
use Rattle.tp_cluster.proofs.MeetingLemmas.{can_post, office_after, own_caller, own_live, own_step}
use Rattle.tp_cluster.proofs.coordinators.placed.Goals as goal

pub post-requires : goal.post-requires
post-requires g c =
    let r = c.requires.may in
    let new : ℕ → Held = (λ place. OfCoordinator (placed_part place c.args.state.now)) in
    can_post g.B.Site.about.scenario g.B.Site.table c.args.actor r.held r.view c.args.pass.now r.met_is (step.Submit c.args.txn) new c.args.act r.may

pub returns-in-Ok-clause-kept : goal.returns-in-Ok-clause-kept
returns-in-Ok-clause-kept g c =
    let r = c.requires.may in
    let new : ℕ → Held = (λ place. OfCoordinator (placed_part place c.args.state.now)) in
    office_after g.B.Site.about.scenario g.B.Site.table c.args.actor r.held r.view c.args.pass.now r.met_is (step.Submit c.args.txn) new c.args.act r.may
    c.args.number c.in-Ok.place c.post.new.pass c.in-Ok.kept c.requires.number c.in-Ok.ensures.ok (OfCoordinator c.placed.new.self) (ap OfCoordinator c.placed.ensures)

pub returns-in-Ok-clause-answer : goal.returns-in-Ok-clause-answer
returns-in-Ok-clause-answer g c = λ old held ready m.
    let r = c.requires.may in
    let sc = g.B.Site.about.scenario in
    let table = g.B.Site.table in
    let met = c.args.pass.now in
    let new : ℕ → Held = (λ place. OfCoordinator (placed_part place c.args.state.now)) in
    let done = c.in-Ok.ensures.ok in
    record {
      was_live = ready.live;
      live = own_live sc table c.args.actor held old.view met m (step.Submit c.args.txn) new c.args.act r.may c.args.number c.in-Ok.place c.post.new.pass c.in-Ok.kept c.requires.number done;
      own = own_step sc table c.args.actor held old.view met m (step.Submit c.args.txn) new c.args.act r.may c.args.number c.in-Ok.place c.post.new.pass c.in-Ok.kept c.requires.number done;
      caller = own_caller sc table c.args.actor held old.view met m (step.Submit c.args.txn) new c.args.act r.may c.args.number c.in-Ok.place c.post.new.pass c.in-Ok.kept c.requires.number done;
    }
