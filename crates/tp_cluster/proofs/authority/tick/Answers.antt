use Rattle.std.proofs.Common.{◌∙◌, refl, sym}
use Rattle.tp_model.specs.Words.step
use Rattle.tp_cluster.specs.Offices.Held.{OfAuthority}
use Rattle.tp_cluster.specs.Runs.{state_at}
use Rattle.tp_cluster.proofs.MeetingLemmas.{held_later, kept_is}
use Rattle.tp_cluster.proofs.RowLemmas.{tick_acted, tick_refused}
use Rattle.tp_cluster.proofs.authority.tick.Goals as goal

pub meet-requires-clause-kept : goal.meet-requires-clause-kept
meet-requires-clause-kept g c =
    let kept = kept_is g.B.Site.about.scenario g.B.Site.table c.office.inside.actor (OfAuthority c.office.inside.state) c.office.inside.pass c.in-Some.kept c.office.invariant.1 c.in-Some.ensures.value in
    (kept.site, kept.live)

pub refuse-left-requires-clause-met : goal.refuse-left-requires-clause-met
refuse-left-requires-clause-met g c =
    let who = c.office.inside.actor in
    let held = OfAuthority c.office.inside.state in
    (c.args.pass.now.view, c.meet.ensures.met who held (kept_is g.B.Site.about.scenario g.B.Site.table who held c.office.inside.pass c.in-Some.kept c.office.invariant.1 c.in-Some.ensures.value))

pub returns-in-Some-too_late-clause-answer : goal.returns-in-Some-too_late-clause-answer
returns-in-Some-too_late-clause-answer g c =
    let sc = g.B.Site.about.scenario in
    let who = c.office.inside.actor in
    let held = OfAuthority c.office.inside.state in
    let m = c.meet.ensures.met who held (kept_is g.B.Site.about.scenario g.B.Site.table who held c.office.inside.pass c.in-Some.kept c.office.invariant.1 c.in-Some.ensures.value) in
    c.refuse-left.ensures.answer c.args.pass.now held (step.Tick c.args.by) c.requires.ready m
    (λ log f. tick_refused (state_at sc log) who c.office.inside.state c.args.by c.in-Some-too_late.why (held_later sc g.B.Site.table who held c.args.pass.now.view c.meet.new.pass m log f) (sym c.in-Some-too_late.ensures))

pub finish-left-requires-clause-may : goal.finish-left-requires-clause-may
finish-left-requires-clause-may g c =
    let sc = g.B.Site.about.scenario in
    let who = c.office.inside.actor in
    let held = OfAuthority c.office.inside.state in
    let m = c.meet.ensures.met who held (kept_is g.B.Site.about.scenario g.B.Site.table who held c.office.inside.pass c.in-Some.kept c.office.invariant.1 c.in-Some.ensures.value) in
    record {
      held = held;
      view = c.args.pass.now.view;
      met_is = m;
      may = λ log f. tick_acted sc (state_at sc log) who c.office.inside.state c.tick.new.self c.args.by c.in-Ok.happened c.new-letters.result
          (held_later sc g.B.Site.table who held c.args.pass.now.view c.meet.new.pass m log f) (sym c.in-None.ensures) c.tick.ensures c.in-Ok.ensures c.new-letters.ensures;
    }

pub returns-in-Ok-clause-answer : goal.returns-in-Ok-clause-answer
returns-in-Ok-clause-answer g c =
    let who = c.office.inside.actor in
    let held = OfAuthority c.office.inside.state in
    c.finish-left.ensures.answer c.args.pass.now held c.requires.ready (c.meet.ensures.met who held (kept_is g.B.Site.about.scenario g.B.Site.table who held c.office.inside.pass c.in-Some.kept c.office.invariant.1 c.in-Some.ensures.value))
