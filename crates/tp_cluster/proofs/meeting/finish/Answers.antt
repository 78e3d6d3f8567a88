use Rattle.std.proofs.Common.{ℕ, refl}
use Rattle.tp_cluster.specs.Offices.{Held}
use Rattle.tp_cluster.proofs.MeetingLemmas.{can_post, office_after, own_caller, own_live, own_step}
use Rattle.tp_cluster.proofs.meeting.finish.Goals as goal

pub post-requires : goal.post-requires
post-requires g c =
    let r = c.requires.may in
    can_post g.B.Site.about.scenario g.B.Site.table c.args.actor r.held r.view c.args.pass.now r.met_is c.args.taken (λ _. g.S.Officer.held c.args.state.now) c.args.act r.may

pub returns-in-Ok-clause-kept : goal.returns-in-Ok-clause-kept
returns-in-Ok-clause-kept g c =
    let r = c.requires.may in
    let held = g.S.Officer.held c.args.state.now in
    office_after g.B.Site.about.scenario g.B.Site.table c.args.actor r.held r.view c.args.pass.now r.met_is c.args.taken (λ _. held) c.args.act r.may
    c.args.number c.in-Ok.place c.post.new.pass c.in-Ok.kept c.requires.number c.in-Ok.ensures.ok held refl

pub returns-in-Ok-clause-answer : goal.returns-in-Ok-clause-answer
returns-in-Ok-clause-answer g c = λ old held ready m.
    let r = c.requires.may in
    let sc = g.B.Site.about.scenario in
    let table = g.B.Site.table in
    let met = c.args.pass.now in
    let new : ℕ → Held = (λ _. g.S.Officer.held c.args.state.now) in
    let done = c.in-Ok.ensures.ok in
    record {
      was_live = ready.live;
      live = own_live sc table c.args.actor held old.view met m c.args.taken new c.args.act r.may c.args.number c.in-Ok.place c.post.new.pass c.in-Ok.kept c.requires.number done;
      own = own_step sc table c.args.actor held old.view met m c.args.taken new c.args.act r.may c.args.number c.in-Ok.place c.post.new.pass c.in-Ok.kept c.requires.number done;
      caller = own_caller sc table c.args.actor held old.view met m c.args.taken new c.args.act r.may c.args.number c.in-Ok.place c.post.new.pass c.in-Ok.kept c.requires.number done;
    }
