use Rattle.tp_cluster.proofs.MeetingLemmas.{office_again, turned_caller, turned_live, turned_step}
use Rattle.tp_cluster.proofs.meeting.refuse.Goals as goal

pub returns-in-Ok-clause-kept : goal.returns-in-Ok-clause-kept
returns-in-Ok-clause-kept g c =
    let r = c.requires.met in
    office_again g.B.Site.about.scenario g.B.Site.table c.args.actor (g.S.Officer.held c.args.state.now) r.0 c.args.pass.now r.1 c.args.number c.turn_back.new.pass c.in-Ok.kept c.requires.number c.in-Ok.ensures.ok

pub returns-in-Ok-clause-answer : goal.returns-in-Ok-clause-answer
returns-in-Ok-clause-answer g c = λ old held taken ready m refused.
    let sc = g.B.Site.about.scenario in
    let table = g.B.Site.table in
    let met = c.args.pass.now in
    let done = c.in-Ok.ensures.ok in
    record {
      was_live = ready.live;
      live = turned_live sc table c.args.actor held old.view met m c.args.number c.turn_back.new.pass c.in-Ok.kept c.requires.number done;
      refused = turned_step sc table c.args.actor held old.view met m c.args.number c.turn_back.new.pass c.in-Ok.kept c.requires.number done taken c.args.why refused;
      caller = turned_caller sc table c.args.actor held old.view met m c.args.number c.turn_back.new.pass c.in-Ok.kept c.requires.number done;
    }
