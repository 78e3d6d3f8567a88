use Rattle.std.proofs.Common.{subst}
use Rattle.std.specs.Prelude.{Err}
use Rattle.tp_model.specs.Words.step
use Rattle.tp_cluster.specs.declared.error.ClusterError.{ClusterError}
use Rattle.tp_cluster.specs.Calls.{IsAnswer, IsTurned}
use Rattle.tp_race.proofs.CallerLemmas.{at_delivered, never_refused}
use Rattle.tp_race.proofs.caller.deliver.Goals as goal

pub unreachable-requires : goal.unreachable-requires
unreachable-requires g c =
    let sc = g.B.Site.about.scenario in
    let old = c.args.pass.now in
    let new = c.deliver.new.pass in
    let arm = c.in-Err-Refused in
    let turned : IsTurned sc old (step.Deliver c.args.mail) arm.field-0-0 new =
    subst (λ (e : ClusterError). IsAnswer sc old (step.Deliver c.args.mail) (Err e) new) arm.field-0-is arm.ensures.answer in
    never_refused sc c.args.mail arm.field-0-0 old.view new.view c.requires.sent turned.refused

pub returns-in-Ok-clause-at : goal.returns-in-Ok-clause-at
returns-in-Ok-clause-at g c = λ live caller done h.
    at_delivered g.B.Site.about.scenario caller c.args.mail c.in-Ok.field-0 done c.args.pass.now.view c.deliver.new.pass.view h c.in-Ok.ensures.answer.own
