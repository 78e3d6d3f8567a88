use Rattle.std.proofs.Common.{subst}
use Rattle.tp_model.specs.Words.step
use Rattle.tp_machine.specs.Named.{IsStepOf}
use Rattle.tp_cluster_cases.proofs.CallerLemmas.{still_caller}
use Rattle.tp_cluster_cases.proofs.callers.step.Goals as goal

pub returns-in-Submit : goal.returns-in-Submit
returns-in-Submit g c = record {
  site = c.submit.ensures.site;
  caller = still_caller g.B.Site.about.scenario c.args.pass.now (step.Submit c.in-Submit.txn) c.submit.result c.submit.new.pass c.submit.ensures.answer c.submit.ensures.memory;
}

pub returns-in-Timer : goal.returns-in-Timer
returns-in-Timer g c = record {
  site = c.timer.ensures.site;
  caller = still_caller g.B.Site.about.scenario c.args.pass.now (step.Timer c.in-Timer.txn) c.timer.result c.timer.new.pass c.timer.ensures.answer c.timer.ensures.memory;
}

pub returns-in-Publish : goal.returns-in-Publish
returns-in-Publish g c = record {
  site = c.publish.ensures.site;
  caller = still_caller g.B.Site.about.scenario c.args.pass.now (step.Publish c.in-Publish.admin) c.publish.result c.publish.new.pass c.publish.ensures.answer c.publish.ensures.memory;
}

pub returns-in-Push : goal.returns-in-Push
returns-in-Push g c = record {
  site = c.push.ensures.site;
  caller = still_caller g.B.Site.about.scenario c.args.pass.now (step.Push c.in-Push.admin c.in-Push.server) c.push.result c.push.new.pass c.push.ensures.answer c.push.ensures.memory;
}

pub returns-in-Revoke : goal.returns-in-Revoke
returns-in-Revoke g c = record {
  site = c.revoke.ensures.site;
  caller = still_caller g.B.Site.about.scenario c.args.pass.now (step.Revoke c.in-Revoke.cred) c.revoke.result c.revoke.new.pass c.revoke.ensures.answer c.revoke.ensures.memory;
}

pub returns-in-Tick : goal.returns-in-Tick
returns-in-Tick g c = record {
  site = c.tick.ensures.site;
  caller = still_caller g.B.Site.about.scenario c.args.pass.now (step.Tick c.in-Tick.by) c.tick.result c.tick.new.pass c.tick.ensures.answer c.tick.ensures.memory;
}

pub returns-in-Deliver : goal.returns-in-Deliver
returns-in-Deliver g c = record {
  site = c.deliver.ensures.site;
  caller = still_caller g.B.Site.about.scenario c.args.pass.now (step.Deliver c.in-Deliver.mail) c.deliver.result c.deliver.new.pass c.deliver.ensures.answer c.deliver.ensures.memory;
}

pub submit-requires-clause-site : goal.submit-requires-clause-site
submit-requires-clause-site g c = c.requires.pass.site

pub submit-requires-clause-caller : goal.submit-requires-clause-caller
submit-requires-clause-caller g c = c.requires.pass.caller

pub submit-requires-clause-exists : goal.submit-requires-clause-exists
submit-requires-clause-exists g c = subst (IsStepOf g.B.Site.about.scenario) c.in-Submit.is c.requires.ids

pub timer-requires-clause-site : goal.timer-requires-clause-site
timer-requires-clause-site g c = c.requires.pass.site

pub timer-requires-clause-caller : goal.timer-requires-clause-caller
timer-requires-clause-caller g c = c.requires.pass.caller

pub timer-requires-clause-exists : goal.timer-requires-clause-exists
timer-requires-clause-exists g c = subst (IsStepOf g.B.Site.about.scenario) c.in-Timer.is c.requires.ids

pub publish-requires-clause-site : goal.publish-requires-clause-site
publish-requires-clause-site g c = c.requires.pass.site

pub publish-requires-clause-caller : goal.publish-requires-clause-caller
publish-requires-clause-caller g c = c.requires.pass.caller

pub publish-requires-clause-exists : goal.publish-requires-clause-exists
publish-requires-clause-exists g c = subst (IsStepOf g.B.Site.about.scenario) c.in-Publish.is c.requires.ids

pub push-requires-clause-site : goal.push-requires-clause-site
push-requires-clause-site g c = c.requires.pass.site

pub push-requires-clause-caller : goal.push-requires-clause-caller
push-requires-clause-caller g c = c.requires.pass.caller

pub push-requires-clause-exists : goal.push-requires-clause-exists
push-requires-clause-exists g c = subst (IsStepOf g.B.Site.about.scenario) c.in-Push.is c.requires.ids

pub revoke-requires-clause-site : goal.revoke-requires-clause-site
revoke-requires-clause-site g c = c.requires.pass.site

pub revoke-requires-clause-caller : goal.revoke-requires-clause-caller
revoke-requires-clause-caller g c = c.requires.pass.caller

pub revoke-requires-clause-exists : goal.revoke-requires-clause-exists
revoke-requires-clause-exists g c = subst (IsStepOf g.B.Site.about.scenario) c.in-Revoke.is c.requires.ids

pub tick-requires-clause-site : goal.tick-requires-clause-site
tick-requires-clause-site g c = c.requires.pass.site

pub tick-requires-clause-caller : goal.tick-requires-clause-caller
tick-requires-clause-caller g c = c.requires.pass.caller

pub deliver-requires-clause-site : goal.deliver-requires-clause-site
deliver-requires-clause-site g c = c.requires.pass.site

pub deliver-requires-clause-caller : goal.deliver-requires-clause-caller
deliver-requires-clause-caller g c = c.requires.pass.caller

pub returns-in-Lose : goal.returns-in-Lose
returns-in-Lose g c = c.requires.pass
