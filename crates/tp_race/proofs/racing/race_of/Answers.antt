use Rattle.std.proofs.Common.{ap, refl, sym}
use Rattle.tp_runs.proofs.runs.Runs.{always_fit}
use Rattle.tp_cluster.specs.declared.plan.Plan.{Plan}
use Rattle.tp_race.proofs.RaceLemmas.{few_clients, few_officers, few_publishers, planned, planned_ends}
use Rattle.tp_race.proofs.racing.race_of.Goals as goal

pub callers_of-callers-requires-clause-clients : goal.callers_of-callers-requires-clause-clients
callers_of-callers-requires-clause-clients g c = few_clients c.args.scenario.now c.requires

pub callers_of-callers-requires-clause-publishers : goal.callers_of-callers-requires-clause-publishers
callers_of-callers-requires-clause-publishers g c = few_publishers c.args.scenario.now c.requires

pub callers_of-callers-requires-clause-officers : goal.callers_of-callers-requires-clause-officers
callers_of-callers-requires-clause-officers g c = few_officers c.args.scenario.now c.requires

pub new-requires-clause-fit : goal.new-requires-clause-fit
new-requires-clause-fit g c = always_fit c.args.scenario.now c.requires

pub new-requires-clause-valid : goal.new-requires-clause-valid
new-requires-clause-valid g c = c.requires

pub race_on-requires-clause-site : goal.race_on-requires-clause-site
race_on-requires-clause-site g c = λ κs within. refl

pub race_on-requires-clause-about : goal.race_on-requires-clause-about
race_on-requires-clause-about g c = λ κs within. refl

pub race_on-requires-clause-scenario : goal.race_on-requires-clause-scenario
race_on-requires-clause-scenario g c = λ κs within. sym (ap (λ (p : Plan). p.scenario) c.in-Ok.ensures)

pub race_on-requires-clause-callers : goal.race_on-requires-clause-callers
race_on-requires-clause-callers g c = λ κs within. planned c.args.scenario.now c.callers_of-callers.result c.in-Ok.opening.about c.in-Ok.ensures c.callers_of-callers.ensures.value

pub race_on-requires-clause-valid : goal.race_on-requires-clause-valid
race_on-requires-clause-valid g c = λ κs within. c.requires

pub returns-in-Ok-clause-ended : goal.returns-in-Ok-clause-ended
returns-in-Ok-clause-ended g c = planned_ends c.args.scenario.now _ c.in-Ok.opening.about _ c.race_on.result c.in-Ok.ensures c.race_on.ensures.ended
