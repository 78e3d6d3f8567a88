use Rattle.std.proofs.Common.{ap, arith, refl, sym}
use Rattle.tp_runs.proofs.runs.Runs.{always_fit}
use Rattle.tp_cluster.specs.declared.plan.Plan.{Plan}
use Rattle.tp_cluster_cases.proofs.PassLemmas.{listed_of}
use Rattle.tp_cluster_cases.proofs.calls.trial_of.Goals as goal

pub new-requires-clause-fit : goal.new-requires-clause-fit
new-requires-clause-fit g c = always_fit c.args.scenario.now c.requires

pub new-requires-clause-valid : goal.new-requires-clause-valid
new-requires-clause-valid g c = c.requires

pub new-requires-clause-some : goal.new-requires-clause-some
new-requires-clause-some g c = omega arith

pub new-requires-clause-few : goal.new-requires-clause-few
new-requires-clause-few g c = omega arith

pub trial_on-requires-clause-site : goal.trial_on-requires-clause-site
trial_on-requires-clause-site g c = refl

pub trial_on-requires-clause-about : goal.trial_on-requires-clause-about
trial_on-requires-clause-about g c = refl

pub trial_on-requires-clause-ids : goal.trial_on-requires-clause-ids
trial_on-requires-clause-ids g c =
    listed_of c.args.scenario.now c.in_ok-opening.opening.about.scenario c.as_slice-steps.result.now c.requires (sym (ap (λ (p : Plan). p.scenario) c.in_ok-opening.ensures)) c.as_slice-steps.ensures
