use Rattle.std.proofs.Common.{ap, arith, refl, sym}
use Rattle.tp_runs.proofs.runs.Runs.{always_fit}
use Rattle.tp_cluster.specs.declared.plan.Plan.{Plan}
use Rattle.tp_cluster_cases.proofs.PassLemmas.{listed_of}
use Rattle.tp_cluster_cases.proofs.steps_done.Goals as goal

pub new-requires-clause-fit : goal.new-requires-clause-fit
new-requires-clause-fit g c = always_fit c.args.scenario c.requires

pub new-requires-clause-valid : goal.new-requires-clause-valid
new-requires-clause-valid g c = c.requires

pub new-requires-clause-some : goal.new-requires-clause-some
new-requires-clause-some g c = omega arith

pub new-requires-clause-few : goal.new-requires-clause-few
new-requires-clause-few g c = omega arith

pub run_on-requires-clause-site : goal.run_on-requires-clause-site
run_on-requires-clause-site g c = refl

pub run_on-requires-clause-about : goal.run_on-requires-clause-about
run_on-requires-clause-about g c = refl

pub run_on-requires-clause-ids : goal.run_on-requires-clause-ids
run_on-requires-clause-ids g c =
    listed_of c.args.scenario c.in_ok-opening-in-Cluster.opening.about.scenario c.as_slice-steps.result.now c.requires (sym (ap (λ (p : Plan). p.scenario) c.in_ok-opening-in-Cluster.ensures)) c.as_slice-steps.ensures

pub run-requires : goal.run-requires
run-requires g c = c.requires
