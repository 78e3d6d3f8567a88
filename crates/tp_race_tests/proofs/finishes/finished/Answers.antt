use Rattle.std.proofs.Common.{◌≤◌, ap, arith, length, refl, subst, sym}
use Rattle.tp_model.specs.Words.{Scenario}
use Rattle.tp_runs.proofs.runs.Runs.{always_fit}
use Rattle.tp_cluster.specs.declared.plan.Plan.{Plan}
use Rattle.tp_race_tests.proofs.finishes.finished.Goals as goal

pub new-requires-clause-fit : goal.new-requires-clause-fit
new-requires-clause-fit g c = always_fit c.args.scenario.now c.requires.valid

pub new-requires-clause-valid : goal.new-requires-clause-valid
new-requires-clause-valid g c = c.requires.valid

pub new-requires-clause-some : goal.new-requires-clause-some
new-requires-clause-some g c = omega arith

pub new-requires-clause-few : goal.new-requires-clause-few
new-requires-clause-few g c = omega arith

pub finished_on-requires-clause-site : goal.finished_on-requires-clause-site
finished_on-requires-clause-site g c = refl

pub finished_on-requires-clause-about : goal.finished_on-requires-clause-about
finished_on-requires-clause-about g c = refl

pub finished_on-requires-clause-callers : goal.finished_on-requires-clause-callers
finished_on-requires-clause-callers g c = ap (λ (p : Plan). p.callers) c.in-Ok.ensures

pub finished_on-requires-clause-exists : goal.finished_on-requires-clause-exists
finished_on-requires-clause-exists g c =
    subst (λ (sc : Scenario). 1 ≤ length sc.txns) (sym (ap (λ (p : Plan). p.scenario) c.in-Ok.ensures)) c.requires.exists
