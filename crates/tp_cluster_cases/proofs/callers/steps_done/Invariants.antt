use Rattle.tp_cluster_cases.specs.Passes.{IsOfCaller}
use Rattle.tp_cluster_cases.proofs.callers.steps_done.Given as goal

abbrev pub invariant-loop-taken : goal.invariant-loop-taken
invariant-loop-taken g l = IsOfCaller g.B.Site.about.scenario g.B.Site.table l.pass
