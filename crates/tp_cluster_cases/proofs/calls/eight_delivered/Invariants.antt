use Rattle.tp_cluster_cases.specs.Passes.{IsOfCaller}
use Rattle.tp_cluster_cases.proofs.calls.eight_delivered.Given as goal

abbrev pub invariant-loop-number : goal.invariant-loop-number
invariant-loop-number g l = IsOfCaller g.B.Site.about.scenario g.B.Site.table l.pass
