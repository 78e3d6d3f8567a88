use Rattle.tp_cluster_cases.specs.Passes.{IsOfCaller}
use Rattle.tp_cluster_cases.proofs.callers.all_delivered.Given as goal

abbrev pub invariant-loop : goal.invariant-loop
invariant-loop g l =
    (goal.iterator-loop g).can_next l.iterator'
    × (goal.iterator-loop g).is_finite l.iterator'
    × IsOfCaller g.B.Site.about.scenario g.B.Site.table l.pass
