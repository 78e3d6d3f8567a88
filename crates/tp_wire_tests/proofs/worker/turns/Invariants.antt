use Rattle.tp_wire_tests.specs.Ready.{IsReady}
use Rattle.tp_wire_tests.proofs.worker.turns.Given as goal

abbrev pub invariant-loop-turn : goal.invariant-loop-turn
invariant-loop-turn g l = IsReady g.B.Site.table g.B.Site.about.actors l.pass
