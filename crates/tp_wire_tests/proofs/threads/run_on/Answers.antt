use Rattle.std.proofs.Common.{sym, subst, arith}
use Rattle.tp_types.specs.Each.{Each}
use Rattle.tp_wire_tests.specs.Ready.{IsReady}
use Rattle.tp_wire_tests.proofs.ReadyLemmas.{fresh_ready}
use Rattle.tp_wire_tests.proofs.threads.run_on.Goals as goal

pub workers-requires : goal.workers-requires
workers-requires g c =
    subst (Each (IsReady g.B.Site.table g.B.Site.about.actors)) (sym c.in_ok-wire.ensures)
    (fresh_ready g.B.Site.table g.B.Site.about.actors 0 c.args.passes (let all = c.requires.passes.1 in omega (arith, all)))
