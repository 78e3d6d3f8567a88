use Rattle.std.proofs.Common.{◌≡◌}
use Rattle.tp_types.specs.Each.{Each}
use Rattle.tp_wire.specs.Passes.{Known}
use Rattle.tp_wire_tests.proofs.threads.parted.Given as goal

abbrev pub invariant-loop-worker : goal.invariant-loop-worker
invariant-loop-worker g l = Each (λ (p : Known). p.table ≡ g.B.Site.table) l.passes
