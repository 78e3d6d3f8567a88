use Rattle.std.proofs.Common.{drop, ◌≡◌}
use Rattle.tp_server.specs.Verdicts.{with_versions}
use Rattle.tp_server.proofs.verdicts.learn.Given as goal

-- the versions that are left go on from those learnt so far
abbrev pub invariant-loop-wanted : goal.invariant-loop-wanted
invariant-loop-wanted l = with_versions l.store (drop l.wanted-index l.want) ≡ with_versions l.fn.store l.want
