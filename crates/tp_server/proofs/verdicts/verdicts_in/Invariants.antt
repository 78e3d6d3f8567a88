use Rattle.std.proofs.Common.{◌≡◌, map, take}
use Rattle.tp_server.specs.Verdicts.{verdict_on}
use Rattle.tp_server.proofs.verdicts.verdicts_in.Given as goal

-- the deeds so far have their verdicts
abbrev pub invariant-loop-deed : goal.invariant-loop-deed
invariant-loop-deed g l = l.made ≡ map (verdict_on l.case.scenario.now l.server l.case.txn.now l.case.staple.now l.case.want.now) (take l.deed-index l.deeds)
