use Rattle.std.proofs.Common.{◌≡◌, drop}
use Rattle.tp_model.specs.SerialRun.{with_deeds}
use Rattle.tp_recover.proofs.values.leave_all.Given as goal

-- the deeds that are left lead from here to where all of them lead
abbrev pub invariant-loop-deed : goal.invariant-loop-deed
invariant-loop-deed l = with_deeds l.values (drop l.deed-index l.deeds) ≡ with_deeds l.initial.values l.deeds
