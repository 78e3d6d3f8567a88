use Rattle.std.proofs.Common.{subst, sym}
use Rattle.tp_machine.specs.Fits.{AllFitLogs}
use Rattle.tp_machine.proofs.world.World.start.Goals as goal

pub of-requires-clause-fit : goal.of-requires-clause-fit
of-requires-clause-fit c = subst AllFitLogs (sym c.in_ok-own.ensures) c.requires.fit
