use Rattle.std.proofs.Common.{subst}
use Rattle.tp_machine.specs.Named.{IsStepOf}
use Rattle.tp_machine.specs.WorldView.{WorldView}
use Rattle.tp_machine.proofs.world.World.facts.Goals as goal
use Rattle.tp_types.specs.Each.{Each}

pub returns-clause-named : goal.returns-clause-named
returns-clause-named c = subst (λ (w : WorldView). Each (IsStepOf w.scenario) w.machine.state.steps) c.self.view_is c.self.invariant.0.named
