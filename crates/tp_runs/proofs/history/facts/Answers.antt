use Rattle.std.proofs.Common.{ap}
use Rattle.tp_machine.specs.Machine.{Machine}
use Rattle.tp_runs.proofs.runs.Runs.{bounded_after, so_far_after, sound_after}
use Rattle.tp_runs.proofs.history.facts.Goals as goal

pub returns-clause-so_far : goal.returns-clause-so_far
returns-clause-so_far c = λ up.
    let world = c.args.world.now in
    so_far_after world.scenario world.machine.state.steps world.machine.state c.facts.ensures.valid c.facts.ensures.named (ap (λ (m : Machine). m.state) (c.facts.ensures.reached up))

pub returns-clause-sound : goal.returns-clause-sound
returns-clause-sound c = λ up.
    let world = c.args.world.now in
    sound_after world.scenario world.machine.state.steps world.machine c.facts.ensures.valid c.facts.ensures.named (c.facts.ensures.reached up)

pub returns-clause-bounded : goal.returns-clause-bounded
returns-clause-bounded c = λ up.
    let world = c.args.world.now in
    bounded_after world.scenario world.machine.state.steps world.machine.state c.facts.ensures.valid c.facts.ensures.named (ap (λ (m : Machine). m.state) (c.facts.ensures.reached up))
