use Rattle.std.proofs.Common.{◌∙◌}
use Rattle.tp_runs.proofs.runs.Runs.{caused_after, trusted_after}
use Rattle.tp_runs.proofs.views.trusted.Goals as goal

pub returns-clause-trust : goal.returns-clause-trust
returns-clause-trust c =
    let world = c.args.world.now in
    trusted_after world.scenario world.machine.state.steps c.facts.result.now c.facts.ensures.valid c.facts.ensures.named (c.facts.ensures.value ∙ c.facts.ensures.of_steps)

pub returns-clause-causes : goal.returns-clause-causes
returns-clause-causes c =
    let world = c.args.world.now in
    caused_after world.scenario world.machine.state.steps c.facts.result.now c.facts.ensures.valid c.facts.ensures.named (c.facts.ensures.value ∙ c.facts.ensures.of_steps)
