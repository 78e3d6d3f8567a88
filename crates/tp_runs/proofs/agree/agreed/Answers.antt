use Rattle.std.proofs.Common.{◌∙◌}
use Rattle.tp_runs.proofs.runs.Runs.{agreed_after}
use Rattle.tp_runs.proofs.agree.agreed.Goals as goal

pub returns-clause-agreement : goal.returns-clause-agreement
returns-clause-agreement c =
    let world = c.args.world.now in
    agreed_after world.scenario world.machine.state.steps c.facts.result.now c.facts.ensures.valid c.facts.ensures.named (c.facts.ensures.value ∙ c.facts.ensures.of_steps)
