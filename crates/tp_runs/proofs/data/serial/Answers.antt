use Rattle.std.proofs.Common.{◌∙◌}
use Rattle.tp_runs.proofs.runs.Runs.{lone_after, serial_after}
use Rattle.tp_runs.proofs.data.serial.Goals as goal

pub returns-clause-data : goal.returns-clause-data
returns-clause-data c =
    let world = c.args.world.now in
    serial_after world.scenario world.machine.state.steps c.facts.result.now c.facts.ensures.valid c.facts.ensures.named (c.facts.ensures.value ∙ c.facts.ensures.of_steps)

pub returns-clause-lone : goal.returns-clause-lone
returns-clause-lone c =
    let world = c.args.world.now in
    lone_after world.scenario world.machine.state.steps c.facts.result.now c.facts.ensures.valid c.facts.ensures.named (c.facts.ensures.value ∙ c.facts.ensures.of_steps)
