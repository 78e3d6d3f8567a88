use Rattle.std.proofs.Common.{ap, arith}
use Rattle.tp_machine.specs.Machine.{Machine}
use Rattle.tp_runs.proofs.runs.Runs.{few_after}
use Rattle.tp_runs.proofs.history.mails.Goals as goal

pub returns-clause-few : goal.returns-clause-few
returns-clause-few c = λ up.
    let world = c.args.world.now in
    let sent = few_after world.scenario world.machine.state.steps world.machine.state c.facts-facts.ensures.valid c.facts-facts.ensures.named (ap (λ (m : Machine). m.state) (c.facts-facts.ensures.reached up)) in
    omega (arith, sent, c.mails.ensures)
