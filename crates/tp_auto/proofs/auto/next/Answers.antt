use Rattle.std.proofs.Common.{Some}
use Rattle.tp_auto.proofs.NextLemmas.{down_allowed, down_exists}
use Rattle.tp_auto.proofs.auto.next.Goals as goal

pub returns-in-Some-clause-ids : goal.returns-in-Some-clause-ids
returns-in-Some-clause-ids c =
    let world = c.args.world.now in
    down_exists world.scenario world.machine.state.actors (Some c.in-Some.actor) c.in-Some.ensures.value

pub returns-in-Some-clause-allowed : goal.returns-in-Some-clause-allowed
returns-in-Some-clause-allowed c =
    let world = c.args.world.now in
    down_allowed world.scenario world.machine.state (Some c.in-Some.actor) c.in-Some.ensures.value
