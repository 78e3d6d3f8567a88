use Rattle.std.proofs.Common.{◌∙◌, ℕ, Option, Some, ap, find, take}
use Rattle.std.specs.Option.{option_or}
use Rattle.tp_machine.specs.declared.actors.Actors.{Actors}
use Rattle.tp_machine.specs.Machine.{is_armed_at}
use Rattle.tp_model.specs.Words.{Scenario, TxnId}
use Rattle.tp_auto.specs.Auto.{txns_of}
use Rattle.tp_auto.proofs.NextLemmas.{chosen_allowed, chosen_exists}
use Rattle.tp_auto.proofs.auto.first_armed.Goals as goal

-- what is found at or after the cursor comes before what stands before it
abbrev behind_first : Scenario → Actors → ℕ → Option TxnId → Option TxnId
behind_first sc actors cursor found = option_or found (find (is_armed_at actors) (take cursor (txns_of sc)))

pub returns-in-Some-clause-declared : goal.returns-in-Some-clause-declared
returns-in-Some-clause-declared c =
    let world = c.args.world.now in
    chosen_exists world.scenario world.machine.state.actors c.args.cursor (Some c.in-Some.txn) (ap (behind_first world.scenario world.machine.state.actors c.args.cursor) c.in-Some.ensures.value)

pub returns-in-Some-clause-allowed : goal.returns-in-Some-clause-allowed
returns-in-Some-clause-allowed c =
    let world = c.args.world.now in
    chosen_allowed world.scenario world.machine.state c.args.cursor (Some c.in-Some.txn) (ap (behind_first world.scenario world.machine.state.actors c.args.cursor) c.in-Some.ensures.value)

pub returns-in-None-clause-declared : goal.returns-in-None-clause-declared
returns-in-None-clause-declared c =
    let world = c.args.world.now in
    chosen_exists world.scenario world.machine.state.actors c.args.cursor c.armed_before.result
    (c.armed_before.ensures.value ∙ ap (behind_first world.scenario world.machine.state.actors c.args.cursor) c.in-None.ensures.value)

pub returns-in-None-clause-allowed : goal.returns-in-None-clause-allowed
returns-in-None-clause-allowed c =
    let world = c.args.world.now in
    chosen_allowed world.scenario world.machine.state c.args.cursor c.armed_before.result
    (c.armed_before.ensures.value ∙ ap (behind_first world.scenario world.machine.state.actors c.args.cursor) c.in-None.ensures.value)
