use Rattle.std.proofs.Common.{[], ap}
use Rattle.tp_coord.specs.Row.{coordinator_row}
use Rattle.tp_coord.specs.State.{Coordinator}
use Rattle.tp_machine.specs.Parts.{Part}
use Rattle.tp_machine.specs.Machine.{coordinator_fact}
use Rattle.tp_machine.proofs.basics.Acted.{acted}
use Rattle.tp_machine.proofs.part.coordinator_takes.Goals as goal

pub returns-in-Ok-clause-ok : goal.returns-in-Ok-clause-ok
returns-in-Ok-clause-ok g c =
    rw (← c.part.view_is, c.in-Some.is)
    (acted coordinator_fact [] c.args.part.now c.forced_with_room.new.part _ (coordinator_row c.args.scenario.now c.in-Some.coordinator c.args.mail.now) c.receive.new.self c.in_ok-append.field-0 c.coordinator_facts_in-happened.result c.in_ok-append.ensures
    (ap (λ (p : Part Coordinator). p.log) c.part.view_is) c.in-Ok.ensures.forced c.coordinator_facts_in-happened.ensures)
