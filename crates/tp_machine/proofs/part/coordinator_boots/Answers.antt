use Rattle.std.proofs.Common.{ap}
use Rattle.tp_coord.specs.Booted.{boot_row}
use Rattle.tp_coord.specs.State.{Coordinator}
use Rattle.tp_machine.specs.Parts.{Part}
use Rattle.tp_machine.specs.Machine.{coordinator_fact}
use Rattle.tp_machine.proofs.basics.Acted.{boot_by}
use Rattle.tp_machine.proofs.part.coordinator_boots.Goals as goal

pub returns-clause-ok : goal.returns-clause-ok
returns-clause-ok g c =
    boot_by coordinator_fact c.args.part.now c.noted.new.part _ (boot_row c.args.scenario.now c.args.txn c.args.part.now.log) c.in_ok-state.state c.in_ok-state.reaction c.in_ok-act.act c.in_ok-state.ensures.made
    (ap (λ (p : Part Coordinator). p.log) c.in_ok-state.ensures.same) (ap (λ (p : Part Coordinator). p.log) c.in_ok-act.ensures.forced) (c.in_ok-act.ensures.told _ c.coordinator_facts-happened.ensures)
