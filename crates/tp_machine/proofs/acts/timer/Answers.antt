use Rattle.std.proofs.lemmas.Result.{on_ok_weaker}
use Rattle.tp_model.specs.Words.step
use Rattle.tp_machine.proofs.basics.Machine.{machine_noted}
use Rattle.tp_machine.proofs.acts.timer.Goals as goal

pub returns-clause-ok : goal.returns-clause-ok
returns-clause-ok c =
    on_ok_weaker c.note.result
    (machine_noted c.args.actors.now c.args.actors.now c.args.history.now c.note.new.self (step.Timer c.args.txn) _ c.in_ok-act.act c.in_ok-act.ensures)
    c.note.ensures.ok
