use Rattle.std.proofs.lemmas.Result.{on_ok_weaker}
use Rattle.tp_model.specs.Words.step
use Rattle.tp_machine.proofs.basics.Machine.{machine_noted}
use Rattle.tp_machine.proofs.acts.submit.Goals as goal

pub returns-clause-ok : goal.returns-clause-ok
returns-clause-ok g c =
    on_ok_weaker c.note.result
    (machine_noted c.args.actors.now c.submit.new.self c.args.history.now c.note.new.self (step.Submit c.args.txn) _ c.in_ok-act.act (rw c.len-place.ensures at c.in_ok-act.ensures.ok))
    c.note.ensures.ok
