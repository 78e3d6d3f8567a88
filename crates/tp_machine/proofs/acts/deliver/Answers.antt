use Rattle.tp_model.specs.Words.step
use Rattle.tp_machine.proofs.basics.Machine.{machine_marked}
use Rattle.tp_machine.proofs.acts.deliver.Goals as goal

pub returns-clause-ok : goal.returns-clause-ok
returns-clause-ok g c =
    machine_marked c.args.actors.now c.receive.new.actors c.args.history.now c.note.new.self c.mark.new.self (step.Deliver c.args.mail) _ c.in_ok-act.act c.args.mail
    c.requires.sent (rw c.as_slice-mails.ensures at c.in_ok-act.ensures.ok) c.in_ok-note.ensures.ok c.mark.ensures.steps c.mark.ensures.facts c.mark.ensures.mails c.mark.ensures.pending
