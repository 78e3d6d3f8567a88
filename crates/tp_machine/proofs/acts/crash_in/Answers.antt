use Rattle.std.proofs.Common.{subst, sym}
use Rattle.std.specs.Prelude.{Some}
use Rattle.tp_model.specs.Words.step
use Rattle.tp_machine.specs.declared.actors.Actors.{Actors}
use Rattle.tp_machine.specs.mirrors.Acts.{Moves}
use Rattle.tp_machine.specs.Machine.{crashes}
use Rattle.tp_machine.proofs.basics.Crashes.{cut_logs}
use Rattle.tp_machine.proofs.basics.Machine.{machine_marked}
use Rattle.tp_machine.proofs.basics.Parts.{on_err_any}
use Rattle.tp_machine.proofs.acts.crash_in.Goals as goal

pub returns-in_err-note-clause-logs : goal.returns-in_err-note-clause-logs
returns-in_err-note-clause-logs g c =
    let moves = rw c.as_slice-mails.ensures at c.in_ok-act.ensures.ok in
    on_err_any _ (cut_logs c.args.actors.now c.receive_cut.new.actors (crashes c.args.scenario.now c.args.actors.now c.args.history.now.mails c.args.actor (Some c.args.cut)).actors c.args.actor moves.actors_are)

pub returns-clause-ok : goal.returns-clause-ok
returns-clause-ok g c =
    let actors = c.args.actors.now in
    let history = c.args.history.now in
    let act = c.in_ok-act.act in
    let move = crashes c.args.scenario.now actors history.mails c.args.actor (Some c.args.cut) in
    machine_marked actors c.goes_down.new.self history c.note.new.self c.mark.new.self (step.Crash c.args.actor (Some c.args.cut)) move act c.args.cut.mail c.requires.sent
    (subst (λ (a : Actors). Moves move a act) (sym c.goes_down.ensures) (rw c.as_slice-mails.ensures at c.in_ok-act.ensures.ok))
    c.in_ok-note.ensures.ok c.mark.ensures.steps c.mark.ensures.facts c.mark.ensures.mails c.mark.ensures.pending
