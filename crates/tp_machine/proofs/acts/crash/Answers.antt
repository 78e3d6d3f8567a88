use Rattle.std.proofs.Common.{subst, sym}
use Rattle.std.specs.Prelude.{None}
use Rattle.tp_model.specs.Words.step
use Rattle.tp_machine.specs.declared.actors.Actors.{Actors}
use Rattle.tp_machine.specs.mirrors.Acts.{Moves}
use Rattle.tp_machine.specs.Machine.{crashes}
use Rattle.tp_machine.proofs.basics.Crashes.{crash_moves}
use Rattle.tp_machine.proofs.basics.Machine.{machine_noted}
use Rattle.tp_machine.proofs.acts.crash.Goals as goal

pub returns-clause-ok : goal.returns-clause-ok
returns-clause-ok c =
    let actors = c.args.actors.now in
    let history = c.args.history.now in
    let act = c.in_ok-act.act in
    λ sc. machine_noted actors c.goes_down.new.self history c.note.new.self (step.Crash c.args.actor None) (crashes sc actors history.mails c.args.actor None) act
    (subst (λ (a : Actors). Moves (crashes sc actors history.mails c.args.actor None) a act) (sym c.goes_down.ensures) (crash_moves sc actors history.mails c.args.actor act c.in_ok-act.ensures))
    c.in_ok-note.ensures.ok
