use Rattle.std.specs.Prelude.{[], ◌∷◌}
use Rattle.std.proofs.Common.{ap, refl}
use Rattle.tp_model.specs.Words.step
use Rattle.tp_model.specs.Words.what
use Rattle.tp_machine.specs.declared.part.Act.{Act}
use Rattle.tp_machine.specs.Machine.{idle_move}
use Rattle.tp_machine.proofs.basics.Machine.{machine_marked}
use Rattle.tp_machine.proofs.acts.lose.Goals as goal

pub returns-clause-ok : goal.returns-clause-ok
returns-clause-ok c =
    machine_marked c.args.actors.now c.args.actors.now c.args.history.now c.note.new.self c.mark.new.self (step.Lose c.args.mail) (idle_move c.args.actors.now (what.Lost c.args.mail ∷ [])) c.in_ok-act.act c.args.mail
    c.requires.sent (record { actors_are = refl; happened_is = ap (λ (a : Act). a.happened) c.in_ok-act.ensures; letters_are = ap (λ (a : Act). a.letters) c.in_ok-act.ensures })
    c.in_ok-note.ensures.ok c.mark.ensures.steps c.mark.ensures.facts c.mark.ensures.mails c.mark.ensures.pending
