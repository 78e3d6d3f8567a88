use Rattle.std.proofs.Common.{length, ap, sym, ◌∙◌}
use Rattle.tp_machine.proofs.basics.Flags.{length-flags_mails_of}
use Rattle.tp_machine.proofs.history.History.note.Goals as goal

pub invariant_of-self : goal.invariant_of-self
invariant_of-self c =
    let old = c.args.self.now in
    record {
      flagged = ap length c.in-Ok.ensures.pending
          ∙ (length-flags_mails_of (length old.steps) old.pending old.mails c.args.letters old.flagged ∙ ap length (sym c.in-Ok.ensures.mails));
    }
