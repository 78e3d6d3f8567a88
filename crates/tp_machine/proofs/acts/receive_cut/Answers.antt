use Rattle.std.proofs.lemmas.Result.{IfOk-weaker}
use Rattle.tp_machine.proofs.basics.Fits.{own_receipt}
use Rattle.std.specs.Prelude.{slice_get}
use Rattle.tp_machine.proofs.basics.Parts.{member}
use Rattle.tp_machine.proofs.acts.receive_cut.Goals as goal

pub crash_in-requires-clause-fits : goal.crash_in-requires-clause-fits
crash_in-requires-clause-fits g c =
    own_receipt c.args.scenario.now c.args.actors.now c.args.actor c.args.cut.mail (slice_get c.args.mails.now c.args.cut.mail) c.in-Some.found.now (member c.args.mails.now c.args.cut.mail c.in-Some.found.now c.requires.sent c.in-Some.ensures.lookup.1) c.requires.its c.requires.fits

pub returns-in-Some-clause-ok : goal.returns-in-Some-clause-ok
returns-in-Some-clause-ok g c =
    IfOk-weaker c.crash_in.result _ _ (λ act h. h c.args.mails.now (member c.args.mails.now c.args.cut.mail c.in-Some.found.now c.requires.sent c.in-Some.ensures.lookup.1)) c.crash_in.ensures.ok
