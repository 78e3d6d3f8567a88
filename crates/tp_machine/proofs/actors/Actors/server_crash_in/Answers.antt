use Rattle.std.proofs.Common.{refl, subst}
use Rattle.std.proofs.lemmas.Result.{IfOk-weaker, on_err_weaker}
use Rattle.std.specs.Prelude.{Option}
use Rattle.tp_machine.specs.Fits.{FitLogs, HasShortLog}
use Rattle.tp_machine.specs.Machine.{server_takes, to_server}
use Rattle.tp_machine.specs.Parts.{Part}
use Rattle.tp_machine.proofs.basics.Crashes.{nobody_cuts, server_cuts}
use Rattle.tp_machine.proofs.basics.Fits.{put_has, server_forces_fit}
use Rattle.tp_machine.proofs.basics.Parts.{member, no_member, same_logs, same_up}
use Rattle.tp_machine.proofs.actors.Actors.server_crash_in.Goals as goal
use Rattle.tp_server.specs.State.{Server}

pub server_crashes_in-requires-clause-fits : goal.server_crashes_in-requires-clause-fits
server_crashes_in-requires-clause-fits g c =
    let actors = c.args.self.now in
    let part = c.in-Some.part.now in
    let found = member actors.servers c.args.at.0 part (c.in-Some.ensures.variant.0 refl) c.in-Some.ensures.item.1 in
    server_forces_fit c.args.scenario.now c.args.at part c.args.mail.now part.up
    (put_has (λ (p : Part Server). HasShortLog p) actors.servers c.args.at.0 part (server_takes c.args.scenario.now c.args.at part c.args.mail.now).part found
    (subst (λ (o : Option (Part Server)). FitLogs (to_server c.args.scenario.now actors c.args.mail.now c.args.at o).actors) found c.requires.fits).servers)

pub returns-in-None-clause-ok : goal.returns-in-None-clause-ok
returns-in-None-clause-ok g c =
    IfOk-weaker c.alone.result _ _
    (λ made e mails sent. nobody_cuts c.args.scenario.now c.args.self.now mails c.args.at c.args.cut made (no_member c.args.self.now.servers c.args.at.0 c.in-None.ensures.variant.1) e)
    c.alone.ensures

pub returns-in-Some-clause-ok : goal.returns-in-Some-clause-ok
returns-in-Some-clause-ok g c =
    let part = c.in-Some.part.now in
    let found = member c.args.self.now.servers c.args.at.0 part (c.in-Some.ensures.variant.0 refl) c.in-Some.ensures.item.1 in
    IfOk-weaker c.server_crashes_in.result _ _
    (λ made h mails sent. server_cuts c.args.scenario.now c.args.self.now mails c.args.at c.args.cut c.args.mail.now part c.server_crashes_in.new.part made found sent h)
    c.server_crashes_in.ensures.ok

pub returns-in-Some-clause-up : goal.returns-in-Some-clause-up
returns-in-Some-clause-up g c =
    record {
      servers = same_up c.args.self.now.servers c.args.at.0 c.in-Some.part.now c.server_crashes_in.new.part c.in-Some.ensures.item.1 c.server_crashes_in.ensures.up;
      coordinators = refl;
    }

pub returns-in-Some-clause-logs : goal.returns-in-Some-clause-logs
returns-in-Some-clause-logs g c =
    on_err_weaker c.server_crashes_in.result
    (λ log. record {
      servers = same_logs c.args.self.now.servers c.args.at.0 c.in-Some.part.now c.server_crashes_in.new.part c.in-Some.ensures.item.1 log;
      coordinators = refl;
    })
    c.server_crashes_in.ensures.log
