use Rattle.std.proofs.Common.{refl, subst}
use Rattle.std.proofs.lemmas.Result.{on_err_weaker}
use Rattle.std.specs.Prelude.{Option}
use Rattle.tp_machine.specs.Fits.{FitLogs, HasShortLog}
use Rattle.tp_machine.specs.Machine.{server_takes, to_server}
use Rattle.tp_machine.specs.Parts.{Part}
use Rattle.tp_machine.proofs.basics.Fits.{put_has}
use Rattle.tp_machine.proofs.basics.Parts.{member, no_member, same_logs, same_up, server_moves}
use Rattle.tp_machine.proofs.actors.Actors.to_server.Goals as goal
use Rattle.tp_server.specs.State.{Server}

pub server_takes-requires-clause-fits : goal.server_takes-requires-clause-fits
server_takes-requires-clause-fits g c =
    let actors = c.args.self.now in
    let part = c.in-Some.part.now in
    let found = member actors.servers c.args.at.0 part (c.in-Some.ensures.variant.0 refl) c.in-Some.ensures.item.1 in
    put_has (λ (p : Part Server). HasShortLog p) actors.servers c.args.at.0 part (server_takes c.args.scenario.now c.args.at part c.args.mail.now).part found
    (subst (λ (o : Option (Part Server)). FitLogs (to_server c.args.scenario.now actors c.args.mail.now c.args.at o).actors) found c.requires.fits).servers

pub returns-in-None-clause-ok : goal.returns-in-None-clause-ok
returns-in-None-clause-ok g c =
    rw (no_member c.args.self.now.servers c.args.at.0 c.in-None.ensures.variant.1, c.no_act.ensures) (record { actors_are = refl; happened_is = refl; letters_are = refl })

pub returns-in-Some-clause-ok : goal.returns-in-Some-clause-ok
returns-in-Some-clause-ok g c =
    let part = c.in-Some.part.now in
    server_moves c.args.scenario.now c.args.self.now c.args.mail.now c.args.at part c.server_takes.new.part c.server_takes.result
    (member c.args.self.now.servers c.args.at.0 part (c.in-Some.ensures.variant.0 refl) c.in-Some.ensures.item.1) c.server_takes.ensures.ok

pub returns-in-Some-clause-up : goal.returns-in-Some-clause-up
returns-in-Some-clause-up g c =
    record {
      servers = same_up c.args.self.now.servers c.args.at.0 c.in-Some.part.now c.server_takes.new.part c.in-Some.ensures.item.1 c.server_takes.ensures.up;
      coordinators = refl;
    }

pub returns-in-Some-clause-logs : goal.returns-in-Some-clause-logs
returns-in-Some-clause-logs g c =
    on_err_weaker c.server_takes.result
    (λ log. record {
      servers = same_logs c.args.self.now.servers c.args.at.0 c.in-Some.part.now c.server_takes.new.part c.in-Some.ensures.item.1 log;
      coordinators = refl;
    })
    c.server_takes.ensures.log
