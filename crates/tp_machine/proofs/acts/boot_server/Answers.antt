use Rattle.std.proofs.Common.{inl, inr, refl, subst, sym}
use Rattle.std.proofs.lemmas.Result.{on_ok_weaker}
use Rattle.std.specs.Prelude.{[], Option, slice_get, slice_set}
use Rattle.tp_model.specs.Words.actor
use Rattle.tp_model.specs.Words.step
use Rattle.tp_server.specs.State.{Server}
use Rattle.tp_machine.specs.Fits.{FitLogs, HasShortLog}
use Rattle.tp_machine.specs.Machine.{boot_of_server, server_boots}
use Rattle.tp_machine.specs.Parts.{Part}
use Rattle.tp_machine.specs.mirrors.Acts.{Moves, SameUp}
use Rattle.tp_machine.proofs.basics.Crashes.{server_boot_moves, nobody_boots_server, server_boot_logs}
use Rattle.tp_machine.proofs.basics.Fits.{put_has}
use Rattle.tp_machine.proofs.basics.Machine.{machine_noted}
use Rattle.tp_machine.proofs.basics.Parts.{member, no_member, on_err_any, same_logs, same_up}
use Rattle.tp_machine.proofs.acts.boot_server.Goals as goal

pub returns-in_default-clause-ok : goal.returns-in_default-clause-ok
returns-in_default-clause-ok g c =
    let actors = c.args.actors.now in
    let none = no_member actors.servers c.args.at.0 c.in_default.ensures.variant.1 in
    on_ok_weaker c.boots_nobody.result
    (machine_noted actors actors c.args.history.now c.boots_nobody.new.history (step.Boot (actor.Server c.args.at)) _ (record { happened = []; letters = [] }) (nobody_boots_server c.args.scenario.now actors c.args.at none))
    c.boots_nobody.ensures.ok

pub server_boots-requires-clause-fits : goal.server_boots-requires-clause-fits
server_boots-requires-clause-fits g c =
    let actors = c.args.actors.now in
    let part = c.in-Some.part.now in
    let found = member actors.servers c.args.at.0 part (c.in-Some.ensures.variant.0 refl) c.in-Some.ensures.item.1 in
    put_has (λ (p : Part Server). HasShortLog p) actors.servers c.args.at.0 part (server_boots c.args.scenario.now c.args.at part).part found
    (subst (λ (o : Option (Part Server)). FitLogs (boot_of_server c.args.scenario.now actors c.args.at o).actors) found c.requires.fits).servers

pub returns-in_err-state-clause-up : goal.returns-in_err-state-clause-up
returns-in_err-state-clause-up g c =
    let same : SameUp c.args.actors.now (record c.args.actors.now { servers = slice_set c.args.actors.now.servers c.args.at.0 c.server_boots.new.part }) = record {
      servers = same_up c.args.actors.now.servers c.args.at.0 c.in-Some.part.now c.server_boots.new.part c.in-Some.ensures.item.1 c.server_boots.ensures.up;
      coordinators = refl;
    } in
    on_err_any _ same

pub returns-in_err-state-clause-logs : goal.returns-in_err-state-clause-logs
returns-in_err-state-clause-logs g c =
    on_err_any _ (inl (record {
      servers = same_logs c.args.actors.now.servers c.args.at.0 c.in-Some.part.now c.server_boots.new.part c.in-Some.ensures.item.1 c.in_err-state.ensures.log;
      coordinators = refl;
    }))

pub returns-in-Err-clause-up : goal.returns-in-Err-clause-up
returns-in-Err-clause-up g c =
    record {
      servers = same_up c.args.actors.now.servers c.args.at.0 c.in-Some.part.now c.server_boots.new.part c.in-Some.ensures.item.1 c.server_boots.ensures.up;
      coordinators = refl;
    }

pub returns-in-Err-clause-logs : goal.returns-in-Err-clause-logs
returns-in-Err-clause-logs g c =
    let part = c.in-Some.part.now in
    let found = member c.args.actors.now.servers c.args.at.0 part (c.in-Some.ensures.variant.0 refl) c.in-Some.ensures.item.1 in
    inr (server_boot_logs c.args.scenario.now c.args.actors.now c.args.at part c.server_boots.new.part c.in_ok-state.state c.in_ok-state.act found c.in_ok-state.ensures.ok)

pub returns-in-Ok-clause-ok : goal.returns-in-Ok-clause-ok
returns-in-Ok-clause-ok g c =
    let actors = c.args.actors.now in
    let part = c.in-Some.part.now in
    let found = member actors.servers c.args.at.0 part (c.in-Some.ensures.variant.0 refl) c.in-Some.ensures.item.1 in
    machine_noted actors _ c.args.history.now c.note.new.self (step.Boot (actor.Server c.args.at)) _ c.in_ok-state.act
    (subst (λ (p : Part Server). Moves (boot_of_server c.args.scenario.now actors c.args.at (slice_get actors.servers c.args.at.0)) (record actors { servers = slice_set actors.servers c.args.at.0 p }) c.in_ok-state.act) (sym c.comes_up.ensures)
    (server_boot_moves c.args.scenario.now actors c.args.at part c.server_boots.new.part c.in_ok-state.state c.in_ok-state.act found c.in_ok-state.ensures.ok))
    c.in-Ok.ensures.ok
