use Rattle.std.proofs.Common.{refl, subst}
use Rattle.std.proofs.lemmas.Result.{on_err_weaker}
use Rattle.std.specs.Prelude.{Option}
use Rattle.tp_coord.specs.State.{Coordinator}
use Rattle.tp_machine.specs.Fits.{FitLogs, HasShortLog}
use Rattle.tp_machine.specs.Machine.{coordinator_takes, to_coordinator}
use Rattle.tp_machine.specs.Parts.{Part}
use Rattle.tp_machine.proofs.basics.Fits.{put_has}
use Rattle.tp_machine.proofs.basics.Parts.{coordinator_moves, member, no_member, same_logs, same_up}
use Rattle.tp_machine.proofs.actors.Actors.to_coordinator.Goals as goal

pub coordinator_takes-requires : goal.coordinator_takes-requires
coordinator_takes-requires g c =
    let actors = c.args.self.now in
    let part = c.in-Some.part.now in
    let found = member actors.coordinators c.args.txn.0 part (c.in-Some.ensures.variant.0 refl) c.in-Some.ensures.item.1 in
    record {
      fits = put_has (λ (p : Part Coordinator). HasShortLog p) actors.coordinators c.args.txn.0 part (coordinator_takes c.args.scenario.now part c.args.mail.now).part found
          (subst (λ (o : Option (Part Coordinator)). FitLogs (to_coordinator c.args.scenario.now actors c.args.mail.now c.args.txn o).actors) found c.requires.fits).coordinators;
    }

pub returns-in-None-clause-ok : goal.returns-in-None-clause-ok
returns-in-None-clause-ok g c =
    rw (no_member c.args.self.now.coordinators c.args.txn.0 c.in-None.ensures.variant.1, c.no_act.ensures) (record { actors_are = refl; happened_is = refl; letters_are = refl })

pub returns-in-Some-clause-ok : goal.returns-in-Some-clause-ok
returns-in-Some-clause-ok g c =
    let part = c.in-Some.part.now in
    coordinator_moves c.args.scenario.now c.args.self.now c.args.mail.now c.args.txn part c.coordinator_takes.new.part c.coordinator_takes.result
    (member c.args.self.now.coordinators c.args.txn.0 part (c.in-Some.ensures.variant.0 refl) c.in-Some.ensures.item.1) c.coordinator_takes.ensures.ok

pub returns-in-Some-clause-up : goal.returns-in-Some-clause-up
returns-in-Some-clause-up g c =
    record {
      coordinators = same_up c.args.self.now.coordinators c.args.txn.0 c.in-Some.part.now c.coordinator_takes.new.part c.in-Some.ensures.item.1 c.coordinator_takes.ensures.up;
      servers = refl;
    }

pub returns-in-Some-clause-logs : goal.returns-in-Some-clause-logs
returns-in-Some-clause-logs g c =
    on_err_weaker c.coordinator_takes.result
    (λ log. record {
      coordinators = same_logs c.args.self.now.coordinators c.args.txn.0 c.in-Some.part.now c.coordinator_takes.new.part c.in-Some.ensures.item.1 log;
      servers = refl;
    })
    c.coordinator_takes.ensures.log
