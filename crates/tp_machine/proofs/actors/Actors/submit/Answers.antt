use Rattle.std.proofs.Common.{refl, subst}
use Rattle.std.proofs.lemmas.Result.{on_err_weaker}
use Rattle.std.specs.Prelude.{Option}
use Rattle.tp_coord.specs.State.{Coordinator}
use Rattle.tp_machine.specs.Fits.{FitLogs, HasShortLog}
use Rattle.tp_machine.specs.Machine.{coordinator_submits, submission_by}
use Rattle.tp_machine.specs.Parts.{Part}
use Rattle.tp_machine.proofs.basics.Fits.{put_has}
use Rattle.tp_machine.proofs.basics.Parts.{member, no_member, same_logs, same_up, submission_moves}
use Rattle.tp_machine.proofs.actors.Actors.submit.Goals as goal

pub coordinator_submits-requires : goal.coordinator_submits-requires
coordinator_submits-requires g c =
    let actors = c.args.self.now in
    let part = c.in-Some.part.now in
    let found = member actors.coordinators c.args.txn.0 part (c.in-Some.ensures.variant.0 refl) c.in-Some.ensures.item.1 in
    record {
      fits = put_has (λ (p : Part Coordinator). HasShortLog p) actors.coordinators c.args.txn.0 part (coordinator_submits c.args.scenario.now part c.args.txn c.args.place).part found
          (subst (λ (o : Option (Part Coordinator)). FitLogs (submission_by c.args.scenario.now actors c.args.txn c.args.place o).actors) found c.requires.fits).coordinators;
    }

pub returns-in-Some-clause-ok : goal.returns-in-Some-clause-ok
returns-in-Some-clause-ok g c =
    let part = c.in-Some.part.now in
    submission_moves c.args.scenario.now c.args.self.now c.args.txn c.args.place part c.coordinator_submits.new.part c.coordinator_submits.result
    (member c.args.self.now.coordinators c.args.txn.0 part (c.in-Some.ensures.variant.0 refl) c.in-Some.ensures.item.1) c.coordinator_submits.ensures.ok

pub returns-in-Some-clause-up : goal.returns-in-Some-clause-up
returns-in-Some-clause-up g c =
    record {
      coordinators = same_up c.args.self.now.coordinators c.args.txn.0 c.in-Some.part.now c.coordinator_submits.new.part c.in-Some.ensures.item.1 c.coordinator_submits.ensures.up;
      servers = refl;
    }

pub returns-in-Some-clause-logs : goal.returns-in-Some-clause-logs
returns-in-Some-clause-logs g c =
    on_err_weaker c.coordinator_submits.result
    (λ log. record {
      coordinators = same_logs c.args.self.now.coordinators c.args.txn.0 c.in-Some.part.now c.coordinator_submits.new.part c.in-Some.ensures.item.1 log;
      servers = refl;
    })
    c.coordinator_submits.ensures.log
