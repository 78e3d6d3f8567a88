use Rattle.std.proofs.Common.{List, ap, ◌++◌, ◌∷◌, [], ◌∙◌}
use Rattle.std.proofs.lemmas.Result.{on_err_weaker, on_ok_weaker}
use Rattle.tp_types.specs.declared.records.Record.{Record}
use Rattle.tp_actor_log.proofs.DiskLemmas.{appended}
use Rattle.tp_actor_log.proofs.disks.force.Goals as goal

pub returns-clause-forced : goal.returns-clause-forced
returns-clause-forced c =
    let done = c.append_running.ensures in
    (appended c.open.new.log c.append_running.new.self c.args.forced.now c.append_running.result c.open.ensures.forced c.in_ok-open.ensures.ok done.kept done.stays done.running).forced

pub returns-clause-ok : goal.returns-clause-ok
returns-clause-ok c =
    let done = c.append_running.ensures in
    let now = appended c.open.new.log c.append_running.new.self c.args.forced.now c.append_running.result c.open.ensures.forced c.in_ok-open.ensures.ok done.kept done.stays done.running in
    on_ok_weaker c.append_running.result (λ same. same ∙ ap (λ (rs : List Record). rs ++ c.args.forced.now ∷ []) c.open.ensures.same) now.one_more

pub returns-clause-err : goal.returns-clause-err
returns-clause-err c =
    let done = c.append_running.ensures in
    let now = appended c.open.new.log c.append_running.new.self c.args.forced.now c.append_running.result c.open.ensures.forced c.in_ok-open.ensures.ok done.kept done.stays done.running in
    on_err_weaker c.append_running.result (λ same. same ∙ c.open.ensures.same) now.same
