use Rattle.std.proofs.Common.{List, ap, ◌∙◌}
use Rattle.tp_types.specs.declared.records.Record.{Record}
use Rattle.tp_log.specs.Appends.{kept_after}
use Rattle.tp_actor_log.specs.mirrors.Disks.{records_on}
use Rattle.tp_actor_log.proofs.DiskLemmas.{closed_records, kept_records}
use Rattle.tp_actor_log.proofs.disks.tear.Goals as goal

pub returns-in-Ok-clause-forced : goal.returns-in-Ok-clause-forced
returns-in-Ok-clause-forced c =
    let before = c.open.new.log in
    let done = c.in-Ok.ensures in
    (closed_records c.crash_in_append.new.self (kept_after c.args.cut.calls c.args.cut.fill (records_on before) c.args.forced.now)
    (done.kept (records_on before) (c.open.ensures.forced.keeps c.in_ok-open.ensures.ok)) done.forced done.running done.closed).forced

pub returns-in-Ok-clause-ok : goal.returns-in-Ok-clause-ok
returns-in-Ok-clause-ok c =
    let before = c.open.new.log in
    let done = c.in-Ok.ensures in
    (closed_records c.crash_in_append.new.self (kept_after c.args.cut.calls c.args.cut.fill (records_on before) c.args.forced.now)
    (done.kept (records_on before) (c.open.ensures.forced.keeps c.in_ok-open.ensures.ok)) done.forced done.running done.closed).same
    ∙ ap (λ (rs : List Record). kept_after c.args.cut.calls c.args.cut.fill rs c.args.forced.now) c.open.ensures.same

pub returns-in-Err-NoMemory-clause-forced : goal.returns-in-Err-NoMemory-clause-forced
returns-in-Err-NoMemory-clause-forced c =
    let before = c.open.new.log in
    let done = c.in-Err-NoMemory.ensures in
    (kept_records c.crash_in_append.new.self (records_on before) (done.stays (records_on before) (c.open.ensures.forced.keeps c.in_ok-open.ensures.ok)) done.running).forced

pub returns-in-Err-NoMemory-clause-err : goal.returns-in-Err-NoMemory-clause-err
returns-in-Err-NoMemory-clause-err c =
    let before = c.open.new.log in
    let done = c.in-Err-NoMemory.ensures in
    (kept_records c.crash_in_append.new.self (records_on before) (done.stays (records_on before) (c.open.ensures.forced.keeps c.in_ok-open.ensures.ok)) done.running).same ∙ c.open.ensures.same
