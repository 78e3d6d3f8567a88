use Rattle.std.proofs.Common.{Some, ap, subst, sym, ◌∙◌, ◌≡◌}
use Rattle.tp_types.specs.Effect.{logs}
use Rattle.tp_lock.specs.Rule.{first_grant}
use Rattle.tp_lock.specs.Table.{Table}
use Rattle.tp_model.specs.Words.log
use Rattle.tp_server.specs.Row.{after_grants, resumes, taken_from}
use Rattle.tp_server.specs.State.{Server}
use Rattle.tp_server.specs.mirrors.Entries.{Continues}
use Rattle.tp_server.proofs.GrantLemmas.{one_granted}
use Rattle.tp_server.proofs.server.Server.ends.Goals as goal

pub loop-grant-preserved : goal.loop-grant-preserved
loop-grant-preserved g c =
    let sc = c.args.scenario.now in
    let inside = c.self-in-loop-grant.inside in
    let before : Server = record { server = inside.server; epoch = inside.epoch; store = inside.store; settled = inside.settled; entries = inside.entries; locks = g.L.LockTable.table inside.locks } in
    let forced = log.Settled c.args.settled in
    let taken = c.take_granted.ensures.left in
    let resumed : Continues (resumes sc (taken_from before) c.in-Some.grant.owner) c.resumes.new.self c.loop-grant.letters c.resumes.new.letters =
    subst (λ (locks : Table). Continues (resumes sc (record before { locks = locks }) c.in-Some.grant.owner) c.resumes.new.self c.loop-grant.letters c.resumes.new.letters) taken c.in_ok-resumes.ensures in
    let first : first_grant before.locks ≡ Some c.in-Some.grant = sym c.in-Some.ensures.granted in
    let same : before ≡ c.loop-grant.self = c.self-in-loop-grant.view_is in
    one_granted sc before c.resumes.new.self c.in-Some.grant forced c.loop-grant.letters c.resumes.new.letters resumed first
    ∙ ap (λ (s : Server). after_grants sc s.locks.grants (logs s forced c.loop-grant.letters)) same ∙ c.loop-grant.invariant
