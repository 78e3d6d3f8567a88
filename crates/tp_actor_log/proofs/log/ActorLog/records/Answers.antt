use Rattle.std.proofs.Common.{◌∙◌}
use Rattle.std.proofs.lemmas.Result.{IfOk-weaker}
use Rattle.tp_log.proofs.Blocks.{gives_one}
use Rattle.tp_actor_log.specs.mirrors.Disks.{records_on}
use Rattle.tp_actor_log.proofs.log.ActorLog.records.Goals as goal

pub returns : goal.returns
returns c =
    let log = c.self.inside.log in
    IfOk-weaker c.records.result _ _
    (λ records gives. gives_one log.disk.disk.seen records (records_on log) gives c.self.invariant.disk.gives ∙ c.self.view_is)
    c.records.ensures
