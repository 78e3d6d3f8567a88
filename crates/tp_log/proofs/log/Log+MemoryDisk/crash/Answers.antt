use Rattle.std.proofs.Common.{ap, ◌∙◌}
use Rattle.tp_device.specs.Memory.{Memory}
use Rattle.tp_log.specs.Logs.{LogState}
use Rattle.tp_log.proofs.InPlace.{crash_clean}
use Rattle.tp_log.proofs.log.Log+MemoryDisk.crash.Goals as goal

pub returns-clause-forced : goal.returns-clause-forced
returns-clause-forced c forced = ap (λ (l : LogState Memory). l.disk) c.crash_with.ensures.exact ∙ crash_clean 0 c.args.self.now.disk forced
