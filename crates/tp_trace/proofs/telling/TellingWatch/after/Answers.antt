use Rattle.std.proofs.Common.{◌∙◌, sym}
use Rattle.tp_trace.proofs.TellingLemmas.{told_after}
use Rattle.tp_trace.proofs.telling.TellingWatch.after.Goals as goal

pub returns-in-Ok : goal.returns-in-Ok
returns-in-Ok c =
    λ seen kept. told_after c.args.self.now c.args.world.now c.args._taken.now c.in-Some.noted _ seen kept (sym c.in-Some.ensures.value) c.in-Ok.ensures
