use Rattle.tp_model.specs.Words.step
use Rattle.tp_machine.specs.Named.{IsStepOf}
use Rattle.tp_cluster_cases.proofs.PassLemmas.{each_index}
use Rattle.tp_cluster_cases.proofs.callers.steps_done.Goals as goal

pub step-requires-clause-ids : goal.step-requires-clause-ids
step-requires-clause-ids g c =
    each_index (IsStepOf g.B.Site.about.scenario) c.args.steps.now c.loop-taken.taken-index (step.Submit (record { 0 = 0 })) c.requires.ids c.loop-taken-test.true
