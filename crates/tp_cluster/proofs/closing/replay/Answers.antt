use Rattle.std.proofs.Common.{◌++◌, ◌∷◌, [], ◌∙◌, ap, sym, subst, List}
use Rattle.std.specs.Vec.Iter.{into_iter_items}
use Rattle.tp_model.specs.Words.{Scenario, Step}
use Rattle.tp_machine.specs.Named.{IsStepOf}
use Rattle.tp_cluster.proofs.ReplayLemmas.{next_allowed, next_named, refused_no_step, so_far_next}
use Rattle.tp_cluster.proofs.closing.replay.Goals as goal

pub step-requires : goal.step-requires
step-requires c =
    let i = c.loop-taken.invariant in
    let law = c.requires.lawful in
    let left = into_iter_items c.next.new.self in
    record {
      ids = subst (λ (s : Scenario). IsStepOf s c.in-Some.taken) (sym i.1.scenario)
          (next_named c.args.world.scenario law.0 i.0 c.in-Some.taken left law.2 (ap (λ (l : List Step). i.0 ++ l) (sym c.in-Some.ensures.steps.0) ∙ (i.1.whole ∙ law.1)));
    }

pub loop-taken-preserved : goal.loop-taken-preserved
loop-taken-preserved c =
    let i = c.loop-taken.invariant in (
      i.0 ++ c.in-Some.taken ∷ [],
      so_far_next c.args.world.scenario c.args.steps i.0 (into_iter_items c.loop-taken.taken-iterator) (into_iter_items c.next.new.self) c.in-Some.taken c.loop-taken.world c.step.new.self
          i.1 c.in-Some.ensures.steps.0 c.in-Ok.ensures.ok,
    )

pub unreachable-requires : goal.unreachable-requires
unreachable-requires c =
    let i = c.loop-taken.invariant in
    let law = c.requires.lawful in
    let left = into_iter_items c.next.new.self in
    refused_no_step c.args.world.scenario i.0 c.in-Some.taken c.loop-taken.world c.step.new.self c.in-Err.why i.1.machine
    (next_allowed c.args.world.scenario law.0 i.0 c.in-Some.taken left law.2 (ap (λ (l : List Step). i.0 ++ l) (sym c.in-Some.ensures.steps.0) ∙ (i.1.whole ∙ law.1)))
    (c.in-Err.ensures.refused (c.is_refusal.ensures c.if-is_refusal.true))
