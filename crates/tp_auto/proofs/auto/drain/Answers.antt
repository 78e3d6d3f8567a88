use Rattle.std.proofs.Common.{rules}
use Rattle.tp_auto.proofs.RestLemmas.{draining_ends, draining_falls, draining_few, draining_first, draining_more, draining_quiet, draining_stops, stopped_few}
use Rattle.tp_auto.proofs.UpLemmas.{knows_after}
use Rattle.tp_auto.proofs.auto.drain.Goals as goal

pub loop-step-init : goal.loop-step-init
loop-step-init g c = (draining_first _ c.facts-facts.ensures.valid c.facts-facts.ensures.named c.facts-facts.ensures.reached (search rules), search rules, λ so. so)

pub loop-step-preserved : goal.loop-step-preserved
loop-step-preserved g c = (
  draining_more _ _ _ c.loop-step.cursor c.cursor_after-after.result c.in-Some.step c.loop-step.invariant.0 c.cursor_after-after.ensures c.in-Some.ensures.value c.in-Ok.ensures.ok,
  knows_after _ _ c.loop-step.cursor c.in-Some.step c.keeps_up-all_up.result c.keeps_up-all_up.ensures c.in-Some.ensures.value c.in-Ok.ensures.ok,
  λ so. c.in-Ok.ensures.followed (c.loop-step.invariant.2 so),
)

pub loop-step-smaller : goal.loop-step-smaller
loop-step-smaller g c =
    draining_falls _ _ _ c.loop-step.cursor c.cursor_after-after.result c.in-Some.step c.loop-step.invariant.0 c.cursor_after-after.ensures c.in-Some.ensures.value c.in-Ok.ensures.ok

pub returns-in-Err-clause-few : goal.returns-in-Err-clause-few
returns-in-Err-clause-few g c =
    stopped_few _ _ _ c.loop-step.cursor c.in-Some.step c.in-Err.field-0 c.loop-step.invariant.0 c.in-Some.ensures.allowed c.in-Err.ensures.refused c.in-Err.ensures.memory

pub returns-in-Err-clause-stopped : goal.returns-in-Err-clause-stopped
returns-in-Err-clause-stopped g c =
    λ _ _. draining_stops _ _ _ c.loop-step.cursor c.in-Some.step c.in-Err.field-0 c.loop-step.invariant.0 c.in-Some.ensures.value c.in-Some.ensures.allowed c.in-Err.ensures.refused c.in-Err.ensures.memory

pub returns-clause-quiet : goal.returns-clause-quiet
returns-clause-quiet g c = draining_quiet c.loop-step.world c.loop-step.cursor c.in_default.ensures.value

pub returns-clause-steps : goal.returns-clause-steps
returns-clause-steps g c = draining_ends _ _ c.loop-step.cursor c.loop-step.invariant.0 c.in_default.ensures.value

pub returns-clause-few : goal.returns-clause-few
returns-clause-few g c = draining_few _ _ c.loop-step.cursor c.loop-step.invariant.0
