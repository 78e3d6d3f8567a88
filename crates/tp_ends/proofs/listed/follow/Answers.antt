use Rattle.std.proofs.Common.{ap, rules, ◌∙◌}
use Rattle.std.proofs.Math.Seq.{drop-cons}
use Rattle.tp_machine.specs.WorldView.{WorldView}
use Rattle.tp_ends.proofs.ListedRun.{followed_more, scenario_kept, still_followed}
use Rattle.tp_ends.proofs.listed.follow.Goals as goal

pub loop-at-preserved : goal.loop-at-preserved
loop-at-preserved g c = (
  followed_more _ _ _ c.args.steps.now c.loop-at.at _ _ c.loop-at.invariant.0 (drop-cons c.args.steps.now c.loop-at.at _ c.loop-at-test.true) c.in-Ok.ensures.ok,
  λ so. c.in-Ok.ensures.followed (c.loop-at.invariant.1 so),
)

pub returns-in-Err-clause-kept : goal.returns-in-Err-clause-kept
returns-in-Err-clause-kept g c =
    let refused = c.in-Err.ensures.refused (search rules) in
    ap (λ (w : WorldView). w.scenario) refused.unchanged ∙ scenario_kept c.args.world.now c.loop-at.world c.args.steps.now c.loop-at.at c.loop-at.invariant.0

pub returns-in-Err-clause-before : goal.returns-in-Err-clause-before
returns-in-Err-clause-before g c =
    let refused = c.in-Err.ensures.refused (search rules) in
    ap (λ (w : WorldView). w.machine.state.steps) refused.unchanged ∙ c.loop-at.invariant.0.done

pub returns-in-Err-clause-followed : goal.returns-in-Err-clause-followed
returns-in-Err-clause-followed g c =
    let refused = c.in-Err.ensures.refused (search rules) in
    λ so. still_followed g.W.Watch.follows _ _ _ _ (c.in-Err.ensures.unseen (search rules)) refused.unchanged (c.loop-at.invariant.1 so)
