use denote.Param.Send.{IsSync, given_sync, sendable}
use Rattle.std.proofs.Common.{◌∙◌, ◌<◌, subst}
use Rattle.std.proofs.Crossing
use Rattle.tp_types.proofs.list.List.TheSendSync as list
use Rattle.tp_types.proofs.policy.Cond.TheLaws.TheKnot
use Rattle.tp_types.proofs.scenario.Step.TheSendSync as step
use Rattle.tp_types.specs.contracts.list.List
use Rattle.tp_types.specs.contracts.scenario.Step
use Rattle.tp_wire.proofs.wire.Wire.TheSendSync as wire
use Rattle.tp_wire.specs.Passes.{Known}
use Rattle.tp_cluster.proofs.opening.Actors.TheSendSync as actors
use Rattle.tp_cluster.specs.Runs.{actors_of}
use Rattle.tp_cluster.specs.contracts.cluster.Cluster
use Rattle.tp_cluster.specs.contracts.plan.Plan as plan
use Rattle.tp_race.specs.Commands.{HasWorked}
use Rattle.tp_race.proofs.PassLemmas.{got, one_fresh}
use Rattle.tp_race.proofs.threads.work_each.Goals as goal

-- A search for the whole cluster gives up inside the plan, so that the plan has a search of its own.
plan_sync : IsSync (plan.the_field).row
plan_sync = search (Crossing.crosses, TheKnot.crosses, sendable) depth 60 fits 20000

pub for_each_mut-requires-sync-F : goal.for_each_mut-requires-sync-F
for_each_mut-requires-sync-F g c κs within =
    -- what the closure captures, in its order: the runtime, the allocator, the cluster, the scripts and the gate
    let r : IsSync g.row.R = given_sync 1 g.row.R c.type_bounds.sync-R in
    let s : IsSync g.row.G = given_sync 2 g.row.G c.type_bounds.sync-G in
    let l : IsSync (List.the_row (List.the_row Step.the_row)) = list.the_sync (List.the_row Step.the_row) (list.the_sync Step.the_row step.the_sync) in
    let h : IsSync (Cluster.the_row g.row.B g.B.Site) = search (plan_sync, wire.the_field_sync, actors.the_field_sync, sendable) depth 30 fits 20000 in
    record {
      shared = λ x b o κ. (
        (
          ((λ _. tt), r.shared x.0.now x.0.ref_ptr.0 x.0.ref_ptr.1 _),
          (
            ((λ _. tt), Crossing.sync.shared x.1.now x.1.ref_ptr.0 x.1.ref_ptr.1 κ),
            (
              ((λ _. tt), h.shared x.2.now x.2.ref_ptr.0 x.2.ref_ptr.1 _),
              (
                ((λ _. tt), l.shared x.3.now x.3.ref_ptr.0 x.3.ref_ptr.1 _),
                (((λ _. tt), s.shared x.4.now x.4.ref_ptr.0 x.4.ref_ptr.1 _), tt),
              ),
            ),
          ),
        ),
        λ _. tt,
      );
    }

pub for_each_mut-requires-clause-accepts : goal.for_each_mut-requires-clause-accepts
for_each_mut-requires-clause-accepts g c κs within = λ n p less is.
    (c.requires.scripts, (c.requires.commands, one_fresh g.B.Site.table (actors_of g.B.Site.about.scenario) n c.args.passes.now p.now c.requires.fresh less is))

pub returns : goal.returns
returns g c = λ n found there.
    let at = got c.for_each_mut.new.s n found found there in
    let e = c.for_each_mut.ensures n found (subst (λ k. n < k) c.for_each_mut.auto.s at.0) in
    subst (λ (p : Known). HasWorked g.B.Site.about.scenario g.B.Site.table n p) (e.1.left ∙ at.1) e.1.call
