use Rattle.std.proofs.Common.{subst}
use Rattle.tp_model.specs.Words.{Scenario}
use Rattle.tp_top.proofs.BulkCases.{never_stopped}
use Rattle.tp_ends.proofs.ListedRun.{listed_exist}
use Rattle.tp_ends.proofs.RestLemmas.{rested_told}
use Rattle.tp_top.specs.Bulk.{line_told}
use Rattle.tp_ends.specs.Calls.{IsRestedTo}
use Rattle.tp_top.specs.mirrors.Runs.{HasRun}
use Rattle.tp_top.proofs.bulk.count_in.Goals as goal

pub unreachable-requires : goal.unreachable-requires
unreachable-requires c =
    never_stopped c.args.world.now.scenario c.args.count c.in-Stopped.field-0 c.requires.made
    (subst (HasRun c.args.world.now.scenario c.run.new.world) c.in-Stopped.is c.in_ok-run.ensures.run).first

pub returns : goal.returns
returns c =
    let sc = c.args.world.now.scenario in
    let told = c.in_ok-line_in-in-AtRest.ensures in
    subst (λ (s : Scenario). IsRestedTo (line_told c.args.count) s s.steps c.in_ok-line_in-in-AtRest.field-0.0) c.requires.made
    (rested_told (line_told c.args.count) sc sc.steps c.run.new.world c.in_ok-line_in-in-AtRest.field-0.0 c.requires.valid (listed_exist sc c.requires.valid)
    (subst (HasRun sc c.run.new.world) c.in-AtRest.is c.in_ok-run.ensures.run) told.text told.so_far told.whole)
