use Rattle.std.proofs.Common.{subst}
use Rattle.tp_ends.proofs.ListedRun.{listed_exist}
use Rattle.tp_ends.proofs.RestLemmas.{rested_told}
use Rattle.tp_top.specs.Run.{report_told}
use Rattle.tp_top.specs.mirrors.Runs.{HasRun}
use Rattle.tp_top.proofs.run.report_in.Goals as goal

pub returns-in_ok-text_of-in-AtRest : goal.returns-in_ok-text_of-in-AtRest
returns-in_ok-text_of-in-AtRest c =
    let sc = c.args.world.now.scenario in
    let told = c.in_ok-text_of-in-AtRest.ensures in
    rested_told report_told sc sc.steps c.run.new.world c.in_ok-text_of-in-AtRest.field-0.0 c.requires.valid (listed_exist sc c.requires.valid)
    (subst (HasRun sc c.run.new.world) c.in-AtRest.is c.in_ok-refused.ensures.run) told.text told.so_far told.whole
