use Rattle.std.proofs.Common.{◌+◌, ◌∙◌, List, ap, length, sym}
use Rattle.tp_model.specs.Words.{Scenario, Step}
use Rattle.tp_wire.specs.Passes.{Known, fresh_pass}
use Rattle.tp_cluster.specs.Runs.{actors_of}
use Rattle.tp_race.specs.Callers.{scripts_of}
use Rattle.tp_race.proofs.PassLemmas.{all_have_ended, all_of_table, as_many, dealt, given_back}
use Rattle.tp_race.proofs.CommandLemmas.{told_commands}
use Rattle.tp_race.proofs.threads.run_scripts.Goals as goal

pub work_each-requires-clause-commands : goal.work_each-requires-clause-commands
work_each-requires-clause-commands g c κs within =
    told_commands c.args.scenario.now g.B.Site.about.scenario c.in_ok-scripts.scripts c.requires.about c.requires.valid c.in_ok-scripts.ensures

pub work_each-requires-clause-fresh : goal.work_each-requires-clause-fresh
work_each-requires-clause-fresh g c κs within =
    let sc = g.B.Site.about.scenario in
    let table = g.B.Site.table in
    let cut = dealt table (actors_of sc) g.B.Site.about.callers sc c.args.passes c.pop.new.self c.in-Some.last c.requires.passes c.requires.callers c.in-Some.ensures.some in
    as_many table (actors_of sc) (length (scripts_of sc)) c.as_mut_slice.result.now (c.as_mut_slice.ensures.value ∙ (c.into_vec-others.ensures ∙ cut.0))

pub work-requires-clause-commands : goal.work-requires-clause-commands
work-requires-clause-commands g c =
    told_commands c.args.scenario.now g.B.Site.about.scenario c.in_ok-scripts.scripts c.requires.about c.requires.valid c.in_ok-scripts.ensures

pub work-requires-clause-fresh : goal.work-requires-clause-fresh
work-requires-clause-fresh g c =
    let sc = g.B.Site.about.scenario in
    let table = g.B.Site.table in
    let cut = dealt table (actors_of sc) g.B.Site.about.callers sc c.args.passes c.pop.new.self c.in-Some.last c.requires.passes c.requires.callers c.in-Some.ensures.some in
    let found = c.in_ok-scripts.ensures ∙ ap (λ (s : Scenario). scripts_of s) c.requires.about in
    cut.1 ∙ ap (λ n. fresh_pass table (actors_of sc + n)) (sym (ap (λ (ss : List (List Step)). length ss) found) ∙ sym c.len.ensures)

pub returns-clause-site : goal.returns-clause-site
returns-clause-site g c =
    let sc = g.B.Site.about.scenario in
    let table = g.B.Site.table in
    let cut = dealt table (actors_of sc) g.B.Site.about.callers sc c.args.passes c.pop.new.self c.in-Some.last c.requires.passes c.requires.callers c.in-Some.ensures.some in
    let found = c.in_ok-scripts.ensures ∙ ap (λ (s : Scenario). scripts_of s) c.requires.about in
    let back = given_back sc table (actors_of sc) c.len.result c.into_vec-others.result.len c.pop.new.self c.into_vec-others.result.items c.work_each.new.passes c.from_vec-all.result c.push.new.self c.work.new.pass
    cut.0 c.into_vec-others.ensures (c.work_each.auto.passes ∙ ap (λ (ps : List Known). length ps) c.as_mut_slice.ensures.value) c.into_vec-others.result.ok.0 c.from_vec-all.ensures c.in_ok-push.ensures.ok
    (c.len.ensures ∙ ap (λ (ss : List (List Step)). length ss) found) c.work_each.ensures c.work.ensures in
    all_of_table sc table c.push.new.self back.0

pub returns-clause-ended : goal.returns-clause-ended
returns-clause-ended g c =
    let sc = g.B.Site.about.scenario in
    let table = g.B.Site.table in
    let cut = dealt table (actors_of sc) g.B.Site.about.callers sc c.args.passes c.pop.new.self c.in-Some.last c.requires.passes c.requires.callers c.in-Some.ensures.some in
    let found = c.in_ok-scripts.ensures ∙ ap (λ (s : Scenario). scripts_of s) c.requires.about in
    let back = given_back sc table (actors_of sc) c.len.result c.into_vec-others.result.len c.pop.new.self c.into_vec-others.result.items c.work_each.new.passes c.from_vec-all.result c.push.new.self c.work.new.pass
    cut.0 c.into_vec-others.ensures (c.work_each.auto.passes ∙ ap (λ (ps : List Known). length ps) c.as_mut_slice.ensures.value) c.into_vec-others.result.ok.0 c.from_vec-all.ensures c.in_ok-push.ensures.ok
    (c.len.ensures ∙ ap (λ (ss : List (List Step)). length ss) found) c.work_each.ensures c.work.ensures in
    all_have_ended sc table c.push.new.self back.1 back.0
