use Rattle.std.proofs.Common.{◌∙◌, sym}
use Rattle.tp_wire.specs.Passes.{fresh_pass}
use Rattle.tp_cluster.specs.Runs.{actors_of}
use Rattle.tp_race_tests.proofs.PassLemmas.{one_is_all, only_one}
use Rattle.tp_race_tests.proofs.finishes.used.Goals as goal

pub submit_first-requires-clause-pass : goal.submit_first-requires-clause-pass
submit_first-requires-clause-pass g c =
    (only_one c.pop.new.self c.in-Some.pass (fresh_pass g.B.Site.table (actors_of g.B.Site.about.scenario)) (sym c.requires.passes ∙ c.in-Some.ensures.some)).1

pub returns : goal.returns
returns g c =
    let cut = only_one c.pop.new.self c.in-Some.pass (fresh_pass g.B.Site.table (actors_of g.B.Site.about.scenario)) (sym c.requires.passes ∙ c.in-Some.ensures.some) in
    one_is_all g.B.Site.about g.B.Site.table c.submit_first.new.pass c.pop.new.self c.push.new.self c.requires.callers cut.0 c.in_ok-push.ensures.ok c.submit_first.ensures.site c.submit_first.ensures.number
