use Rattle.std.proofs.Common.{◌∙◌, ap}
use Rattle.tp_wire.specs.Passes.{fresh_passes}
use Rattle.tp_cluster.specs.Runs.{actors_of}
use Rattle.tp_race_tests.proofs.finishes.used_cluster.Goals as goal

pub used-requires-clause-passes : goal.used-requires-clause-passes
used-requires-clause-passes g c =
    c.in_ok-cluster.ensures ∙ ap (fresh_passes g.B.Site.table (actors_of g.B.Site.about.scenario)) c.requires.callers

pub returns : goal.returns
returns g c = c.in_ok-passes.ensures
