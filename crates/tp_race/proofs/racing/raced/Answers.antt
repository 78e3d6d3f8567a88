use Rattle.tp_race.proofs.racing.raced.Goals as goal

pub run_scripts-requires-clause-passes : goal.run_scripts-requires-clause-passes
run_scripts-requires-clause-passes g c = λ κs within. c.in_ok-cluster.ensures

pub returns : goal.returns
returns g c = record { site = c.in_ok-passes.ensures.site; ended = c.in_ok-passes.ensures.ended }
