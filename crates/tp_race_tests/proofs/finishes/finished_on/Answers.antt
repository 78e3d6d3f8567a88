use Rattle.tp_race_tests.proofs.finishes.finished_on.Goals as goal

pub finish-requires : goal.finish-requires
finish-requires g c = c.in-Ok.ensures
