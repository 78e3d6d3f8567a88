use Rattle.tp_race_tests.proofs.finishes.finished.Given as goal

abbrev pub ghosts-finished_on : goal.ghosts-finished_on
ghosts-finished_on g a = record { table = a.opening.table; about = a.opening.about }
