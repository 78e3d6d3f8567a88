use Rattle.tp_cluster_cases.proofs.steps_done.Given as goal

abbrev pub ghosts-run_on : goal.ghosts-run_on
ghosts-run_on g a = record { table = a.opening.table; about = a.opening.about }
