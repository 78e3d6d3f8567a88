use Rattle.tp_cluster_cases.proofs.calls.trial_of.Given as goal

abbrev pub ghosts-trial_on : goal.ghosts-trial_on
ghosts-trial_on g a = record { table = a.opening.table; about = a.opening.about }
